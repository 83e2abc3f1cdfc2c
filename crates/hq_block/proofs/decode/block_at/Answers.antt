use Rattle.std.proofs.Common.{arith}
use Rattle.hq_block.proofs.Heads.{head_read, rules_of}
use Rattle.hq_block.proofs.decode.block_at.Goals as goal

pub rows_in-requires : goal.rows_in-requires
rows_in-requires c =
    let found = head_read c.args.bytes.now c.in-Some.head c.in-Some.rest.now (λ i. omega (arith, c.type_inv.bytes i)) c.in-Some.ensures in
    let rules = rules_of c.in-Some.head found.0.rules in
    omega (arith, rules.within, c.split_at.ensures.front_len)
