use Rattle.std.proofs.Common.{◌≡◌, length, drop, arith}
use Rattle.hq_block.specs.declared.fault.BlockFault.TheVariants as fault
use Rattle.hq_block.specs.Fault.{block_fault}
use Rattle.hq_block.specs.Reading.{block_at, with_front}
use Rattle.hq_block.proofs.BlockLaws.{no_block, rest_is_shorter, block_found, no_block_read}
use Rattle.hq_block.proofs.Rows.{front_known, front_none}
use Rattle.hq_block.proofs.decode.decode_block_into.Goals as goal

pub overflow_sub-result : goal.overflow_sub-result
overflow_sub-result c =
    let read = rw c.as_slice.ensures at c.in-Ok.ensures.read in
    rest_is_shorter c.args.kinds.now (drop (length c.args.rows.now.items) c.block_at.new.rows.items) c.args.bytes.now c.in-Ok.rest.now (λ i. omega (arith, c.type_inv.bytes i))
    (front_known c.args.rows.now.items c.block_at.new.rows.items (block_at c.args.kinds.now c.args.bytes.now) c.in-Ok.rest.now read)

pub returns-in-Ok-clause-found : goal.returns-in-Ok-clause-found
returns-in-Ok-clause-found c =
    let read = rw c.as_slice.ensures at c.in-Ok.ensures.read in
    block_found c.args.kinds.now (drop (length c.args.rows.now.items) c.block_at.new.rows.items) c.args.bytes.now c.in-Ok.rest.now (λ i. omega (arith, c.type_inv.bytes i))
    (front_known c.args.rows.now.items c.block_at.new.rows.items (block_at c.args.kinds.now c.args.bytes.now) c.in-Ok.rest.now read)

pub returns-in-Err-clause-not_a_block : goal.returns-in-Err-clause-not_a_block
returns-in-Err-clause-not_a_block c = λ e.
    let fails = rw c.as_slice.ensures at c.in-Err.ensures.read in
    let same : block_fault c.in-Err.misread ≡ fault.NotABlock = cc (c.from.ensures, e) in
    no_block c.args.kinds.now c.args.bytes.now
    (front_none c.args.rows.now.items (block_at c.args.kinds.now c.args.bytes.now) (no_block_read c.in-Err.misread (with_front c.args.rows.now.items (block_at c.args.kinds.now c.args.bytes.now)) same fails))
