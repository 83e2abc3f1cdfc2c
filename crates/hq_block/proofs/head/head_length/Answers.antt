use Rattle.std.proofs.Common.{refl, arith}
use Rattle.hq_block.proofs.Heads.{head_read, no_head}
use Rattle.hq_block.proofs.head.head_length.Goals as goal

pub returns-in-None-clause-none : goal.returns-in-None-clause-none
returns-in-None-clause-none c = no_head c.args.bytes.now c.in-None.ensures

pub returns-in-Some-clause-found : goal.returns-in-Some-clause-found
returns-in-Some-clause-found c = record {
  head = c.in-Some.head;
  is = (head_read c.args.bytes.now c.in-Some.head c.in-Some.field-0-1.now (λ i. omega (arith, c.type_inv.bytes i)) c.in-Some.ensures).0;
  length_is = refl;
}
