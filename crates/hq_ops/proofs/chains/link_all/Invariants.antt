use Rattle.hq_ops.specs.Chains.{AreChained}
use Rattle.hq_ops.proofs.chains.link_all.Given as goal

abbrev pub invariant-loop-place : goal.invariant-loop-place
invariant-loop-place l = AreChained l.keys l.rows l.first.items l.next.items l.place
