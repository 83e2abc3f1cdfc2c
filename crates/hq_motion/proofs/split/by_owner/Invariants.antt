use Rattle.std.proofs.Common.{◌≡◌, ◌++◌, ℕ, length}
use Rattle.hq_algebra.specs.declared.plan.Motion.TheVariants as motion
use Rattle.hq_meaning.specs.Nodes.{moved}
use Rattle.hq_motion.specs.Lists.{list_at}
use Rattle.hq_motion.proofs.Splitting.{AllKeyed}
use Rattle.hq_motion.proofs.split.by_owner.Given as goal

abbrev pub invariant-loop-row : goal.invariant-loop-row
invariant-loop-row l = record {
  sixteen : length l.lists.items ≡ 16;
  shared : (n : ℕ) → moved (motion.Redistribute l.keys) l.owner l.fn.rows.items n ≡ list_at l.lists.items n ++ moved (motion.Redistribute l.keys) l.owner l.row-iterator.rest.items n;
  keyed : AllKeyed l.keys l.row-iterator.rest.items;
}
