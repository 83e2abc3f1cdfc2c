use Rattle.std.proofs.Common.{◌≡◌, take}
use Rattle.hq_meaning.specs.Operators.{joined}
use Rattle.hq_ops.proofs.join.join_chains.Given as goal

abbrev pub invariant-loop-index : goal.invariant-loop-index
invariant-loop-index l = l.found.items ≡ joined l.keys l.right.keys.now (take l.index l.left) l.right.rows.now
