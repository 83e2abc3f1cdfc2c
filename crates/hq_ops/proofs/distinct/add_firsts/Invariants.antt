use Rattle.std.proofs.Common.{◌≡◌, ◌++◌, List}
use Rattle.hq_value.specs.declared.value.Value.{Value}
use Rattle.hq_meaning.specs.Operators.{distinct}
use Rattle.hq_ops.proofs.distinct.add_firsts.Given as goal

abbrev pub invariant-loop-row : goal.invariant-loop-row
invariant-loop-row l = (before : List (List Value)) → l.fn.seen.keys ≡ distinct before → l.seen.keys ≡ distinct (before ++ l.yielded)
