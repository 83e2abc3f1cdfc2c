use Rattle.std.proofs.Common.{◌≡◌, drop}
use Rattle.hq_forms.specs.Forms.{every, value_of}
use Rattle.hq_forms.proofs.Every.{with_front}
use Rattle.hq_forms.proofs.insert.row.Given as goal

abbrev pub invariant-loop-literal : goal.invariant-loop-literal
invariant-loop-literal l = with_front l.row (every value_of (drop l.literal-index l.literals)) ≡ every value_of l.literals
