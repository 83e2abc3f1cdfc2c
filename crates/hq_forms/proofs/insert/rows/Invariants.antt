use Rattle.std.proofs.Common.{◌≡◌, drop}
use Rattle.hq_forms.specs.Forms.{every, row_of}
use Rattle.hq_forms.proofs.Every.{with_front}
use Rattle.hq_forms.proofs.insert.rows.Given as goal

abbrev pub invariant-loop-tuple : goal.invariant-loop-tuple
invariant-loop-tuple l = with_front l.rows.items (every row_of (drop l.tuple-index l.tuples)) ≡ every row_of l.tuples
