use Rattle.std.proofs.Common.{◌≡◌, drop}
use Rattle.hq_io.specs.Pieces.{is_blank, is_blank_from}
use Rattle.hq_io.proofs.place.is_blank.Given as goal

abbrev pub invariant-loop-at : goal.invariant-loop-at
invariant-loop-at l = record {
  blank : is_blank_from l.place (drop l.at l.text) ≡ is_blank l.text;
}
