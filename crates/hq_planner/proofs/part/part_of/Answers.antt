use Rattle.std.proofs.Common.{◌≡◌, ◌∙◌, ap, length, List}
use Rattle.hq_value.specs.declared.table.Column.{Column}
use Rattle.hq_planner.proofs.Parts.{part-is}
use Rattle.hq_planner.proofs.part.part_of.Goals as goal

pub returns-clause-part : goal.returns-clause-part
returns-clause-part c =
    let many : length c.args.marks.now ≡ length c.args.whole.now.columns = c.if-marks-columns.false ∙ ap (λ (l : List Column). length l) (c.as_slice-columns.ensures ∙ c.columns.ensures.columns) in
    part-is c.args.whole.now c.args.marks.now c.in_ok-places.places many c.in_ok-places.ensures.places c.in_ok-def.def c.in_ok-def.ensures.columns c.as_slice.result.now c.as_slice.ensures c.in_ok-def.ensures.keys
