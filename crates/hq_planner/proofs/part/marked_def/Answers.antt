use Rattle.std.proofs.Common.{◌∙◌, ap}
use Rattle.hq_planner.specs.Marked.{marked}
use Rattle.hq_planner.proofs.Parts.{def-keeps}
use Rattle.hq_planner.proofs.part.marked_def.Goals as goal

pub new-requires : goal.new-requires
new-requires c =
    def-keeps c.args.whole.now c.args.marks.now c.args.places.now c.requires.marks c.requires.places c.in_ok-name.name c.in_ok-columns.columns c.in_ok-keys.keys c.keeps_the_rules.ensures c.requires.some
    (c.in_ok-columns.ensures ∙ ap (marked c.args.marks.now) (c.as_slice-all.ensures ∙ c.columns.ensures.columns)) c.in_ok-keys.ensures.distinct c.in_ok-keys.ensures.within
