use Rattle.std.proofs.Common.{sym, ap, ◌∙◌}
use Rattle.hq_pump.specs.Pumping.{lowest_at, lowest_of}
use Rattle.hq_pump.proofs.Turning.{place_read}
use Rattle.hq_pump.proofs.run.first_open.Goals as goal

pub returns-in-Some : goal.returns-in-Some
returns-in-Some c =
    let there = place_read c.args.lanes.now c.in-Some.place c.index-lanes-place.result c.in-Some.ensures.below c.index-lanes-place.is in
    c.lowest.ensures ∙ ap lowest_of (sym there) ∙ ap (lowest_at c.args.lanes.now) c.in-Some.ensures.place
