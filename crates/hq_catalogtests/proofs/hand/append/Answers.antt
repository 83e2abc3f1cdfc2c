-- The lane behind rows appended to the one part that has all files.
use Rattle.std.proofs.Common.{◌∙◌, false, slice_set, ap, rules, sym, subst}
use Rattle.hq_block.specs.Block.{pack}
use Rattle.hq_lane.specs.BucketFiles.{BucketState}
use Rattle.hq_lane.specs.Lanes.{LaneState, file_of, AreOneLane}
use Rattle.hq_catalogtests.specs.Turns.{StaysHeld}
use Rattle.hq_catalogtests.specs.declared.hand.Held.TheVariants as held
use Rattle.hq_catalogtests.proofs.Appended.{zeros, zeros_within, at_ok, first_part, same_heads, here, before, grown_keeps, same_lane, no_new_seal, whole_still}
use Rattle.hq_catalogtests.proofs.Worked.{writes_on, torn_now}
use Rattle.hq_catalogtests.proofs.hand.append.Goals as goal

pub append_rows-written-requires : goal.append_rows-written-requires
append_rows-written-requires c =
    let lane = c.args.lane in
    let parts = c.in-Ok.parts.items in
    let now = c.index_mut.result.now in
    let are = c.in-Ok.ensures.parts in
    let first = first_part parts now are.sixteen c.index_mut.ensures.value in
    let has = here lane parts now c.args.bucket are first c.requires.in_range in
    let torn = ap (λ (p : BucketState). p.torn) (before lane parts now are first c.args.bucket c.requires.in_range) ∙ c.requires.whole c.args.bucket c.requires.in_range in
    search rules

pub whole-lane-requires : goal.whole-lane-requires
whole-lane-requires c =
    let are = c.in-Ok.ensures.parts in
    let parts = c.in-Ok.parts.items in
    let now = c.index_mut.result.now in
    let new = c.append_rows-written.new.self in
    let first = first_part parts now are.sixteen c.index_mut.ensures.value in
    let one : AreOneLane (slice_set parts 0 new) = c.parts_make_a_lane.ensures.one c.args.lane zeros parts (slice_set parts 0 new) zeros_within are (same_heads parts now new c.args.bucket first c.append_rows-written.ensures.others) in
    search rules

pub returns-in-Err : goal.returns-in-Err
returns-in-Err c = subst (λ (l : LaneState). StaysHeld (held.Writes c.args.lane) (held.Writes l)) (sym c.in-Err.ensures.back) (λ k history lanes has. has)

pub returns-in-Ok-written : goal.returns-in-Ok-written
returns-in-Ok-written c =
    let lane = c.args.lane in
    let whole = c.whole-lane.result in
    let bucket = c.args.bucket in
    let are = c.in-Ok.ensures.parts in
    let parts = c.in-Ok.parts.items in
    let now = c.index_mut.result.now in
    let new = c.append_rows-written.new.self in
    let ap_rows = c.append_rows-written.ensures in
    let first = first_part parts now are.sixteen c.index_mut.ensures.value in
    let same = same_heads parts now new bucket first ap_rows.others in
    let heads = c.parts_make_a_lane.ensures.table lane whole zeros parts (slice_set parts 0 new) are same c.whole-lane.ensures in
    let files = c.parts_make_a_lane.ensures.places lane whole zeros parts (slice_set parts 0 new) zeros_within are same c.whole-lane.ensures in
    let keeps = grown_keeps false c.args.kinds.now c.args.rows.now (pack c.args.kinds.now c.args.rows.now) (file_of now.files bucket) (file_of new.files bucket) c.append_rows-written.result ap_rows.packed ap_rows.first in
    writes_on lane whole
    (same_lane lane whole parts now new bucket are first ap_rows.others c.requires.in_range files heads keeps.0)
    (no_new_seal lane whole parts now new bucket are first ap_rows.others c.requires.in_range files keeps.1)
    (whole_still lane whole parts now new bucket are first ap_rows.others c.requires.in_range files c.requires.whole (at_ok (file_of new.files bucket).torn _ c.append_rows-written.result c.in-Ok-written.is ap_rows.whole))

pub returns-in-Err-written : goal.returns-in-Err-written
returns-in-Err-written c =
    let lane = c.args.lane in
    let whole = c.whole-lane.result in
    let bucket = c.args.bucket in
    let are = c.in-Ok.ensures.parts in
    let parts = c.in-Ok.parts.items in
    let now = c.index_mut.result.now in
    let new = c.append_rows-written.new.self in
    let ap_rows = c.append_rows-written.ensures in
    let first = first_part parts now are.sixteen c.index_mut.ensures.value in
    let same = same_heads parts now new bucket first ap_rows.others in
    let heads = c.parts_make_a_lane.ensures.table lane whole zeros parts (slice_set parts 0 new) are same c.whole-lane.ensures in
    let files = c.parts_make_a_lane.ensures.places lane whole zeros parts (slice_set parts 0 new) zeros_within are same c.whole-lane.ensures in
    let keeps = grown_keeps false c.args.kinds.now c.args.rows.now (pack c.args.kinds.now c.args.rows.now) (file_of now.files bucket) (file_of new.files bucket) c.append_rows-written.result ap_rows.packed ap_rows.first in
    torn_now lane whole
    (same_lane lane whole parts now new bucket are first ap_rows.others c.requires.in_range files heads keeps.0)
    (no_new_seal lane whole parts now new bucket are first ap_rows.others c.requires.in_range files keeps.1)
