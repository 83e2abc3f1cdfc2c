-- The lane of the table is written in its place.
use Rattle.std.proofs.Common.{◌≡◌, ◌∙◌, ◌<◌, List, length, slice_set, refl, sym, ap, subst, arith}
use Rattle.std.proofs.lemmas.List.{get_or_default}
use Rattle.hq_lane.specs.Lanes.{LaneState, AreWhole, HaveNoSeal}
use Rattle.hq_txn.specs.Ends.{AreWholeBefore}
use Rattle.hq_txn.specs.Transactions.{no_lane, place_of}
use Rattle.hq_txn.specs.Writes.{AddsRows, AddsFirst, GainsRows}
use Rattle.hq_txn.proofs.Growing.{lane-gains}
use Rattle.hq_txn.proofs.InHand.{only-one, carried}
use Rattle.hq_txn.proofs.Standing.{stands-begun, no-seal-begun}
use Rattle.hq_txn.proofs.txn.Txn.write.Goals as goal

pub invariant_of-self-in-Err : goal.invariant_of-self-in-Err
invariant_of-self-in-Err g c =
    let lanes = c.self.inside.lanes.items in
    let place = c.find_lane-place.result in
    let was = c.index_mut.result.now in
    let lane = c.write_lane.new.lane in
    let found : place ≡ place_of lanes c.args.table = c.find_lane-place.ensures.place ∙ ap (λ (ls : List LaneState). place_of ls c.args.table) c.deref.ensures.value in
    let inside : place < length lanes = omega (arith, c.find_lane-place.ensures.within, ap length c.deref.ensures.value) in
    let read = c.index_mut.ensures.value in
    stands-begun c.self.inside.state lanes place lane inside c.self.invariant (c.write_lane.ensures.table ∙ ap (λ (l : LaneState). l.table) (read ∙ get_or_default lanes place was no_lane inside))
    (no-seal-begun g.F.StoredFile.tells c.args.def.now c.args.rows.now was lane c.write_lane.ensures.first (subst (λ (l : LaneState). HaveNoSeal l.files) (sym read) (c.self.invariant.no_seal place was inside)))

pub returns-in-Ok-clause-others : goal.returns-in-Ok-clause-others
returns-in-Ok-clause-others g c =
    let lanes = c.self.inside.lanes.items in
    let place = c.find_lane-place.result in
    let was = c.index_mut.result.now in
    let lane = c.write_lane.new.lane in
    let found : place ≡ place_of lanes c.args.table = c.find_lane-place.ensures.place ∙ ap (λ (ls : List LaneState). place_of ls c.args.table) c.deref.ensures.value in
    let inside : place < length lanes = omega (arith, c.find_lane-place.ensures.within, ap length c.deref.ensures.value) in
    rw (← c.self.view_is) (only-one lanes (slice_set lanes place lane) c.args.table place was lane found inside c.index_mut.ensures.value refl c.write_lane.ensures.table)

pub returns-in-Ok-clause-first : goal.returns-in-Ok-clause-first
returns-in-Ok-clause-first g c =
    let lanes = c.self.inside.lanes.items in
    let place = c.find_lane-place.result in
    let was = c.index_mut.result.now in
    let lane = c.write_lane.new.lane in
    let found : place ≡ place_of lanes c.args.table = c.find_lane-place.ensures.place ∙ ap (λ (ls : List LaneState). place_of ls c.args.table) c.deref.ensures.value in
    let inside : place < length lanes = omega (arith, c.find_lane-place.ensures.within, ap length c.deref.ensures.value) in
    rw (← c.self.view_is) (carried lanes (slice_set lanes place lane) c.args.table place was lane found inside c.index_mut.ensures.value refl c.write_lane.ensures.table (AddsFirst g.F.StoredFile.tells c.args.def.now c.args.rows.now) c.write_lane.ensures.first)

pub returns-in-Err-clause-others : goal.returns-in-Err-clause-others
returns-in-Err-clause-others g c =
    let lanes = c.self.inside.lanes.items in
    let place = c.find_lane-place.result in
    let was = c.index_mut.result.now in
    let lane = c.write_lane.new.lane in
    let found : place ≡ place_of lanes c.args.table = c.find_lane-place.ensures.place ∙ ap (λ (ls : List LaneState). place_of ls c.args.table) c.deref.ensures.value in
    let inside : place < length lanes = omega (arith, c.find_lane-place.ensures.within, ap length c.deref.ensures.value) in
    rw (← c.self.view_is) (only-one lanes (slice_set lanes place lane) c.args.table place was lane found inside c.index_mut.ensures.value refl c.write_lane.ensures.table)

pub returns-in-Err-clause-first : goal.returns-in-Err-clause-first
returns-in-Err-clause-first g c =
    let lanes = c.self.inside.lanes.items in
    let place = c.find_lane-place.result in
    let was = c.index_mut.result.now in
    let lane = c.write_lane.new.lane in
    let found : place ≡ place_of lanes c.args.table = c.find_lane-place.ensures.place ∙ ap (λ (ls : List LaneState). place_of ls c.args.table) c.deref.ensures.value in
    let inside : place < length lanes = omega (arith, c.find_lane-place.ensures.within, ap length c.deref.ensures.value) in
    rw (← c.self.view_is) (carried lanes (slice_set lanes place lane) c.args.table place was lane found inside c.index_mut.ensures.value refl c.write_lane.ensures.table (AddsFirst g.F.StoredFile.tells c.args.def.now c.args.rows.now) c.write_lane.ensures.first)

pub returns-in-Ok-clause-written : goal.returns-in-Ok-clause-written
returns-in-Ok-clause-written g c =
    let lanes = c.self.inside.lanes.items in
    let place = c.find_lane-place.result in
    let was = c.index_mut.result.now in
    let lane = c.write_lane.new.lane in
    let found : place ≡ place_of lanes c.args.table = c.find_lane-place.ensures.place ∙ ap (λ (ls : List LaneState). place_of ls c.args.table) c.deref.ensures.value in
    let inside : place < length lanes = omega (arith, c.find_lane-place.ensures.within, ap length c.deref.ensures.value) in
    rw (← c.self.view_is) (carried lanes (slice_set lanes place lane) c.args.table place was lane found inside c.index_mut.ensures.value refl c.write_lane.ensures.table (AddsRows g.F.StoredFile.tells c.args.def.now c.args.rows.now) c.in-Ok.ensures.written)

pub returns-in-Ok-clause-rows : goal.returns-in-Ok-clause-rows
returns-in-Ok-clause-rows g c =
    let lanes = c.self.inside.lanes.items in
    let place = c.find_lane-place.result in
    let was = c.index_mut.result.now in
    let lane = c.write_lane.new.lane in
    let found : place ≡ place_of lanes c.args.table = c.find_lane-place.ensures.place ∙ ap (λ (ls : List LaneState). place_of ls c.args.table) c.deref.ensures.value in
    let inside : place < length lanes = omega (arith, c.find_lane-place.ensures.within, ap length c.deref.ensures.value) in
    rw (← c.self.view_is) (carried lanes (slice_set lanes place lane) c.args.table place was lane found inside c.index_mut.ensures.value refl c.write_lane.ensures.table (GainsRows g.F.StoredFile.tells c.args.def.now c.args.rows.now) (lane-gains g.F.StoredFile.tells c.args.def.now c.args.rows.now was lane c.in-Ok.ensures.written))

pub returns-in-Err-clause-whole : goal.returns-in-Err-clause-whole
returns-in-Err-clause-whole g c =
    let lanes = c.self.inside.lanes.items in
    let place = c.find_lane-place.result in
    let was = c.index_mut.result.now in
    let lane = c.write_lane.new.lane in
    let found : place ≡ place_of lanes c.args.table = c.find_lane-place.ensures.place ∙ ap (λ (ls : List LaneState). place_of ls c.args.table) c.deref.ensures.value in
    let inside : place < length lanes = omega (arith, c.find_lane-place.ensures.within, ap length c.deref.ensures.value) in
    λ err. carried lanes (slice_set lanes place lane) c.args.table place was lane found inside c.index_mut.ensures.value refl c.write_lane.ensures.table (λ _ l. AreWhole l.files) (c.in-Err.ensures.whole err)

pub returns-in-Err-clause-whole_before : goal.returns-in-Err-clause-whole_before
returns-in-Err-clause-whole_before g c =
    let lanes = c.self.inside.lanes.items in
    let place = c.find_lane-place.result in
    let was = c.index_mut.result.now in
    let lane = c.write_lane.new.lane in
    let found : place ≡ place_of lanes c.args.table = c.find_lane-place.ensures.place ∙ ap (λ (ls : List LaneState). place_of ls c.args.table) c.deref.ensures.value in
    let inside : place < length lanes = omega (arith, c.find_lane-place.ensures.within, ap length c.deref.ensures.value) in
    λ n err. carried lanes (slice_set lanes place lane) c.args.table place was lane found inside c.index_mut.ensures.value refl c.write_lane.ensures.table (λ _ l. AreWholeBefore c.args.marks.now l n) (c.in-Err.ensures.whole_before n err)
