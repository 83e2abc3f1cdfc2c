-- The first table that has one has the lane, or none has one.
use Rattle.std.proofs.Common.{◌≡◌, ◌<◌, false, length, position, below_more, refl, sym, ◌∙◌, ap, arith}
use Rattle.std.specs.List.{list_any}
use Rattle.hq_log.specs.Places.{is_dirty}
use Rattle.hq_log.proofs.Nexts.{none_passes}
use Rattle.hq_pool.specs.Slots as slots
use Rattle.hq_catalog.specs.State.{TableState, table_in, places_in}
use Rattle.hq_catalog.proofs.Parts.{read_table}
use Rattle.hq_catalog.proofs.kind.kind_of_sweep.Goals as goal

pub lowest_dirty-requires : goal.lowest_dirty-requires
lowest_dirty-requires g c =
    let ts = c.args.tables.now.items in
    let t = c.loop-t.t in
    let lt : t < length ts = omega (arith, c.args.tables.now.ok.0) in
    let read : c.index.result.now ≡ table_in ts t = read_table ts t t c.index.result.now c.index.ensures refl lt in
    ap (λ (z : TableState). length z.slots) read ∙ c.requires.lanes t lt

pub returns-in-Some : goal.returns-in-Some
returns-in-Some g c =
    let ts = c.args.tables.now.items in
    let t = c.loop-t.t in
    let lt : t < length ts = omega (arith, c.args.tables.now.ok.0) in
    let read : c.index.result.now ≡ table_in ts t = read_table ts t t c.index.result.now c.index.ensures refl lt in
    (c.loop-t.invariant, ap (λ (z : TableState). position is_dirty (slots.places z.slots)) (sym read) ∙ sym c.in-Some.ensures)

pub loop-t-preserved : goal.loop-t-preserved
loop-t-preserved g c =
    let ts = c.args.tables.now.items in
    let t = c.loop-t.t in
    let lt : t < length ts = omega (arith, c.args.tables.now.ok.0) in
    let read : c.index.result.now ≡ table_in ts t = read_table ts t t c.index.result.now c.index.ensures refl lt in
    let here : list_any is_dirty (places_in ts t) ≡ false = none_passes is_dirty (places_in ts t) (ap (λ (z : TableState). position is_dirty (slots.places z.slots)) (sym read) ∙ sym c.in-None.ensures) in
    below_more _ _ c.loop-t.invariant here

pub returns : goal.returns
returns g c = λ u h. c.loop-t.invariant u (omega (arith, h, c.args.tables.now.ok.0))
