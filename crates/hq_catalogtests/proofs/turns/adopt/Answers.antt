-- The session writes the lane that it has swept.
use Rattle.std.proofs.Common.{◌≡◌, ◌∙◌, List, false, length, ap, refl, subst, sym}
use Rattle.hq_lane.specs.Lanes.{LaneState}
use Rattle.hq_catalog.specs.History.{history}
use Rattle.hq_catalogtests.specs.declared.hand.Held.{Held}
use Rattle.hq_catalogtests.specs.Turns.{HasBeside, has_table}
use Rattle.hq_catalogtests.proofs.Kept.{turned_same, turned_to}
use Rattle.hq_catalogtests.proofs.Answered.{adopts, may_adopt}
use Rattle.hq_catalogtests.proofs.turns.adopt.Goals as goal

pub answered-requires : goal.answered-requires
answered-requires c =
    let old = history false c.args.catalogue.now in
    let lanes = c.args.hand.sealed.items in
    let had = subst (λ (h : Held). HasBeside c.args.session old lanes h) c.in-Sweeps.is c.requires.has.held in
    let same : has_table lanes c.in-Sweeps.lane.table ≡ has_table c.deref.result.now c.table.result = ap (λ (ls : List LaneState). has_table ls c.in-Sweeps.lane.table) (sym c.deref.ensures.value) ∙ ap (has_table c.deref.result.now) (sym c.table.ensures) in
    let none : has_table lanes c.in-Sweeps.lane.table ≡ false = same ∙ sym c.has_table.ensures ∙ c.if-has_table.false in
    record { may = may_adopt c.args.session old lanes c.in-Sweeps.lane had.0 none had.1 (c.is_clean.ensures.exactly.0 c.if-not-is_clean.false) }

pub returns-else-has_table-clause-turned : goal.returns-else-has_table-clause-turned
returns-else-has_table-clause-turned c =
    let old = history false c.args.catalogue.now in
    let new = history false c.answered.new.catalogue in
    let lanes = c.args.hand.sealed.items in
    let had = subst (λ (h : Held). HasBeside c.args.session old lanes h) c.in-Sweeps.is c.requires.has.held in
    let has = adopts (length c.args.catalogue.now.marks) c.args.session c.args.statement old new lanes c.in-Sweeps.lane c.answered.result (c.requires.has.sealed, had) (c.is_clean.ensures.exactly.0 c.if-not-is_clean.false) c.answered.ensures.step in
    turned_to c.args.session old new (record { sealed = c.args.hand.sealed; held = c.take-held.result.0 }) lanes _ c.answered.ensures.keep refl c.take-held.ensures.held has

pub returns-else-has_table-clause-made : goal.returns-else-has_table-clause-made
returns-else-has_table-clause-made c = c.take-held.ensures.made (history false c.answered.new.catalogue) c.answered.ensures.made

pub returns-in_default-clause-turned : goal.returns-in_default-clause-turned
returns-in_default-clause-turned c = turned_same c.args.session (history false c.args.catalogue.now) c.args.hand c.requires.has
