-- The session has what it is to sweep.
use Rattle.std.proofs.Common.{false, length, refl, subst}
use Rattle.hq_catalog.specs.History.{history}
use Rattle.hq_catalogtests.specs.declared.hand.Held.{Held}
use Rattle.hq_catalogtests.specs.Turns.{HasBeside}
use Rattle.hq_catalogtests.proofs.Kept.{turned_same, turned_to}
use Rattle.hq_catalogtests.proofs.Answered.{sweeps}
use Rattle.hq_catalogtests.proofs.turns.sweep_any.Goals as goal

pub returns-in-Nothing-clause-turned : goal.returns-in-Nothing-clause-turned
returns-in-Nothing-clause-turned c =
    let old = history false c.args.catalogue.now in
    let new = history false c.answered.new.catalogue in
    let lanes = c.args.hand.sealed.items in
    let had = subst (λ (h : Held). HasBeside c.args.session old lanes h) c.in-Nothing.is c.requires.has.held in
    let has = sweeps (length c.args.catalogue.now.marks) c.args.session c.args.statement old new lanes c.answered.result (c.requires.has.sealed, had) c.answered.ensures.step in
    turned_to c.args.session old new (record { sealed = c.args.hand.sealed; held = c.take-held.result.0 }) lanes _ c.answered.ensures.keep refl c.take-held.ensures.held has

pub returns-in-Nothing-clause-made : goal.returns-in-Nothing-clause-made
returns-in-Nothing-clause-made c = c.take-held.ensures.made (history false c.answered.new.catalogue) c.answered.ensures.made

pub returns-in_default-clause-turned : goal.returns-in_default-clause-turned
returns-in_default-clause-turned c = turned_same c.args.session (history false c.args.catalogue.now) c.args.hand c.requires.has
