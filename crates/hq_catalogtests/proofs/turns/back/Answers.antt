-- The session has no lane but those that it has sealed.
use Rattle.std.proofs.Common.{false, length, inl, inr, refl, subst}
use Rattle.hq_log.specs.declared.place.Place.TheVariants.{Out, Sweeping}
use Rattle.hq_catalog.specs.History.{history}
use Rattle.hq_catalogtests.specs.declared.hand.Held.{Held}
use Rattle.hq_catalogtests.specs.Turns.{HasBeside}
use Rattle.hq_catalogtests.proofs.Kept.{turned_to}
use Rattle.hq_catalogtests.proofs.Answered.{backs, may_back}
use Rattle.hq_catalogtests.proofs.turns.back.Goals as goal

pub answered-requires : goal.answered-requires
answered-requires c =
    let old = history false c.args.catalogue.now in
    let lanes = c.args.hand.sealed.items in
    let had = subst (λ (h : Held). HasBeside c.args.session old lanes h) c.in-Writes.is c.requires.has.held in
    record { may = may_back c.args.session old lanes c.in-Writes.lane (inl had.0) had.1 }

pub answered-requires-in-Torn : goal.answered-requires-in-Torn
answered-requires-in-Torn c =
    let old = history false c.args.catalogue.now in
    let lanes = c.args.hand.sealed.items in
    let had = subst (λ (h : Held). HasBeside c.args.session old lanes h) c.in-Torn.is c.requires.has.held in
    record { may = may_back c.args.session old lanes c.in-Torn.lane (inl had.0) had.1 }

pub answered-requires-in-Sweeps : goal.answered-requires-in-Sweeps
answered-requires-in-Sweeps c =
    let old = history false c.args.catalogue.now in
    let lanes = c.args.hand.sealed.items in
    let had = subst (λ (h : Held). HasBeside c.args.session old lanes h) c.in-Sweeps.is c.requires.has.held in
    record { may = may_back c.args.session old lanes c.in-Sweeps.lane (inr had.0) had.1 }

pub returns-in-Writes-clause-turned : goal.returns-in-Writes-clause-turned
returns-in-Writes-clause-turned c =
    let old = history false c.args.catalogue.now in
    let new = history false c.answered.new.catalogue in
    let lanes = c.args.hand.sealed.items in
    let had = subst (λ (h : Held). HasBeside c.args.session old lanes h) c.in-Writes.is c.requires.has.held in
    let has = backs (length c.args.catalogue.now.marks) c.args.session c.args.statement old new lanes (Out c.args.session) c.in-Writes.lane c.answered.result c.requires.has.sealed had.0 c.answered.ensures.step in
    turned_to c.args.session old new (record { sealed = c.args.hand.sealed; held = c.take-held.result.0 }) lanes _ c.answered.ensures.keep refl c.take-held.ensures.held has

pub returns-in-Writes-clause-made : goal.returns-in-Writes-clause-made
returns-in-Writes-clause-made c = c.take-held.ensures.made (history false c.answered.new.catalogue) c.answered.ensures.made

pub returns-in-Torn-clause-turned : goal.returns-in-Torn-clause-turned
returns-in-Torn-clause-turned c =
    let old = history false c.args.catalogue.now in
    let new = history false c.answered-in-Torn.new.catalogue in
    let lanes = c.args.hand.sealed.items in
    let had = subst (λ (h : Held). HasBeside c.args.session old lanes h) c.in-Torn.is c.requires.has.held in
    let has = backs (length c.args.catalogue.now.marks) c.args.session c.args.statement old new lanes (Out c.args.session) c.in-Torn.lane c.answered-in-Torn.result c.requires.has.sealed had.0 c.answered-in-Torn.ensures.step in
    turned_to c.args.session old new (record { sealed = c.args.hand.sealed; held = c.take-held-in-Torn.result.0 }) lanes _ c.answered-in-Torn.ensures.keep refl c.take-held-in-Torn.ensures.held has

pub returns-in-Torn-clause-made : goal.returns-in-Torn-clause-made
returns-in-Torn-clause-made c = c.take-held-in-Torn.ensures.made (history false c.answered-in-Torn.new.catalogue) c.answered-in-Torn.ensures.made

pub returns-in-Sweeps-clause-turned : goal.returns-in-Sweeps-clause-turned
returns-in-Sweeps-clause-turned c =
    let old = history false c.args.catalogue.now in
    let new = history false c.answered-in-Sweeps.new.catalogue in
    let lanes = c.args.hand.sealed.items in
    let had = subst (λ (h : Held). HasBeside c.args.session old lanes h) c.in-Sweeps.is c.requires.has.held in
    let has = backs (length c.args.catalogue.now.marks) c.args.session c.args.statement old new lanes (Sweeping c.args.session) c.in-Sweeps.lane c.answered-in-Sweeps.result c.requires.has.sealed had.0 c.answered-in-Sweeps.ensures.step in
    turned_to c.args.session old new (record { sealed = c.args.hand.sealed; held = c.take-held-in-Sweeps.result.0 }) lanes _ c.answered-in-Sweeps.ensures.keep refl c.take-held-in-Sweeps.ensures.held has

pub returns-in-Sweeps-clause-made : goal.returns-in-Sweeps-clause-made
returns-in-Sweeps-clause-made c = c.take-held-in-Sweeps.ensures.made (history false c.answered-in-Sweeps.new.catalogue) c.answered-in-Sweeps.ensures.made
