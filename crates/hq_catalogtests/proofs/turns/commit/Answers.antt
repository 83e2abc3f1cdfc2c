-- The session has no lane any more.
use Rattle.std.proofs.Common.{◌≡◌, ◌∙◌, true, false, List, [], length, vec_len, ap, subst, sym}
use Rattle.hq_lane.specs.Lanes.{LaneState}
use Rattle.hq_catalog.specs.History.{history}
use Rattle.hq_catalogtests.specs.declared.hand.Held.{Held}
use Rattle.hq_catalogtests.specs.Turns.{HasBeside, are_below}
use Rattle.hq_catalogtests.proofs.Hands.{some_lane}
use Rattle.hq_catalogtests.proofs.Kept.{turned_same, turned_to}
use Rattle.hq_catalogtests.proofs.Answered.{commits, may_commit}
use Rattle.hq_catalogtests.proofs.turns.commit.Goals as goal

pub answered-requires : goal.answered-requires
answered-requires c =
    let old = history false c.args.catalogue.now in
    let lanes = c.args.hand.sealed.items in
    let had = subst (λ (h : Held). HasBeside c.args.session old lanes h) c.in-Nothing.is c.requires.has.held in
    let below : are_below lanes c.args.tables ≡ true = ap (λ (ls : List LaneState). are_below ls c.args.tables) (sym c.deref.ensures.value) ∙ sym c.are_below.ensures ∙ c.if-not-are_below.false in
    let some = some_lane lanes (vec_len c.args.hand.sealed) (sym c.args.hand.sealed.ok.0) (sym c.is_empty.ensures ∙ c.if-is_empty.false) in
    record { may = may_commit c.args.session old lanes c.args.tables c.requires.made some below (c.requires.has.sealed, had) }

pub returns-else-not-are_below-clause-turned : goal.returns-else-not-are_below-clause-turned
returns-else-not-are_below-clause-turned c =
    let old = history false c.args.catalogue.now in
    let new = history false c.answered.new.catalogue in
    let lanes = c.args.hand.sealed.items in
    let had = subst (λ (h : Held). HasBeside c.args.session old lanes h) c.in-Nothing.is c.requires.has.held in
    let has = commits (length c.args.catalogue.now.marks) c.args.session c.args.statement old new lanes c.answered.result (c.requires.has.sealed, had) c.answered.ensures.step in
    turned_to c.args.session old new (record { sealed = c.new-sealed.result; held = c.take-held.result.0 }) [] _ c.answered.ensures.keep c.new-sealed.ensures.items c.take-held.ensures.held has

pub returns-else-not-are_below-clause-made : goal.returns-else-not-are_below-clause-made
returns-else-not-are_below-clause-made c = c.take-held.ensures.made (history false c.answered.new.catalogue) c.answered.ensures.made

pub returns-in_default-clause-turned : goal.returns-in_default-clause-turned
returns-in_default-clause-turned c = turned_same c.args.session (history false c.args.catalogue.now) c.args.hand c.requires.has
