use Rattle.std.proofs.Common.{sym, subst, ap, ◌∙◌, ◌≡◌, ℕ, List, Bool, true, false, nat_eq, length}
use Rattle.std.specs.List.{list_any}
use Rattle.hq_value.specs.Tables.{are_distinct, all_below}
use Rattle.hq_forms.specs.Forms.{place_in}
use Rattle.hq_forms.proofs.Every.{goes_on}
use Rattle.hq_forms.proofs.Keys.{twice, distinct_push, within_push}
use Rattle.hq_forms.proofs.create.keys.Goals as goal

pub returns-then-stands_in-clause-keys : goal.returns-then-stands_in-clause-keys
returns-then-stands_in-clause-keys c =
    twice (place_in c.args.columns.now) c.loop-name.keys c.args.names.now c.loop-name.name-index c.name-item.result c.in-Some.place _
    c.loop-name-test.true c.name-item.is (sym c.in-Some.ensures.place)
    (ap (list_any (nat_eq c.in-Some.place)) (sym c.as_slice.ensures) ∙ sym c.stands_in.ensures ∙ c.if-stands_in.true) c.loop-name.invariant.found

pub loop-name-preserved : goal.loop-name-preserved
loop-name-preserved c =
    let fresh : list_any (nat_eq c.in-Some.place) c.loop-name.keys ≡ false = ap (list_any (nat_eq c.in-Some.place)) (sym c.as_slice.ensures) ∙ sym c.stands_in.ensures ∙ c.if-stands_in.false in
    let made = c.in_ok-push.ensures.ok in
    record {
      found = rw made (goes_on (place_in c.args.columns.now) c.loop-name.keys c.args.names.now c.loop-name.name-index c.name-item.result c.in-Some.place _
          c.loop-name-test.true c.name-item.is (sym c.in-Some.ensures.place) c.loop-name.invariant.found);
      distinct = ap (are_distinct nat_eq) made ∙ distinct_push c.loop-name.keys c.in-Some.place c.loop-name.invariant.distinct fresh;
      within = ap (all_below (length c.args.columns.now)) made ∙ within_push (length c.args.columns.now) c.loop-name.keys c.in-Some.place c.loop-name.invariant.within c.in-Some.ensures.within;
    }
