-- Where all streams are done, all of them was handed over.
use Rattle.std.proofs.Common.{◌≡◌, ℕ, ◌+◌, ◌<◌, Bool, true, false, ◌||◌, cond, ltb, leb, nat_eq, List, [], ◌++◌, take, map, Option, Some, None, Result, Ok, Err, refl, sym, ap, subst, ◌∙◌, arith, inl, inr}
use Rattle.std.specs.Prelude.{All, Vec, OnOk, slice_get}
use Rattle.std.proofs.lemmas.Bool.{and_parts, or_parts, cases_eq}
use Rattle.hq_stream.specs.TwoEnds.{Sent}
use Rattle.hq_stream.specs.Receiving.{Receiving, is_over}
use Rattle.hq_stream.proofs.Taking.{whole_is}
use Rattle.hq_link.specs.declared.link.LinkFault.TheVariants as link_fault
use Rattle.hq_link.specs.declared.route.Route.{Route}
use Rattle.hq_link.specs.Link.{LinkState, Told}
use Rattle.hq_link.specs.Streams.{piece_in, is_probe_of}
use Rattle.hq_recv.specs.Taking.{Taker, took, after, drained}
use Rattle.hq_recv.specs.declared.took.Took.TheVariants.{New, Old, Ahead, Foreign}
use Rattle.hq_pump.specs.declared.end.ExchangeEnd.{ExchangeEnd}
use Rattle.hq_pump.specs.declared.lane.Lane.{Lane}
use Rattle.hq_pump.specs.Exchange.{Exchange, Step, sends, answers_it, is_told, hears, misses, rests, fails, hands_over, gives_up, Run, still, more, acknowledged, received, owes, answers, asked_again, is_done, is_sent}
use Rattle.hq_pump.specs.Safe.{IsFront, WhereKnown, IsKnown, IsWithin, AreEarlier, AreAlone, TakeAll}
use Rattle.hq_pump.specs.Seen.{seen}
use Rattle.hq_pump.specs.Pumping.{at, new_lane, all_done, HasRunOr}
use Rattle.hq_pump.proofs.Safety.{get_set_other, get_map, said_receiver, safe_run}
use Rattle.hq_pump.proofs.Turning.{done_at}
use Rattle.hq_pump.proofs.Start.{after_run, mapped_get, get_mapped, new_safe, append_nothing}

-- what was accepted was handed over, but where an answer is owed
abbrev IsHanded : Exchange → Type 0
IsHanded s = (i : ℕ) (lane : Lane) → slice_get s.lanes i ≡ Some lane → (s.owed ≡ Some i → ⊥) → s.fault ≡ None → lane.receiver.state.got ≡ []

-- what is foreign changes nothing
foreign_stays : (r : Taker) (x : List ℕ) → owes r x ≡ false → (received r x).state.got ≡ r.state.got
foreign_stays r x e = by (piece_in r.route x) (or_parts (answers (took r.state (piece_in r.route x))) (is_probe_of r.route x) e).0
  where
    plain : (s k : Receiving) (a b c d : Bool) → answers (cond b Old (cond (a || c) Foreign (cond d New Ahead))) ≡ false → (cond (a || (b || c)) s k).got ≡ s.got
    plain s k a true c d f = absurd cc
    plain s k true false c d f = refl
    plain s k false false true d f = refl
    plain s k false false false true f = absurd cc
    plain s k false false false false f = absurd cc

    by : (o : Option Sent) → answers (took r.state o) ≡ false → (after r.state o).got ≡ r.state.got
    by None f = refl
    by (Some p) f = plain r.state _ (is_over r.state) (ltb p.number r.state.wanted) (leb (r.state.wanted + 16) p.number) (nat_eq p.number r.state.wanted) f

some_is : (i j : ℕ) → Some i ≡ Some j → i ≡ j
some_is i j e = cc

lanes_of : (t u : Exchange) (i : ℕ) (lane : Lane) → t ≡ u → slice_get t.lanes i ≡ Some lane → slice_get u.lanes i ≡ Some lane
lanes_of t u i lane is e = subst (λ (x : Exchange). slice_get x.lanes i ≡ Some lane) is e

owed_of : (t u : Exchange) (i : ℕ) → t ≡ u → (t.owed ≡ Some i → ⊥) → u.owed ≡ Some i → ⊥
owed_of t u i is free e = free (ap (λ (x : Exchange). x.owed) is ∙ e)

none_owed : (o : Option ℕ) (i : ℕ) → o ≡ None → o ≡ Some i → ⊥
none_owed o i none e = let no : None ≡ Some i = sym none ∙ e in absurd cc

same_lane_at : (o : Option Lane) (x y : Lane) → o ≡ Some x → o ≡ Some y → x ≡ y
same_lane_at o x y e f = let both : Some x ≡ Some y = sym e ∙ f in cc

heard_by : {x y z : List ℕ} (b : Bool) → (b ≡ true → ⊥) → (b ≡ false → x ≡ y) → y ≡ z → x ≡ z
heard_by true never same is = absurd (never refl)
heard_by false never same is = same refl ∙ is

handed_step : (s t : Exchange) → Step s t → IsHanded s → IsHanded t
handed_step s t (sends h) is i lane e free whole =
    elim (get_set_other s.lanes h.place i h.left lane (lanes_of t _ i lane h.is e)) [
      | inl p ↦ subst (λ (l : Lane). l.receiver.state.got ≡ []) p.1 (ap (λ (r : Taker). r.state.got) (said_receiver h.lane h.left h.bytes h.says) ∙ is h.place h.lane h.at (none_owed s.owed h.place h.owed) h.whole)
      | inr o ↦ is i lane o.0 (none_owed s.owed i h.owed) h.whole
    ]
handed_step s t (answers_it h) is i lane e free whole =
    let here = lanes_of t _ i lane h.is e in
    elim (cases_eq h.place i) [
      | inl p ↦ ap (λ (l : Lane). l.receiver.state.got) (same_lane_at (slice_get s.lanes i) lane h.lane here (subst (λ k. slice_get s.lanes k ≡ Some h.lane) p h.at)) ∙ h.handed
      | inr other ↦ is i lane here (λ o. other (some_is h.place i (sym h.owed ∙ o))) h.whole
    ]
handed_step s t (is_told h) is i lane e free whole =
    elim (get_set_other s.lanes h.place i (acknowledged h.lane h.n) lane (lanes_of t _ i lane h.is e)) [
      | inl p ↦ subst (λ (l : Lane). l.receiver.state.got ≡ []) p.1 (is h.place h.lane h.at (none_owed s.owed h.place h.ready.owes_none) h.ready.whole)
      | inr o ↦ is i lane o.0 (none_owed s.owed i h.ready.owes_none) h.ready.whole
    ]
handed_step s t (hears h) is i lane e free whole =
    let x = take h.count h.into in
    elim (get_set_other s.lanes h.place i (record h.lane { receiver = received h.lane.receiver x }) lane (lanes_of t _ i lane h.is e)) [
      | inl p ↦ subst (λ (l : Lane). l.receiver.state.got ≡ []) p.1
          (heard_by (owes h.lane.receiver x) (λ on. free (ap (λ (y : Exchange). y.owed) h.is ∙ ap (λ b. cond b (Some h.place) None) on ∙ ap Some p.0)) (foreign_stays h.lane.receiver x) (is h.place h.lane h.at (none_owed s.owed h.place h.ready.owes_none) h.ready.whole))
      | inr o ↦ is i lane o.0 (none_owed s.owed i h.ready.owes_none) h.ready.whole
    ]
handed_step s t (misses h) is i lane e free whole = is i lane (lanes_of t _ i lane h.is e) (none_owed s.owed i h.ready.owes_none) h.ready.whole
handed_step s t (rests h) is i lane e free whole =
    let y = get_map asked_again s.lanes i lane (lanes_of t _ i lane h.is e) in
    subst (λ (l : Lane). l.receiver.state.got ≡ []) y.2 (is i y.0 y.1 (none_owed s.owed i h.ready.owes_none) h.ready.whole)
handed_step s t (fails h) is i lane e free whole = is i lane (lanes_of t _ i lane h.is e) (none_owed s.owed i h.ready.owes_none) h.ready.whole
handed_step s t (hands_over h) is i lane e free whole =
    elim (get_set_other s.lanes h.place i (record h.lane { receiver = drained h.lane.receiver }) lane (lanes_of t _ i lane h.is e)) [
      | inl p ↦ subst (λ (l : Lane). l.receiver.state.got ≡ []) p.1 refl
      | inr o ↦ is i lane o.0 (owed_of t _ i h.is free) h.whole
    ]
handed_step s t (gives_up same) is i lane e free whole = let no : Some link_fault.NoMemory ≡ None = sym (ap (λ (x : Exchange). x.fault) same) ∙ whole in absurd cc

handed_run : (s t : Exchange) → Run s t → IsHanded s → IsHanded t
handed_run s t still is = is
handed_run s t (more u w run step) is = handed_step u w step (handed_run s u run is)

new_handed : (q m t : ℕ) (streams : List (ℕ × List ℕ)) (link : LinkState) (base : ℕ) (first : ℕ → List ℕ) → IsHanded (at (map (new_lane q m t) streams) link base first None)
new_handed q m t streams link base first i lane e free whole = let y = get_mapped (new_lane q m t) streams i lane e in subst (λ (l : Lane). l.receiver.state.got ≡ []) y.2 refl

all_at : (first now : ℕ → List ℕ) (lane : Lane) (x : ℕ × List ℕ) → lane.sender.route.from ≡ x.0 → lane.sender.stream ≡ x.1 → is_done lane ≡ true → lane.receiver.state.got ≡ [] → IsFront first now lane → now x.0 ≡ first x.0 ++ x.1
all_at first now lane x from stream done handed front =
    let ended = (and_parts (is_sent lane) lane.receiver.state.ended done).1 in
    let past = front.is_of.ended ended in
    let whole = whole_is lane.sender.stream front.gone lane.receiver.state front.is_of (omega (arith, past)) in
    let gone : front.gone ≡ x.1 = sym (append_nothing front.gone) ∙ ap (λ l. front.gone ++ l) (sym handed) ∙ whole ∙ stream in
    subst (λ n. now n ≡ first n ++ front.gone) from front.taken ∙ ap (λ l. first x.0 ++ l) gone

all_known : (q m t : ℕ) (streams : List (ℕ × List ℕ)) (first : ℕ → List ℕ) (start over : Exchange) (may : Told) → start.lanes ≡ map (new_lane q m t) streams → Run start over → IsHanded over → all_done over.lanes ≡ true → over.owed ≡ None → over.fault ≡ None → WhereKnown may (IsKnown first over) → WhereKnown may (TakeAll streams first over.taken)
all_known q m t streams first start over None is run handed done owed whole known = tt
all_known q m t streams first start over (Some xs) is run handed done owed whole known = λ i x e.
    let there = subst (λ (l : List Lane). slice_get l i ≡ Some (new_lane q m t x)) (sym is) (mapped_get (new_lane q m t) streams i x e) in
    let a = after_run start over i (new_lane q m t x) run there in
    all_at first over.taken a.lane x (ap (λ (r : Route). r.from) a.same.sends) a.same.stream (done_at over.lanes i a.lane done a.at_it) (handed i a.lane a.at_it (none_owed over.owed i owed) whole) (known.front i a.lane a.at_it)

-- where all is done, each stream was taken whole
pub end_whole : {A : Type 0} (q m t : ℕ) (streams : List (ℕ × Vec ℕ A)) (old new : LinkState) (base : ℕ) (first now : ℕ → List ℕ) (result : Result Unit ExchangeEnd) → IsWithin q m t → All (λ stream. stream.0 < 16) streams → AreAlone (seen streams) → AreEarlier q m old.may → HasRunOr (at (map (new_lane q m t) (seen streams)) old base first None) new now result → OnOk result (WhereKnown new.may (TakeAll (seen streams) first now))
end_whole q m t streams old new base first now (Err e) within below alone earlier ran = tt
end_whole q m t streams old new base first now (Ok done) within below alone earlier (inr none) = absurd cc
end_whole q m t streams old new base first now (Ok done) within below alone earlier (inl ran) =
    let start : Exchange = at (map (new_lane q m t) (seen streams)) old base first None in
    let safe = safe_run q m t first start ran.over within ran.run (new_safe q m t streams old base first below alone earlier) in
    let handed = handed_run start ran.over ran.run (new_handed q m t (seen streams) old base first) in
    subst (λ (l : LinkState). WhereKnown l.may (TakeAll (seen streams) first now)) ran.link_is
    (subst (λ (f : ℕ → List ℕ). WhereKnown ran.over.link.may (TakeAll (seen streams) first f)) ran.taken_is
    (all_known q m t (seen streams) first start ran.over ran.over.link.may refl ran.run handed ran.how.0 ran.how.2 ran.how.1 safe.known))
