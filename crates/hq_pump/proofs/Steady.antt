-- Over a steady link the link is never asked while it is empty, so there is no trouble.
use Rattle.std.proofs.Common.{◌≡◌, ◌⊎◌, ℕ, ◌^◌, ◌<◌, ◌≤◌, true, false, cond, nat_eq, List, take, map, Option, Some, None, Result, Ok, refl, sym, ap, subst, ◌∙◌, arith, inl, inr}
use Rattle.std.specs.Prelude.{All, Vec, slice_get, slice_set}
use Rattle.std.proofs.lemmas.Bool.{eq-eqb, eqb-true}
use Rattle.std.proofs.lemmas.List.{length-replicate}
use Rattle.hq_stream.specs.Piece.{Piece, eos}
use Rattle.hq_link.specs.declared.datagram.Datagram.{Datagram}
use Rattle.hq_link.specs.declared.link.Got.TheVariants.{Quiet}
use Rattle.hq_link.specs.declared.link.LinkFault.{LinkFault}
use Rattle.hq_link.specs.declared.link.LinkFault.TheVariants as link_fault
use Rattle.hq_link.specs.declared.route.Route.{Route}
use Rattle.hq_link.specs.Gram.{gram_bytes}
use Rattle.hq_link.specs.Link.{LinkState, IsToldOf, KeepsPromise, IsSent}
use Rattle.hq_link.specs.Reading.{gram_at}
use Rattle.hq_link.specs.Streams.{ack_of}
use Rattle.hq_recv.specs.Taking.{drained}
use Rattle.hq_pump.specs.declared.end.ExchangeEnd.{ExchangeEnd}
use Rattle.hq_pump.specs.declared.lane.Lane.{Lane}
use Rattle.hq_pump.specs.Exchange.{Exchange, Sends, Answers, IsTold, Hears, Misses, Rests, HandsOver, Step, sends, answers_it, is_told, hears, misses, rests, fails, hands_over, gives_up, Run, still, more, IsItsOwn, IsNobodys, acknowledged, received, owes}
use Rattle.hq_pump.specs.Safe.{IsHonest, IsKnown, IsSafe, IsWithin, AreEarlier, AreAlone}
use Rattle.hq_pump.specs.Seen.{seen}
use Rattle.hq_pump.specs.Promise.{IsRoughAtMost}
use Rattle.hq_pump.specs.Pumping.{at, new_lane, AreShortOr, HasRunOr}
use Rattle.hq_pump.proofs.Safety.{get_set_other, honest_came, safe_run, safe_step}
use Rattle.hq_pump.proofs.Start.{get_mapped, new_safe}
use Rattle.hq_pump.proofs.Steps.{get_set}
use Rattle.hq_pump.proofs.Calm.{IsCalm, AreCalm, calm_sends, calm_answers, calm_else, calm_told, calm_heard, calm_drained, some_flies}
use Rattle.hq_pump.proofs.Flying.{Flies, none_flies, fallen_some, lowered_some, where_some}
use Rattle.hq_pump.proofs.Live.{not_sent, from_ack, IsFrom, same_datagram}
use Rattle.hq_pump.proofs.Complete.{CameOn, came_on, told_after, may_after, is_ok, known_some, told_of, told_by, rough_of}

-- what holds of an exchange over a steady link that has had so many troubles
record IsSteady (before : ℕ) (s : Exchange) : Type 0 where
  rough_is : s.link.rough ≡ Some 0
  sound : s.link.sound ≡ true
  flying : (all : List (List ℕ)) × (s.link.flying ≡ Some all)
  may : (all : List (List ℕ)) × (s.link.may ≡ Some all)
  calm : s.fault ≡ None → AreCalm s
  same : s.link.troubles ≡ before

still_none : (o : Option ℕ) (n : ℕ) → o ≡ Some n → n ≤ 0 → o ≡ Some 0
still_none o n e le = e ∙ ap Some (let zero_is : n ≡ 0 = omega (arith, le) in zero_is)

-- the datagram that came did so in its turn
in_turn : (old new : LinkState) (x : List ℕ) → CameOn old x new 0 → ((z : List ℕ) → Flies old z → (z ≡ x) ⊎ Flies new z) × (new.troubles ≡ old.troubles)
in_turn old new x c = elim c.how [ inl turn ↦ turn | inr hit ↦ absurd (omega (arith, hit.0)) ]

calm_none : (s : Exchange) (i : ℕ) (z : Lane) → s.owed ≡ None → IsCalm s.link s.owed i z → IsCalm s.link None i z
calm_none s i z none c = subst (λ (o : Option ℕ). IsCalm s.link o i z) none c

-- no other stream's
never_other : (route other : Route) (o : Option Datagram) (d : Datagram) → o ≡ Some d → d.from ≡ route.from → (route.from ≡ other.from → ⊥) → IsFrom other o → ⊥
never_other route other o d is from differs f =
    let same = same_datagram o d f.datagram is f.is in
    differs (sym from ∙ ap (λ (g : Datagram). g.from) same ∙ f.from)

own_from : (lane : Lane) (o : Option Datagram) → IsItsOwn lane o → IsFrom lane.sender.route o
own_from lane None own = absurd own
own_from lane (Some d) own = record { datagram = d; is = refl; from = sym (eqb-true lane.sender.route.from d.from own) }

steady_told : (before q m to : ℕ) (first : ℕ → List ℕ) (s t : Exchange) → IsSafe q m to first s → IsTold s t → IsSteady before s → IsSteady before t
steady_told before q m to first s t safe h g =
    let x = take h.count h.into in
    let c = came_on s.link h.link h.count h.into 0 g.flying.0 g.may.0 g.rough_is g.flying.1 g.may.1 h.next in
    let turn = in_turn s.link h.link x c in
    let known : IsKnown first s = known_some s.link.may g.may.0 (IsKnown first s) g.may.1 safe.known in
    let honest : IsHonest h.lane.sender.route h.lane.sender.stream h.lane.receiver.state.wanted x = known_some s.link.may g.may.0 (IsHonest h.lane.sender.route h.lane.sender.stream h.lane.receiver.state.wanted x) g.may.1 (honest_came first s x h.place h.lane s.link.may refl h.next.came.1.may h.at safe.known) in
    let from = from_ack h.lane.sender.route (gram_at x) h.n h.ack in
    subst (IsSteady before) (sym h.is) (record {
      rough_is = still_none h.link.rough c.now c.rough_is c.lower;
      sound = (h.next.sound g.sound).sound;
      flying = c.flying;
      may = c.may;
      calm = λ _ i z e.
          subst (λ (o : Option ℕ). IsCalm h.link o i z) (sym h.ready.owes_none)
          (elim (get_set_other s.lanes h.place i (acknowledged h.lane h.n) z e) [
            | inl p ↦ subst (IsCalm h.link None i) p.1 (subst (λ (k : ℕ). IsCalm h.link None k (acknowledged h.lane h.n)) p.0 (calm_told s.link h.link x h.place h.lane h.n turn.0 h.ack (honest.ack h.n h.ack) (known.front h.place h.lane h.at).is_of.within (calm_none s h.place h.lane h.ready.owes_none (g.calm h.ready.whole h.place h.lane h.at))))
            | inr o ↦ calm_else s.link h.link x i z turn.0 (never_other h.lane.sender.route z.sender.route (gram_at x) from.datagram from.is from.from (λ same. o.1 (safe.alone h.place i h.lane z h.at o.0 same))) (calm_none s i z h.ready.owes_none (g.calm h.ready.whole i z o.0)) None
          ]);
      same = turn.1 ∙ g.same;
    })

steady_hears : (before q m to : ℕ) (first : ℕ → List ℕ) (s t : Exchange) → IsSafe q m to first s → IsSafe q m to first t → Hears s t → IsSteady before s → IsSteady before t
steady_hears before q m to first s t safe later h g =
    let x = take h.count h.into in
    let left : Lane = record h.lane { receiver = received h.lane.receiver x } in
    let c = came_on s.link h.link h.count h.into 0 g.flying.0 g.may.0 g.rough_is g.flying.1 g.may.1 h.next in
    let turn = in_turn s.link h.link x c in
    let known : IsKnown first s = known_some s.link.may g.may.0 (IsKnown first s) g.may.1 safe.known in
    let told : t.link.may ≡ Some c.may.0 = ap (λ (u : Exchange). u.link.may) h.is ∙ c.may.1 in
    let then : IsKnown first t = known_some t.link.may c.may.0 (IsKnown first t) told later.known in
    let lanes : t.lanes ≡ slice_set s.lanes h.place left = ap (λ (u : Exchange). u.lanes) h.is in
    let there : slice_get t.lanes h.place ≡ Some left = subst (λ (xs : List Lane). slice_get xs h.place ≡ Some left) (sym lanes) (get_set s.lanes h.place h.lane left h.at) in
    let from = own_from h.lane (gram_at x) h.own in
    subst (IsSteady before) (sym h.is) (record {
      rough_is = still_none h.link.rough c.now c.rough_is c.lower;
      sound = (h.next.sound g.sound).sound;
      flying = c.flying;
      may = c.may;
      calm = λ _ i z e. elim (get_set_other s.lanes h.place i left z e) [
        | inl p ↦ subst (IsCalm h.link (cond (owes h.lane.receiver x) (Some h.place) None) i) p.1 (subst (λ (k : ℕ). IsCalm h.link (cond (owes h.lane.receiver x) (Some h.place) None) k left) p.0 (calm_heard first s.taken s.link h.link x h.place h.lane turn.0 h.no_ack (safe.routed h.place h.lane h.at).same (known.front h.place h.lane h.at) (then.front h.place left there).is_of.ended (calm_none s h.place h.lane h.ready.owes_none (g.calm h.ready.whole h.place h.lane h.at))))
        | inr o ↦ calm_else s.link h.link x i z turn.0 (never_other h.lane.sender.route z.sender.route (gram_at x) from.datagram from.is from.from (λ same. o.1 (safe.alone h.place i h.lane z h.at o.0 same))) (calm_none s i z h.ready.owes_none (g.calm h.ready.whole i z o.0)) (cond (owes h.lane.receiver x) (Some h.place) None)
      ];
      same = turn.1 ∙ g.same;
    })

never_nobodys : (lanes : List Lane) (i : ℕ) (lane : Lane) (o : Option Datagram) → slice_get lanes i ≡ Some lane → IsNobodys lanes o → IsFrom lane.sender.route o → ⊥
never_nobodys lanes i lane None at nobodys f = let no : None ≡ Some f.datagram = f.is in absurd cc
never_nobodys lanes i lane (Some d) at nobodys f =
    let both : Some d ≡ Some f.datagram = f.is in
    let same : d ≡ f.datagram = cc in
    let from : lane.sender.route.from ≡ d.from = sym f.from ∙ ap (λ (g : Datagram). g.from) (sym same) in
    let yes : nat_eq lane.sender.route.from d.from ≡ true = eq-eqb _ _ from in
    let no : true ≡ false = sym yes ∙ nobodys i lane at in
    absurd cc

steady_misses : (before : ℕ) (s t : Exchange) → Misses s t → IsSteady before s → IsSteady before t
steady_misses before s t h g =
    let x = take h.count h.into in
    let c = came_on s.link h.link h.count h.into 0 g.flying.0 g.may.0 g.rough_is g.flying.1 g.may.1 h.next in
    let turn = in_turn s.link h.link x c in
    subst (IsSteady before) (sym h.is) (record {
      rough_is = still_none h.link.rough c.now c.rough_is c.lower;
      sound = (h.next.sound g.sound).sound;
      flying = c.flying;
      may = c.may;
      calm = λ whole i z e. subst (λ (o : Option ℕ). IsCalm h.link o i z) (sym h.ready.owes_none)
          (calm_else s.link h.link x i z turn.0 (never_nobodys s.lanes i z (gram_at x) e (h.nobodys whole)) (calm_none s i z h.ready.owes_none (g.calm h.ready.whole i z e)) None);
      same = turn.1 ∙ g.same;
    })

-- no silence comes
no_silence : (before q m to : ℕ) (first : ℕ → List ℕ) (s t : Exchange) → IsSafe q m to first s → Rests s t → IsSteady before s → ⊥
no_silence before q m to first s t safe h g =
    let known : IsKnown first s = known_some s.link.may g.may.0 (IsKnown first s) g.may.1 safe.known in
    let front = known.front h.ready.place h.ready.lane h.ready.at in
    let f = some_flies first s.taken s.link h.ready.place h.ready.lane front (h.ready.idle h.ready.place h.ready.lane h.ready.at) (not_sent first s.taken h.ready.lane front h.ready.goes_on) (calm_none s h.ready.place h.ready.lane h.ready.owes_none (g.calm h.ready.whole h.ready.place h.ready.lane h.ready.at)) in
    elim (where_some s.link.rough 0 (KeepsPromise s.link (Ok Quiet) h.into h.link) g.rough_is h.next.promise) [
      | inl empty ↦ none_flies s.link f.0 empty f.1
      | inr fallen ↦ (let l = fallen_some s.link.rough h.link.rough 0 g.rough_is fallen in omega (arith, l.2))
    ]

steady_sends : (before q m to : ℕ) (first : ℕ → List ℕ) (s t : Exchange) → IsWithin q m to → IsSafe q m to first s → Sends s t → IsSteady before s → IsSteady before t
steady_sends before q m to first s t within safe h g =
    let low = lowered_some s.link.rough h.link.rough 0 g.rough_is h.sent.rough in
    let same : h.link.troubles ≡ s.link.troubles = where_some s.link.rough 0 (h.link.troubles ≡ s.link.troubles) g.rough_is h.sent.smooth in
    subst (IsSteady before) (sym h.is) (record {
      rough_is = still_none h.link.rough low.0 low.1 low.2;
      sound = (h.sent.sound g.sound).sound;
      flying = told_after s.link h.link h.bytes h.result g.flying.0 g.flying.1 h.sent;
      may = may_after s.link h.link h.bytes h.result g.may.0 g.may.1 h.sent;
      calm = λ e. calm_sends q m to first s (t, h) g.flying.0 within safe g.flying.1 (subst (λ (r : Result Unit LinkFault). IsSent s.link h.bytes r h.link) (is_ok h.result e) h.sent) (g.calm h.whole);
      same = same ∙ g.same;
    })

steady_answers : (before q m to : ℕ) (first : ℕ → List ℕ) (s t : Exchange) → IsWithin q m to → IsSafe q m to first s → Answers s t → IsSteady before s → IsSteady before t
steady_answers before q m to first s t within safe h g =
    let bytes = gram_bytes (ack_of h.lane.receiver.route h.lane.receiver.state.wanted) in
    let low = lowered_some s.link.rough h.link.rough 0 g.rough_is h.sent.rough in
    let same : h.link.troubles ≡ s.link.troubles = where_some s.link.rough 0 (h.link.troubles ≡ s.link.troubles) g.rough_is h.sent.smooth in
    subst (IsSteady before) (sym h.is) (record {
      rough_is = still_none h.link.rough low.0 low.1 low.2;
      sound = (h.sent.sound g.sound).sound;
      flying = told_after s.link h.link bytes h.result g.flying.0 g.flying.1 h.sent;
      may = may_after s.link h.link bytes h.result g.may.0 g.may.1 h.sent;
      calm = λ e. calm_answers q m to s h.place h.lane h.link g.flying.0 within (safe.routed h.place h.lane h.at) h.at h.owed h.seq g.flying.1 (subst (λ (r : Result Unit LinkFault). IsSent s.link bytes r h.link) (is_ok h.result e) h.sent) (g.calm h.whole);
      same = same ∙ g.same;
    })

steady_hands : (before : ℕ) (s t : Exchange) → HandsOver s t → IsSteady before s → IsSteady before t
steady_hands before s t h g =
    let left : Lane = record h.lane { receiver = drained h.lane.receiver } in
    subst (IsSteady before) (sym h.is) (record {
      rough_is = g.rough_is;
      sound = g.sound;
      flying = g.flying;
      may = g.may;
      calm = λ e i z f. elim (get_set_other s.lanes h.place i left z f) [
        | inl p ↦ subst (IsCalm s.link s.owed i) p.1 (subst (λ (k : ℕ). IsCalm s.link s.owed k left) p.0 (calm_drained s.link s.owed h.place h.lane (g.calm h.whole h.place h.lane h.at)))
        | inr o ↦ g.calm h.whole i z o.0
      ];
      same = g.same;
    })

gave_up : Some link_fault.NoMemory ≡ None → ⊥
gave_up e = absurd cc

steady_step : (before q m to : ℕ) (first : ℕ → List ℕ) (s t : Exchange) → IsWithin q m to → IsSafe q m to first s → IsSafe q m to first t → Step s t → IsSteady before s → IsSteady before t
steady_step before q m to first s t within safe later (sends h) g = steady_sends before q m to first s t within safe h g
steady_step before q m to first s t within safe later (answers_it h) g = steady_answers before q m to first s t within safe h g
steady_step before q m to first s t within safe later (is_told h) g = steady_told before q m to first s t safe h g
steady_step before q m to first s t within safe later (hears h) g = steady_hears before q m to first s t safe later h g
steady_step before q m to first s t within safe later (misses h) g = steady_misses before s t h g
steady_step before q m to first s t within safe later (rests h) g = absurd (no_silence before q m to first s t safe h g)
steady_step before q m to first s t within safe later (fails h) g = absurd (h.next.works g.sound)
steady_step before q m to first s t within safe later (hands_over h) g = steady_hands before s t h g
steady_step before q m to first s t within safe later (gives_up is) g = subst (IsSteady before) (sym is) (record { rough_is = g.rough_is; sound = g.sound; flying = g.flying; may = g.may; calm = λ e. absurd (gave_up e); same = g.same })

steady_run : (before q m to : ℕ) (first : ℕ → List ℕ) (s t : Exchange) → IsWithin q m to → IsSafe q m to first s → Run s t → IsSteady before s → IsSteady before t
steady_run before q m to first s t within safe still g = g
steady_run before q m to first s t within safe (more u w run step) g =
    let here = safe_run q m to first s u within run safe in
    steady_step before q m to first u w within here (safe_step q m to first u w within step here) step (steady_run before q m to first s u within safe run g)

-- at the start nothing was sent
fresh_calm : (link : LinkState) (i q m t : ℕ) (x : ℕ × List ℕ) → eos x.1 < 2 ^ 60 → IsCalm link None i (new_lane q m t x)
fresh_calm link i q m t x short = record {
  again = refl;
  window = omega arith;
  within = omega arith;
  behind = omega arith;
  places = length-replicate {A = Option Piece} 16 None;
  first = refl;
  short = short;
  sent = λ n low high. absurd (omega (arith, high));
  told = λ lt. absurd (omega (arith, lt));
}

-- over a steady link there is no trouble
pub end_steady : {A : Type 0} (q m t : ℕ) (streams : List (ℕ × Vec ℕ A)) (old new : LinkState) (first now : ℕ → List ℕ) (result : Result Unit ExchangeEnd) → IsWithin q m t → All (λ stream. stream.0 < 16) streams → AreAlone (seen streams) → AreEarlier q m old.may → HasRunOr (at (map (new_lane q m t) (seen streams)) old old.troubles first None) new now result → AreShortOr (map (new_lane q m t) (seen streams)) old new result → IsToldOf old.rough old → IsRoughAtMost 0 old → new.troubles ≡ old.troubles
end_steady q m t streams old new first now result within below alone earlier (inr none) short told promise = ap (λ (l : LinkState). l.troubles) none.1
end_steady q m t streams old new first now result within below alone earlier (inl ran) (inr none) told promise = ap (λ (l : LinkState). l.troubles) none.1
end_steady q m t streams old new first now result within below alone earlier (inl ran) (inl short) told promise =
    let start : Exchange = at (map (new_lane q m t) (seen streams)) old old.troubles first None in
    let r = rough_of 0 old.rough promise.rough in
    let are = told_by old.rough r.0 old r.1 told in
    let g : IsSteady old.troubles start = record {
      rough_is = still_none old.rough r.0 r.1 r.2;
      sound = promise.sound;
      flying = told_of old.flying are.1;
      may = told_of old.may are.0;
      calm = λ _ i lane e. (let y = get_mapped (new_lane q m t) (seen streams) i lane e in subst (IsCalm old None i) y.2 (fresh_calm old i q m t y.0 (subst (λ (l : Lane). eos l.sender.stream < 2 ^ 60) (sym y.2) (short i lane e))));
      same = refl;
    } in
    let safe = new_safe q m t streams old old.troubles first below alone earlier in
    let over = steady_run old.troubles q m t first start ran.over within safe ran.run g in
    ap (λ (l : LinkState). l.troubles) (sym ran.link_is) ∙ over.same
