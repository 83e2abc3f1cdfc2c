-- What an exchange begins with, and what was taken at its end.
use Rattle.std.proofs.Common.{◌≡◌, ℕ, zero, suc, ◌*◌, ◌<◌, Bool, true, false, cond, nat_eq, List, [], ◌∷◌, ◌++◌, length, take, map, Option, Some, None, Result, refl, sym, ap, subst, ◌∙◌, arith, inl, inr}
use Rattle.std.specs.Prelude.{All, Vec, slice_get, slice_set}
use Rattle.std.proofs.lemmas.Bool.{and_parts, eqb-true}
use Rattle.hq_stream.proofs.Runs.{start_is}
use Rattle.hq_link.specs.declared.datagram.Datagram.{Datagram}
use Rattle.hq_link.specs.declared.route.Route.{Route}
use Rattle.hq_link.specs.Reading.{gram_at}
use Rattle.hq_link.specs.Link.{LinkState, Told}
use Rattle.hq_link.specs.Streams.{is_of, piece_of, number_of, piece_for, ack_for}
use Rattle.hq_pump.specs.declared.end.ExchangeEnd.{ExchangeEnd}
use Rattle.hq_pump.specs.declared.lane.Lane.{Lane}
use Rattle.hq_pump.specs.Exchange.{Exchange, Step, sends, answers_it, is_told, hears, misses, rests, fails, hands_over, gives_up, Run, still, more, acknowledged, asked_again}
use Rattle.hq_pump.specs.Safe.{IsHonest, IsRouted, IsFront, WhereKnown, AreHonest, IsKnown, IsSafe, IsWithin, IsEarlier, AreEarlier, AreAlone, TakesFront, TakeFronts}
use Rattle.hq_pump.specs.Seen.{seen}
use Rattle.hq_pump.specs.Pumping.{at, new_lane, HasRunOr}
use Rattle.hq_pump.proofs.Safety.{Same, said_same, acked_same, same_lane, safe_run}

pub append_nothing : (xs : List ℕ) → xs ++ [] ≡ xs
append_nothing [] = refl
append_nothing (x ∷ xs) = ap (λ l. x ∷ l) (append_nothing xs)

pub get_mapped : {A B : Type 0} (f : A → B) (xs : List A) (j : ℕ) (z : B) → slice_get (map f xs) j ≡ Some z → (y : A) × (slice_get xs j ≡ Some y) × (f y ≡ z)
get_mapped f [] j z e = absurd cc
get_mapped f (x ∷ xs) zero z e = (x, refl, (let same : f x ≡ z = cc in same))
get_mapped f (x ∷ xs) (suc j) z e = get_mapped f xs j z e

pub mapped_get : {A B : Type 0} (f : A → B) (xs : List A) (j : ℕ) (y : A) → slice_get xs j ≡ Some y → slice_get (map f xs) j ≡ Some (f y)
mapped_get f [] j y e = absurd cc
mapped_get f (x ∷ xs) zero y e = ap (λ z. Some (f z)) (let same : x ≡ y = cc in same)
mapped_get f (x ∷ xs) (suc j) y e = mapped_get f xs j y e

below_at : {A : Type 0} (xs : List (ℕ × Vec ℕ A)) (j : ℕ) (y : ℕ × List ℕ) → All (λ stream. stream.0 < 16) xs → slice_get (seen xs) j ≡ Some y → y.0 < 16
below_at [] j y all e = absurd cc
below_at (x ∷ xs) zero y all e = let same : x.0 ≡ y.0 = cc in subst (λ n. n < 16) same (all 0 x (omega arith))
below_at (x ∷ xs) (suc j) y all e = below_at xs j y (λ k d lt. all (suc k) d (omega (arith, lt))) e

-- a datagram of an earlier exchange brings nothing
not_of : (route : Route) (d : Datagram) → IsEarlier route.query route.motion (Some d) → is_of route d ≡ true → ⊥
not_of route d earlier e =
    let a = and_parts (nat_eq d.from route.from) _ e in
    let b = and_parts (nat_eq d.to route.to) _ a.1 in
    let c = and_parts (nat_eq d.query route.query) (nat_eq d.motion route.motion) b.1 in
    let q : d.query ≡ route.query = eqb-true _ _ c.0 in
    let m : d.motion ≡ route.motion = eqb-true _ _ c.1 in
    elim earlier [ inl lower ↦ absurd (omega (arith, lower, q)) | inr same ↦ absurd (omega (arith, same.1, m)) ]

honest_earlier : (route : Route) (stream : List ℕ) (wanted : ℕ) (x : List ℕ) → IsEarlier route.query route.motion (gram_at x) → IsHonest route stream wanted x
honest_earlier route stream wanted x earlier = by (gram_at x) refl earlier
  where
    both : (b : Bool) (d : Datagram) → (b ≡ true → ⊥) → (cond b (piece_of d.kind d.seq d.payload) None ≡ None) × (cond b (number_of d.kind d.seq) None ≡ None)
    both true d never = absurd (never refl)
    both false d never = (refl, refl)

    by : (o : Option Datagram) → gram_at x ≡ o → IsEarlier route.query route.motion o → IsHonest route stream wanted x
    by None e h = record { piece = λ p f. (let no : None ≡ Some p = sym (ap (piece_for route) e) ∙ f in absurd cc); ack = λ n f. (let no : None ≡ Some n = sym (ap (ack_for route) e) ∙ f in absurd cc) }
    by (Some d) e h =
        let none = both (is_of route d) d (not_of route d h) in
        record { piece = λ p f. (let no : None ≡ Some p = sym (ap (piece_for route) e ∙ none.0) ∙ f in absurd cc); ack = λ n f. (let no : None ≡ Some n = sym (ap (ack_for route) e ∙ none.1) ∙ f in absurd cc) }

new_known : (q m t : ℕ) (streams : List (ℕ × List ℕ)) (link : LinkState) (base : ℕ) (first : ℕ → List ℕ) (may : Told) → link.may ≡ may → AreEarlier q m may → WhereKnown may (IsKnown first (at (map (new_lane q m t) streams) link base first None))
new_known q m t streams link base first None is earlier = tt
new_known q m t streams link base first (Some xs) is earlier = record {
  front = λ i lane e. (let y = get_mapped (new_lane q m t) streams i lane e in subst (IsFront first first) y.2 (record {
    gone = [];
    taken = sym (append_nothing (first y.0.0));
    is_of = (start_is y.0.1).receiver;
    acked = omega arith;
  }));
  coming = λ i lane e. (let y = get_mapped (new_lane q m t) streams i lane e in
      subst (λ (l : Lane). AreHonest l.sender.route l.sender.stream l.receiver.state.wanted link.may) y.2
      (subst (AreHonest (new_lane q m t y.0).sender.route y.0.1 0) (sym is) (λ x h. honest_earlier (new_lane q m t y.0).sender.route y.0.1 0 x (earlier x h))));
}

pub new_safe : {A : Type 0} (q m t : ℕ) (streams : List (ℕ × Vec ℕ A)) (link : LinkState) (base : ℕ) (first : ℕ → List ℕ) → All (λ stream. stream.0 < 16) streams → AreAlone (seen streams) → AreEarlier q m link.may → IsSafe q m t first (at (map (new_lane q m t) (seen streams)) link base first None)
new_safe q m t streams link base first below alone earlier = record {
  routed = λ i lane e. (let y = get_mapped (new_lane q m t) (seen streams) i lane e in subst (IsRouted q m t) y.2 (record { same = refl; query = refl; motion = refl; to = refl; from_node = below_at streams i y.0 below y.1 }));
  alone = λ i j x y ex ey same.
      let a = get_mapped (new_lane q m t) (seen streams) i x ex in
      let b = get_mapped (new_lane q m t) (seen streams) j y ey in
      alone i j a.0 b.0 a.1 b.1 (ap (λ (l : Lane). l.sender.route.from) a.2 ∙ same ∙ sym (ap (λ (l : Lane). l.sender.route.from) b.2));
  known = new_known q m t (seen streams) link base first link.may refl earlier;
}

-- a stream stays at its place
pub record After (t : Exchange) (i : ℕ) (y : Lane) : Type 0 where
  pub lane : Lane
  pub at_it : slice_get t.lanes i ≡ Some lane
  pub same : Same y lane

after_set : (xs : List Lane) (j i : ℕ) (was left y : Lane) → slice_get xs j ≡ Some was → Same was left → slice_get xs i ≡ Some y → (z : Lane) × (slice_get (slice_set xs j left) i ≡ Some z) × Same y z
after_set [] j i was left y ej same e = absurd cc
after_set (x ∷ xs) zero zero was left y ej same e = (left, refl, subst (λ (l : Lane). Same l left) (let here : was ≡ y = cc in here) same)
after_set (x ∷ xs) zero (suc i) was left y ej same e = (y, e, same_lane y)
after_set (x ∷ xs) (suc j) zero was left y ej same e = (y, e, same_lane y)
after_set (x ∷ xs) (suc j) (suc i) was left y ej same e = after_set xs j i was left y ej same e

moved_to : (t u : Exchange) (i : ℕ) (y : Lane) → t ≡ u → (z : Lane) × (slice_get u.lanes i ≡ Some z) × Same y z → After t i y
moved_to t u i y is found = record { lane = found.0; at_it = subst (λ (x : Exchange). slice_get x.lanes i ≡ Some found.0) (sym is) found.1; same = found.2 }

after_step : (s t : Exchange) (i : ℕ) (y : Lane) → Step s t → slice_get s.lanes i ≡ Some y → After t i y
after_step s t i y (sends h) e = moved_to t _ i y h.is (after_set s.lanes h.place i h.lane h.left y h.at (said_same h.lane h.left h.bytes h.says) e)
after_step s t i y (answers_it h) e = moved_to t _ i y h.is (y, e, same_lane y)
after_step s t i y (is_told h) e = moved_to t _ i y h.is (after_set s.lanes h.place i h.lane (acknowledged h.lane h.n) y h.at (acked_same h.lane h.n) e)
after_step s t i y (hears h) e = moved_to t _ i y h.is (after_set s.lanes h.place i h.lane _ y h.at (record { sends = refl; takes = refl; stream = refl }) e)
after_step s t i y (misses h) e = moved_to t _ i y h.is (y, e, same_lane y)
after_step s t i y (rests h) e = moved_to t _ i y h.is (asked_again y, mapped_get asked_again s.lanes i y e, record { sends = refl; takes = refl; stream = refl })
after_step s t i y (fails h) e = moved_to t _ i y h.is (y, e, same_lane y)
after_step s t i y (hands_over h) e = moved_to t _ i y h.is (after_set s.lanes h.place i h.lane _ y h.at (record { sends = refl; takes = refl; stream = refl }) e)
after_step s t i y (gives_up is) e = moved_to t _ i y is (y, e, same_lane y)

pub after_run : (s t : Exchange) (i : ℕ) (y : Lane) → Run s t → slice_get s.lanes i ≡ Some y → After t i y
after_run s t i y still e = record { lane = y; at_it = e; same = same_lane y }
after_run s t i y (more u w run step) e =
    let a = after_run s u i y run e in
    let b = after_step u w i a.lane step a.at_it in
    record { lane = b.lane; at_it = b.at_it; same = record { sends = b.same.sends ∙ a.same.sends; takes = b.same.takes ∙ a.same.takes; stream = b.same.stream ∙ a.same.stream } }

-- the front of a front
front_of : (gone got xs : List ℕ) (k : ℕ) → gone ++ got ≡ take k xs → gone ≡ take (length gone) xs
front_of [] got xs k e = refl
front_of (g ∷ gone) got [] zero e = absurd cc
front_of (g ∷ gone) got [] (suc k) e = absurd cc
front_of (g ∷ gone) got (x ∷ xs) zero e = absurd cc
front_of (g ∷ gone) got (x ∷ xs) (suc k) e = let here : g ≡ x = cc in let rest : gone ++ got ≡ take k xs = cc in (λ i. here i ∷ front_of gone got xs k rest i)

front_at : (first now : ℕ → List ℕ) (lane : Lane) (x : ℕ × List ℕ) → lane.sender.route.from ≡ x.0 → lane.sender.stream ≡ x.1 → IsFront first now lane → TakesFront x.1 (first x.0) (now x.0)
front_at first now lane x from stream front = record {
  gone = front.gone;
  taken = subst (λ n. now n ≡ first n ++ front.gone) from front.taken;
  front = subst (λ l. front.gone ≡ take (length front.gone) l) stream (front_of front.gone lane.receiver.state.got lane.sender.stream (1200 * lane.receiver.state.wanted) front.is_of.front);
}

fronts_known : (q m t : ℕ) (streams : List (ℕ × List ℕ)) (first : ℕ → List ℕ) (start over : Exchange) (may : Told) → start.lanes ≡ map (new_lane q m t) streams → Run start over → WhereKnown may (IsKnown first over) → WhereKnown may (TakeFronts streams first over.taken)
fronts_known q m t streams first start over None is run known = tt
fronts_known q m t streams first start over (Some xs) is run known = λ i x e.
    let there = subst (λ (l : List Lane). slice_get l i ≡ Some (new_lane q m t x)) (sym is) (mapped_get (new_lane q m t) streams i x e) in
    let a = after_run start over i (new_lane q m t x) run there in
    front_at first over.taken a.lane x (ap (λ (r : Route). r.from) a.same.sends) a.same.stream (known.front i a.lane a.at_it)

nothing_taken : (streams : List (ℕ × List ℕ)) (first now : ℕ → List ℕ) (may : Told) → now ≡ first → WhereKnown may (TakeFronts streams first now)
nothing_taken streams first now None is = tt
nothing_taken streams first now (Some xs) is = λ i x e. record { gone = []; taken = ap (λ (f : ℕ → List ℕ). f x.0) is ∙ sym (append_nothing (first x.0)); front = refl }

-- at its end, what was taken of each stream is a front of it
pub end_fronts : {A : Type 0} (q m t : ℕ) (streams : List (ℕ × Vec ℕ A)) (old new : LinkState) (base : ℕ) (first now : ℕ → List ℕ) (result : Result Unit ExchangeEnd) → IsWithin q m t → All (λ stream. stream.0 < 16) streams → AreAlone (seen streams) → AreEarlier q m old.may → HasRunOr (at (map (new_lane q m t) (seen streams)) old base first None) new now result → WhereKnown new.may (TakeFronts (seen streams) first now)
end_fronts q m t streams old new base first now result within below alone earlier (inr none) = nothing_taken (seen streams) first now new.may none.2
end_fronts q m t streams old new base first now result within below alone earlier (inl ran) =
    let start : Exchange = at (map (new_lane q m t) (seen streams)) old base first None in
    let safe = safe_run q m t first start ran.over within ran.run (new_safe q m t streams old base first below alone earlier) in
    subst (λ (l : LinkState). WhereKnown l.may (TakeFronts (seen streams) first now)) ran.link_is
    (subst (λ (f : ℕ → List ℕ). WhereKnown ran.over.link.may (TakeFronts (seen streams) first f)) ran.taken_is
    (fronts_known q m t (seen streams) first start ran.over ran.over.link.may refl ran.run safe.known))
