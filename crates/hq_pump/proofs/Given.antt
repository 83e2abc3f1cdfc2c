-- As many datagrams were given as pieces were taken.
use Rattle.std.proofs.Common.{◌≡◌, ℕ, zero, suc, ◌+◌, ◌-◌, ◌^◌, ◌<◌, ◌≤◌, min, Bool, true, false, cond, List, [], ◌∷◌, ◌++◌, length, take, map, Option, Some, None, Result, Ok, Err, refl, sym, ap, subst, arith, inl, inr}
use Rattle.std.specs.Prelude.{All, Vec, OnOk, replicate, slice_get, slice_set}
use Rattle.std.proofs.lemmas.Bool.{and_parts}
use Rattle.hq_value.specs.Causes.{RoseBy}
use Rattle.hq_stream.specs.Piece.{Piece, Bytes, End, eos}
use Rattle.hq_stream.specs.TwoEnds.{Sent}
use Rattle.hq_stream.specs.Receiving.{Receiving, taken, filled_up, is_outside, came}
use Rattle.hq_link.specs.Link.{LinkState, Told}
use Rattle.hq_link.specs.Streams.{piece_in}
use Rattle.hq_recv.specs.Taking.{Taker, after, drained}
use Rattle.hq_pump.specs.declared.end.ExchangeEnd.{ExchangeEnd}
use Rattle.hq_pump.specs.declared.lane.Lane.{Lane}
use Rattle.hq_pump.specs.Exchange.{Exchange, Step, sends, answers_it, is_told, hears, misses, rests, fails, hands_over, gives_up, Run, still, more, acknowledged, received, asked_again, is_sent}
use Rattle.hq_pump.specs.Safe.{WhereKnown, IsKnown, IsWithin, AreEarlier, AreAlone}
use Rattle.hq_pump.specs.Seen.{seen}
use Rattle.hq_pump.specs.Pumping.{at, new_lane, all_done, pieces_of, HasRunOr}
use Rattle.hq_pump.proofs.Safety.{said_receiver, safe_run}
use Rattle.hq_pump.proofs.Start.{after_run, mapped_get, new_safe}
use Rattle.hq_pump.proofs.Turning.{done_at}

-- pieces kept in places
abbrev kept_count : List (Option Piece) → ℕ
kept_count [] = 0
kept_count (None ∷ kept) = kept_count kept
kept_count (Some piece ∷ kept) = suc (kept_count kept)

-- pieces taken or kept
abbrev brought : Receiving → ℕ
brought r = r.wanted + kept_count r.kept

taken_brought : (n : ℕ) (got : List ℕ) (kept : List (Option Piece)) → brought (taken n got kept) ≤ n + kept_count kept
taken_brought n got [] = omega arith
taken_brought n got (None ∷ kept) = omega arith
taken_brought n got (Some (Bytes bytes) ∷ kept) = omega (arith, taken_brought (suc n) (got ++ bytes) kept)
taken_brought n got (Some End ∷ kept) = omega arith

none_kept : (k : ℕ) → kept_count (replicate k None) ≡ 0
none_kept zero = refl
none_kept (suc k) = none_kept k

kept_filled : (kept : List (Option Piece)) (k : ℕ) → kept_count (kept ++ replicate k None) ≡ kept_count kept
kept_filled [] k = none_kept k
kept_filled (None ∷ kept) k = kept_filled kept k
kept_filled (Some piece ∷ kept) k = ap suc (kept_filled kept k)

kept_set : (kept : List (Option Piece)) (i : ℕ) (piece : Piece) → kept_count (slice_set kept i (Some piece)) ≤ suc (kept_count kept)
kept_set [] i piece = omega arith
kept_set (None ∷ kept) zero piece = omega arith
kept_set (Some other ∷ kept) zero piece = omega arith
kept_set (None ∷ kept) (suc i) piece = kept_set kept i piece
kept_set (Some other ∷ kept) (suc i) piece = omega (arith, kept_set kept i piece)

-- one datagram brings one piece at most
came_brought : (r : Receiving) (n : ℕ) (piece : Piece) → brought (came r n piece) ≤ suc (brought r)
came_brought r n piece = by (is_outside r n)
  where
    by : (b : Bool) → brought (cond b r (filled_up (taken r.wanted r.got (slice_set r.kept (n - r.wanted) (Some piece))))) ≤ suc (brought r)
    by true = omega arith
    by false =
        let t : Receiving = taken r.wanted r.got (slice_set r.kept (n - r.wanted) (Some piece)) in
        omega (arith, kept_filled t.kept (16 - length t.kept), taken_brought r.wanted r.got (slice_set r.kept (n - r.wanted) (Some piece)), kept_set r.kept (n - r.wanted) piece)

received_brought : (r : Taker) (x : List ℕ) → brought (received r x).state ≤ suc (brought r.state)
received_brought r x = by (piece_in r.route x)
  where
    by : (o : Option Sent) → brought (after r.state o) ≤ suc (brought r.state)
    by None = omega arith
    by (Some p) = came_brought r.state p.number p.piece

abbrev lanes_brought : List Lane → ℕ
lanes_brought [] = 0
lanes_brought (lane ∷ lanes) = brought lane.receiver.state + lanes_brought lanes

brought_set : (lanes : List Lane) (i : ℕ) (lane left : Lane) → slice_get lanes i ≡ Some lane → lanes_brought (slice_set lanes i left) + brought lane.receiver.state ≡ lanes_brought lanes + brought left.receiver.state
brought_set [] i lane left e = absurd cc
brought_set (x ∷ xs) zero lane left e = let same : x ≡ lane = cc in omega (arith, ap (λ (l : Lane). brought l.receiver.state) same)
brought_set (x ∷ xs) (suc i) lane left e = omega (arith, brought_set xs i lane left e)

brought_again : (lanes : List Lane) → lanes_brought (map asked_again lanes) ≡ lanes_brought lanes
brought_again [] = refl
brought_again (lane ∷ lanes) = omega (arith, brought_again lanes)

brought_new : (q m t : ℕ) (streams : List (ℕ × List ℕ)) → lanes_brought (map (new_lane q m t) streams) ≡ 0
brought_new q m t [] = refl
brought_new q m t (x ∷ xs) = let none : kept_count (replicate 16 None) ≡ 0 = none_kept 16 in omega (arith, none, brought_new q m t xs)

-- the link gave at least so many
abbrev HasGiven : ℕ → Exchange → Type 0
HasGiven first s = min (first + lanes_brought s.lanes) (2 ^ 64 - 1) ≤ s.link.given

given_step : (first : ℕ) (s t : Exchange) → Step s t → HasGiven first s → HasGiven first t
given_step first s t (sends h) is =
    let same : brought h.left.receiver.state ≡ brought h.lane.receiver.state = ap (λ (r : Taker). brought r.state) (said_receiver h.lane h.left h.bytes h.says) in
    subst (HasGiven first) (sym h.is) (omega (arith, is, h.sent.given, same, brought_set s.lanes h.place h.lane h.left h.at))
given_step first s t (answers_it h) is = subst (HasGiven first) (sym h.is) (omega (arith, is, h.sent.given))
given_step first s t (is_told h) is =
    subst (HasGiven first) (sym h.is) (omega (arith, is, h.next.came.1.given, brought_set s.lanes h.place h.lane (acknowledged h.lane h.n) h.at))
given_step first s t (hears h) is =
    let left : Lane = record h.lane { receiver = received h.lane.receiver (take h.count h.into) } in
    subst (HasGiven first) (sym h.is) (omega (arith, is, h.next.came.1.given, received_brought h.lane.receiver (take h.count h.into), brought_set s.lanes h.place h.lane left h.at))
given_step first s t (misses h) is = subst (HasGiven first) (sym h.is) (omega (arith, is, h.next.came.1.given))
given_step first s t (rests h) is = subst (HasGiven first) (sym h.is) (omega (arith, is, h.next.came.1, brought_again s.lanes))
given_step first s t (fails h) is = subst (HasGiven first) (sym h.is) (omega (arith, is, h.next.came.1))
given_step first s t (hands_over h) is =
    subst (HasGiven first) (sym h.is) (omega (arith, is, brought_set s.lanes h.place h.lane (record h.lane { receiver = drained h.lane.receiver }) h.at))
given_step first s t (gives_up same) is = subst (HasGiven first) (sym same) is

given_run : (first : ℕ) (s t : Exchange) → Run s t → HasGiven first s → HasGiven first t
given_run first s t still is = is
given_run first s t (more u w run step) is = given_step first u w step (given_run first s u run is)

-- the stream at a place, which was taken whole
record IsWhole (lanes : List Lane) (i : ℕ) (bytes : List ℕ) : Type 0 where
  lane : Lane
  at_it : slice_get lanes i ≡ Some lane
  whole : suc (eos bytes) ≤ brought lane.receiver.state

sum_at : (streams : List (ℕ × List ℕ)) (lanes : List Lane) → ((i : ℕ) (x : ℕ × List ℕ) → slice_get streams i ≡ Some x → IsWhole lanes i x.1) → pieces_of streams ≤ lanes_brought lanes
sum_at [] lanes all = omega arith
sum_at (x ∷ xs) [] all = let no : None ≡ Some (all 0 x refl).lane = (all 0 x refl).at_it in absurd cc
sum_at (x ∷ xs) (lane ∷ lanes) all =
    let here = all 0 x refl in
    let same : lane ≡ here.lane = (let e : Some lane ≡ Some here.lane = here.at_it in cc) in
    omega (arith, here.whole, ap (λ (l : Lane). brought l.receiver.state) same, sum_at xs lanes (λ i y e. (let a = all (suc i) y e in record { lane = a.lane; at_it = a.at_it; whole = a.whole })))

given_known : (q m t : ℕ) (streams : List (ℕ × List ℕ)) (first : ℕ → List ℕ) (before : ℕ) (start over : Exchange) (may : Told) → start.lanes ≡ map (new_lane q m t) streams → Run start over → all_done over.lanes ≡ true → HasGiven before over → WhereKnown may (IsKnown first over) → WhereKnown may (RoseBy (pieces_of streams) before over.link.given)
given_known q m t streams first before start over None is run done has known = tt
given_known q m t streams first before start over (Some xs) is run done has known =
    let sum = sum_at streams over.lanes (λ i x e.
    let there = subst (λ (l : List Lane). slice_get l i ≡ Some (new_lane q m t x)) (sym is) (mapped_get (new_lane q m t) streams i x e) in
    let a = after_run start over i (new_lane q m t x) run there in
    let ended = (and_parts (is_sent a.lane) a.lane.receiver.state.ended (done_at over.lanes i a.lane done a.at_it)).1 in
    let past = (known.front i a.lane a.at_it).is_of.ended ended in
    let same : eos a.lane.sender.stream ≡ eos x.1 = ap eos a.same.stream in
    record { lane = a.lane; at_it = a.at_it; whole = omega (arith, past, same) }) in
    omega (arith, has, sum)

-- where all is done, at least one datagram was given for each piece
pub end_given : {A : Type 0} (q m t : ℕ) (streams : List (ℕ × Vec ℕ A)) (old new : LinkState) (base : ℕ) (first now : ℕ → List ℕ) (result : Result Unit ExchangeEnd) → IsWithin q m t → All (λ stream. stream.0 < 16) streams → AreAlone (seen streams) → AreEarlier q m old.may → HasRunOr (at (map (new_lane q m t) (seen streams)) old base first None) new now result → OnOk result (WhereKnown new.may (RoseBy (pieces_of (seen streams)) old.given new.given))
end_given q m t streams old new base first now (Err e) within below alone earlier ran = tt
end_given q m t streams old new base first now (Ok done) within below alone earlier (inr none) = absurd cc
end_given q m t streams old new base first now (Ok done) within below alone earlier (inl ran) =
    let start : Exchange = at (map (new_lane q m t) (seen streams)) old base first None in
    let safe = safe_run q m t first start ran.over within ran.run (new_safe q m t streams old base first below alone earlier) in
    let has = given_run old.given start ran.over ran.run (omega (arith, brought_new q m t (seen streams))) in
    subst (λ (l : LinkState). WhereKnown l.may (RoseBy (pieces_of (seen streams)) old.given l.given)) ran.link_is
    (given_known q m t (seen streams) first old.given start ran.over ran.over.link.may refl ran.run ran.how.0 has safe.known)
