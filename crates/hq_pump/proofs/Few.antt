-- Troubles over a sound link that isn't too rough: at most 32 for each piece, and 31 more.
use Rattle.std.proofs.Common.{◌≡◌, ℕ, zero, suc, ◌+◌, ◌*◌, ◌<◌, ◌≤◌, max, Bool, true, false, cond, ltb, leb, List, [], ◌∷◌, take, map, Some, None, Result, refl, sym, ap, subst, ◌∙◌, arith, inl, inr}
use Rattle.std.specs.Prelude.{All, Vec, slice_get, slice_set}
use Rattle.std.proofs.lemmas.Bool.{and_parts, ltb-true}
use Rattle.hq_stream.specs.Piece.{eos}
use Rattle.hq_link.specs.Link.{LinkState, IsToldOf}
use Rattle.hq_send.specs.Sending.{is_new}
use Rattle.hq_recv.specs.Taking.{drained}
use Rattle.hq_pump.specs.declared.end.ExchangeEnd.{ExchangeEnd}
use Rattle.hq_pump.specs.declared.lane.Lane.{Lane}
use Rattle.hq_pump.specs.Exchange.{Exchange, IsTold, Step, sends, answers_it, is_told, hears, misses, rests, fails, hands_over, gives_up, Run, still, more, received, asked_again}
use Rattle.hq_pump.specs.Safe.{IsKnown, IsSafe, IsWithin, AreEarlier, AreAlone}
use Rattle.hq_pump.specs.Seen.{seen}
use Rattle.hq_pump.specs.Promise.{IsRoughAtMost}
use Rattle.hq_pump.specs.Pumping.{at, new_lane, pieces_of, AreShortOr, HasRunOr}
use Rattle.hq_pump.proofs.Safety.{said_same, safe_run}
use Rattle.hq_pump.proofs.Start.{new_safe}
use Rattle.hq_pump.proofs.Flying.{where_some}
use Rattle.hq_pump.proofs.Live.{said_acked}
use Rattle.hq_pump.proofs.Complete.{Goes, goes_run, start_goes, known_some}

-- the lowest numbers not acknowledged, and the pieces, of all streams
abbrev acked_sum : List Lane → ℕ
acked_sum [] = 0
acked_sum (lane ∷ lanes) = lane.sender.acked + acked_sum lanes

abbrev pieces_sum : List Lane → ℕ
pieces_sum [] = 0
pieces_sum (lane ∷ lanes) = suc (eos lane.sender.stream) + pieces_sum lanes

acked_set : (lanes : List Lane) (i : ℕ) (lane left : Lane) → slice_get lanes i ≡ Some lane → acked_sum (slice_set lanes i left) + lane.sender.acked ≡ acked_sum lanes + left.sender.acked
acked_set [] i lane left e = absurd cc
acked_set (x ∷ xs) zero lane left e = let same : x ≡ lane = cc in omega (arith, ap (λ (l : Lane). l.sender.acked) same)
acked_set (x ∷ xs) (suc i) lane left e = omega (arith, acked_set xs i lane left e)

pieces_set : (lanes : List Lane) (i : ℕ) (lane left : Lane) → slice_get lanes i ≡ Some lane → eos left.sender.stream ≡ eos lane.sender.stream → pieces_sum (slice_set lanes i left) ≡ pieces_sum lanes
pieces_set [] i lane left e same = absurd cc
pieces_set (x ∷ xs) zero lane left e same = let here : lane ≡ x = cc in ap (λ (n : ℕ). suc n + pieces_sum xs) (same ∙ ap (λ (l : Lane). eos l.sender.stream) here)
pieces_set (x ∷ xs) (suc i) lane left e same = ap (λ (n : ℕ). suc (eos x.sender.stream) + n) (pieces_set xs i lane left e same)

acked_again : (lanes : List Lane) → acked_sum (map asked_again lanes) ≡ acked_sum lanes
acked_again [] = refl
acked_again (lane ∷ lanes) = ap (λ (n : ℕ). lane.sender.acked + n) (acked_again lanes)

pieces_again : (lanes : List Lane) → pieces_sum (map asked_again lanes) ≡ pieces_sum lanes
pieces_again [] = refl
pieces_again (lane ∷ lanes) = ap (λ (n : ℕ). suc (eos lane.sender.stream) + n) (pieces_again lanes)

pieces_new : (q m t : ℕ) (streams : List (ℕ × List ℕ)) → pieces_sum (map (new_lane q m t) streams) ≡ pieces_of streams
pieces_new q m t [] = refl
pieces_new q m t (x ∷ xs) = ap (λ (n : ℕ). suc (eos x.1) + n) (pieces_new q m t xs)

-- the count of troubles at the last new acknowledgement
record Few (first pieces : ℕ) (s : Exchange) : Type 0 where
  count : s.base ≤ first + 32 * acked_sum s.lanes
  pieces_are : pieces_sum s.lanes ≡ pieces

few_told : (first pieces : ℕ) (s t : Exchange) → IsTold s t → Goes 15 s → Few first pieces s → Few first pieces t
few_told first pieces s t h g f = subst (Few first pieces) (sym h.is) (by (is_new h.lane.sender h.n) refl)
  where
    by : (b : Bool) → is_new h.lane.sender h.n ≡ b → Few first pieces (record s { lanes = slice_set s.lanes h.place (record h.lane { sender = cond b (record h.lane.sender { acked = h.n; next = max h.lane.sender.next h.n; again = false }) h.lane.sender }); link = h.link; base = cond b h.link.troubles s.base })
    by true e =
        let parts = and_parts (ltb h.lane.sender.acked h.n) (leb h.n (suc (eos h.lane.sender.stream))) e in
        let left : Lane = record h.lane { sender = record h.lane.sender { acked = h.n; next = max h.lane.sender.next h.n; again = false } } in
        let one : h.link.troubles ≤ s.link.troubles + 1 = where_some s.link.rough g.left (h.link.troubles ≤ s.link.troubles + 1) g.rough_is h.next.one in
        record {
          count = omega (arith, one, g.most, f.count, acked_set s.lanes h.place h.lane left h.at, ltb-true h.lane.sender.acked h.n parts.0);
          pieces_are = pieces_set s.lanes h.place h.lane left h.at refl ∙ f.pieces_are;
        }
    by false e = record {
      count = omega (arith, f.count, acked_set s.lanes h.place h.lane h.lane h.at);
      pieces_are = pieces_set s.lanes h.place h.lane h.lane h.at refl ∙ f.pieces_are;
    }

few_step : (first pieces : ℕ) (s t : Exchange) → Step s t → Goes 15 s → Few first pieces s → Few first pieces t
few_step first pieces s t (sends h) g f =
    let acked = said_acked h.lane h.left h.bytes h.says in
    let stream : eos h.left.sender.stream ≡ eos h.lane.sender.stream = ap eos (said_same h.lane h.left h.bytes h.says).stream in
    subst (Few first pieces) (sym h.is) (record {
      count = omega (arith, f.count, acked, acked_set s.lanes h.place h.lane h.left h.at);
      pieces_are = pieces_set s.lanes h.place h.lane h.left h.at stream ∙ f.pieces_are;
    })
few_step first pieces s t (answers_it h) g f = subst (Few first pieces) (sym h.is) (record { count = f.count; pieces_are = f.pieces_are })
few_step first pieces s t (is_told h) g f = few_told first pieces s t h g f
few_step first pieces s t (hears h) g f =
    let left : Lane = record h.lane { receiver = received h.lane.receiver (take h.count h.into) } in
    subst (Few first pieces) (sym h.is) (record {
      count = omega (arith, f.count, acked_set s.lanes h.place h.lane left h.at);
      pieces_are = pieces_set s.lanes h.place h.lane left h.at refl ∙ f.pieces_are;
    })
few_step first pieces s t (misses h) g f = subst (Few first pieces) (sym h.is) (record { count = f.count; pieces_are = f.pieces_are })
few_step first pieces s t (rests h) g f = subst (Few first pieces) (sym h.is) (record {
  count = omega (arith, f.count, acked_again s.lanes);
  pieces_are = pieces_again s.lanes ∙ f.pieces_are;
})
few_step first pieces s t (fails h) g f = subst (Few first pieces) (sym h.is) (record { count = f.count; pieces_are = f.pieces_are })
few_step first pieces s t (hands_over h) g f =
    let left : Lane = record h.lane { receiver = drained h.lane.receiver } in
    subst (Few first pieces) (sym h.is) (record {
      count = omega (arith, f.count, acked_set s.lanes h.place h.lane left h.at);
      pieces_are = pieces_set s.lanes h.place h.lane left h.at refl ∙ f.pieces_are;
    })
few_step first pieces s t (gives_up is) g f = subst (Few first pieces) (sym is) (record { count = f.count; pieces_are = f.pieces_are })

few_run : (q m to : ℕ) (taken : ℕ → List ℕ) (first pieces : ℕ) (s t : Exchange) → IsWithin q m to → IsSafe q m to taken s → Run s t → Goes 15 s → Few first pieces s → Few first pieces t
few_run q m to taken first pieces s t within safe still g f = f
few_run q m to taken first pieces s t within safe (more u w run step) g f =
    few_step first pieces u w step (goes_run 15 q m to taken s u within safe run g) (few_run q m to taken first pieces s u within safe run g f)

acked_below : (lanes : List Lane) → ((i : ℕ) (lane : Lane) → slice_get lanes i ≡ Some lane → lane.sender.acked ≤ suc (eos lane.sender.stream)) → acked_sum lanes ≤ pieces_sum lanes
acked_below [] below = omega arith
acked_below (lane ∷ lanes) below = omega (arith, below 0 lane refl, acked_below lanes (λ i z e. below (suc i) z e))

-- there are at most 32 troubles for each piece, and 31 more
pub end_few : {A : Type 0} (q m t : ℕ) (streams : List (ℕ × Vec ℕ A)) (old new : LinkState) (first now : ℕ → List ℕ) (result : Result Unit ExchangeEnd) → IsWithin q m t → All (λ stream. stream.0 < 16) streams → AreAlone (seen streams) → AreEarlier q m old.may → HasRunOr (at (map (new_lane q m t) (seen streams)) old old.troubles first None) new now result → AreShortOr (map (new_lane q m t) (seen streams)) old new result → IsToldOf old.rough old → IsRoughAtMost 15 old → new.troubles ≤ old.troubles + 32 * pieces_of (seen streams) + 31
end_few q m t streams old new first now result within below alone earlier (inr none) short told promise = omega (arith, ap (λ (l : LinkState). l.troubles) none.1)
end_few q m t streams old new first now result within below alone earlier (inl ran) (inr none) told promise = omega (arith, ap (λ (l : LinkState). l.troubles) none.1)
end_few q m t streams old new first now result within below alone earlier (inl ran) (inl short) told promise =
    let start : Exchange = at (map (new_lane q m t) (seen streams)) old old.troubles first None in
    let g = start_goes q m t streams old first short told promise in
    let safe = new_safe q m t streams old old.troubles first below alone earlier in
    let over = goes_run 15 q m t first start ran.over within safe ran.run g in
    let after = safe_run q m t first start ran.over within ran.run safe in
    let f = few_run q m t first old.troubles (pieces_of (seen streams)) start ran.over within safe ran.run g (record { count = omega arith; pieces_are = pieces_new q m t (seen streams) }) in
    let known : IsKnown first ran.over = known_some ran.over.link.may over.may.0 (IsKnown first ran.over) over.may.1 after.known in
    let sums = acked_below ran.over.lanes (λ i lane e. (let front = known.front i lane e in omega (arith, front.acked, front.is_of.within))) in
    omega (arith, f.count, f.pieces_are, sums, over.most, ap (λ (l : LinkState). l.troubles) ran.link_is)
