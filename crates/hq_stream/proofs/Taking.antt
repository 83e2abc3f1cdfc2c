-- What a receiver takes of the pieces of a stream is a front of it.
use Rattle.std.proofs.Common.{◌≡◌, ℕ, zero, suc, ◌+◌, ◌-◌, ◌*◌, ◌/◌, ◌<◌, ◌≤◌, ◌^◌, Bool, true, false, ◌||◌, ltb, leb, eqb, cond, List, [], ◌∷◌, ◌++◌, length, take, drop, Option, Some, None, refl, sym, ap, subst, ◌∙◌, append_assoc, arith, inl, inr}
use Rattle.std.specs.Prelude.{replicate, slice_set, slice_range}
use Rattle.std.proofs.lemmas.Bool.{ltb-true, ltb-false, leb-false, eqb-true, or_parts, cases_Bool}
use Rattle.std.proofs.lemmas.List.{take_all, length-take}
use Rattle.hq_stream.specs.Piece.{Piece, Bytes, End, eos, piece_at}
use Rattle.hq_stream.specs.Receiving.{Receiving, taken, filled_up, is_over, is_outside, came, ArePieces, IsOf}

take_empty : (k : ℕ) → take {A = ℕ} k [] ≡ []
take_empty zero = refl
take_empty (suc k) = refl

pub take_join : (i k : ℕ) (xs : List ℕ) → take i xs ++ take k (drop i xs) ≡ take (i + k) xs
take_join zero k xs = ap (λ n. take n xs) (let e : k ≡ 0 + k = omega arith in e)
take_join (suc i) k [] = take_empty k ∙ sym (take_empty (suc i + k))
take_join (suc i) k (x ∷ xs) = ap (λ l. x ∷ l) (take_join i k xs) ∙ ap (λ n. take n (x ∷ xs)) (let e : suc (i + k) ≡ suc i + k = omega arith in e)

-- a piece of bytes stands below the end, and is the stream's next bytes
pub bytes_at : (stream : List ℕ) (n : ℕ) (bytes : List ℕ) → piece_at stream n ≡ Some (Bytes bytes) → (n < eos stream) × (bytes ≡ slice_range stream (1200 * n) (1200 * n + 1200))
bytes_at stream n bytes e = by (ltb n (eos stream)) (eqb n (eos stream)) (ltb-true n (eos stream)) e
  where
    by : (b c : Bool) → (b ≡ true → n < eos stream) → cond b (Some (Bytes (slice_range stream (1200 * n) (1200 * n + 1200)))) (cond c (Some End) None) ≡ Some (Bytes bytes) → (n < eos stream) × (bytes ≡ slice_range stream (1200 * n) (1200 * n + 1200))
    by true c h e = (h refl, cc)
    by false true h e = absurd cc
    by false false h e = absurd cc

-- the end stands at its number
pub end_at : (stream : List ℕ) (n : ℕ) → piece_at stream n ≡ Some End → n ≡ eos stream
end_at stream n e = by (ltb n (eos stream)) (eqb n (eos stream)) (eqb-true n (eos stream)) e
  where
    by : (b c : Bool) → (c ≡ true → n ≡ eos stream) → cond b (Some (Bytes (slice_range stream (1200 * n) (1200 * n + 1200)))) (cond c (Some End) None) ≡ Some End → n ≡ eos stream
    by true c h e = absurd cc
    by false true h e = h refl
    by false false h e = absurd cc

pub one_more : (stream gone : List ℕ) (n : ℕ) (bytes got : List ℕ) → gone ++ got ≡ take (1200 * n) stream → bytes ≡ slice_range stream (1200 * n) (1200 * n + 1200) → gone ++ (got ++ bytes) ≡ take (1200 * suc n) stream
one_more stream gone n bytes got front next =
    sym (append_assoc gone got bytes) ∙ (λ i. front i ++ next i) ∙ take_join (1200 * n) (1200 * n + 1200 - 1200 * n) stream
    ∙ ap (λ k. take k stream) (let e : 1200 * n + (1200 * n + 1200 - 1200 * n) ≡ 1200 * suc n = omega arith in e)

pub ArePieces-empty : (stream : List ℕ) (n count : ℕ) → ArePieces stream n (replicate count None)
ArePieces-empty stream n zero = tt
ArePieces-empty stream n (suc count) = ArePieces-empty stream (suc n) count

pub ArePieces-filled : (stream : List ℕ) (n count : ℕ) (kept : List (Option Piece)) → ArePieces stream n kept → ArePieces stream n (kept ++ replicate count None)
ArePieces-filled stream n count [] are = ArePieces-empty stream n count
ArePieces-filled stream n count (None ∷ kept) are = ArePieces-filled stream (suc n) count kept are
ArePieces-filled stream n count (Some piece ∷ kept) are = (are.0, ArePieces-filled stream (suc n) count kept are.1)

pub ArePieces-set : (stream : List ℕ) (n i : ℕ) (piece : Piece) (kept : List (Option Piece)) → piece_at stream (n + i) ≡ Some piece → ArePieces stream n kept → ArePieces stream n (slice_set kept i (Some piece))
ArePieces-set stream n i piece [] is are = tt
ArePieces-set stream n zero piece (None ∷ kept) is are = (subst (λ k. piece_at stream k ≡ Some piece) (let e : n + 0 ≡ n = omega arith in e) is, are)
ArePieces-set stream n zero piece (Some other ∷ kept) is are = (subst (λ k. piece_at stream k ≡ Some piece) (let e : n + 0 ≡ n = omega arith in e) is, are.1)
ArePieces-set stream n (suc i) piece (None ∷ kept) is are =
    ArePieces-set stream (suc n) i piece kept (subst (λ k. piece_at stream k ≡ Some piece) (let e : n + suc i ≡ suc n + i = omega arith in e) is) are
ArePieces-set stream n (suc i) piece (Some other ∷ kept) is are =
    (are.0, ArePieces-set stream (suc n) i piece kept (subst (λ k. piece_at stream k ≡ Some piece) (let e : n + suc i ≡ suc n + i = omega arith in e) is) are.1)

pub taken_is : (stream gone : List ℕ) (n : ℕ) (got : List ℕ) (kept : List (Option Piece)) → gone ++ got ≡ take (1200 * n) stream → n ≤ eos stream → ArePieces stream n kept → IsOf stream gone (taken n got kept)
taken_is stream gone n got [] front within are =
    record { front = front; within = omega arith; ended = λ e. absurd cc; not_ended = λ _. within; kept = tt }
taken_is stream gone n got (None ∷ kept) front within are =
    record { front = front; within = omega arith; ended = λ e. absurd cc; not_ended = λ _. within; kept = are }
taken_is stream gone n got (Some (Bytes bytes) ∷ kept) front within are =
    let at = bytes_at stream n bytes are.0 in
    taken_is stream gone (suc n) (got ++ bytes) kept (one_more stream gone n bytes got front at.1) (omega (arith, at.0)) are.1
taken_is stream gone n got (Some End ∷ kept) front within are =
    let at = end_at stream n are.0 in
    record {
      front = front ∙ take_all (1200 * n) stream (omega (arith, at)) ∙ sym (take_all (1200 * suc n) stream (omega (arith, at)));
      within = omega (arith, at);
      ended = λ _. ap suc at;
      not_ended = λ e. absurd cc;
      kept = tt;
    }

filled_is : (stream gone : List ℕ) (r : Receiving) → IsOf stream gone r → IsOf stream gone (filled_up r)
filled_is stream gone r of = record { front = of.front; within = of.within; ended = of.ended; not_ended = of.not_ended; kept = ArePieces-filled stream r.wanted (16 - length r.kept) r.kept of.kept }

pub came_is : (stream gone : List ℕ) (r : Receiving) (n : ℕ) (piece : Piece) → piece_at stream n ≡ Some piece → IsOf stream gone r → IsOf stream gone (came r n piece)
came_is stream gone r n piece is of = by (is_outside r n) refl
  where
    by : (b : Bool) → is_outside r n ≡ b → IsOf stream gone (cond b r (filled_up (taken r.wanted r.got (slice_set r.kept (n - r.wanted) (Some piece)))))
    by true e = of
    by false e =
        let a = or_parts (is_over r) (ltb n r.wanted || leb (r.wanted + 16) n) e in
        let not_ended : r.ended ≡ false = (or_parts r.ended (leb (2 ^ 64 - 16) r.wanted) a.0).0 in
        let b = or_parts (ltb n r.wanted) (leb (r.wanted + 16) n) a.1 in
        let low : r.wanted ≤ n = ltb-false _ _ b.0 in
        let there = ArePieces-set stream r.wanted (n - r.wanted) piece r.kept (subst (λ k. piece_at stream k ≡ Some piece) (let s : n ≡ r.wanted + (n - r.wanted) = omega (arith, low) in s) is) of.kept in
        let t = taken_is stream gone r.wanted r.got (slice_set r.kept (n - r.wanted) (Some piece)) of.front (of.not_ended not_ended) there in
        filled_is stream gone (taken r.wanted r.got (slice_set r.kept (n - r.wanted) (Some piece))) t

pub whole_is : (stream gone : List ℕ) (r : Receiving) → IsOf stream gone r → suc (eos stream) ≤ r.wanted → gone ++ r.got ≡ stream
whole_is stream gone r of past = of.front ∙ take_all (1200 * r.wanted) stream (omega (arith, past))

taken_grows : (n : ℕ) (got : List ℕ) (kept : List (Option Piece)) → n ≤ (taken n got kept).wanted
taken_grows n got [] = omega arith
taken_grows n got (None ∷ kept) = omega arith
taken_grows n got (Some (Bytes bytes) ∷ kept) = omega (arith, taken_grows (suc n) (got ++ bytes) kept)
taken_grows n got (Some End ∷ kept) = omega arith

-- the wanted number never falls
pub came_grows : (r : Receiving) (n : ℕ) (piece : Piece) → r.wanted ≤ (came r n piece).wanted
came_grows r n piece = by (is_outside r n)
  where
    by : (b : Bool) → r.wanted ≤ (cond b r (filled_up (taken r.wanted r.got (slice_set r.kept (n - r.wanted) (Some piece))))).wanted
    by true = omega arith
    by false = taken_grows r.wanted r.got (slice_set r.kept (n - r.wanted) (Some piece))
