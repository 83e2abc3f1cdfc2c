-- Places that are emptied from the front.
use Rattle.std.proofs.Common.{◌≡◌, ℕ, zero, suc, ◌+◌, ◌-◌, ◌<◌, ◌≤◌, Bool, true, false, List, [], ◌∷◌, ◌++◌, length, get_or, take, drop, Option, Some, None, refl, sym, ap, subst, ◌∙◌, append_assoc, arith}
use Rattle.std.specs.Prelude.{replicate, slice_set}
use Rattle.std.proofs.lemmas.List.{set_at, drop_more, replicate_more, length-replicate, length-drop, drop_at, get_or_at}
use Rattle.hq_stream.specs.Piece.{Piece, Bytes, End}
use Rattle.hq_stream.specs.Receiving.{Receiving, taken, filled_up}
use Rattle.hq_recv.specs.Slots.{Gives, IsWaiting}

-- the first one that isn't empty yet
pub at_place : (i : ℕ) (xs orig : List (Option Piece)) (slot d : Option Piece) → xs ≡ replicate i None ++ drop i orig → i < length orig → slot ≡ get_or xs i d → drop i orig ≡ slot ∷ drop (i + 1) orig
at_place i xs orig slot d is within read =
    let next : drop i orig ≡ get_or orig i d ∷ drop (i + 1) orig = drop_more orig i d within in
    let same : slot ≡ get_or orig i d = read ∙ ap (λ l. get_or l i d) (is ∙ ap (λ l. replicate i None ++ l) next) ∙ get_or_at (replicate i None) (get_or orig i d) (drop (i + 1) orig) d i (length-replicate i None) in
    next ∙ ap (λ y. y ∷ drop (i + 1) orig) (sym same)

-- one place more is empty
pub one_emptied : (i : ℕ) (xs orig : List (Option Piece)) → xs ≡ replicate i None ++ drop i orig → i < length orig → slice_set xs i None ≡ replicate (i + 1) None ++ drop (i + 1) orig
one_emptied i xs orig is within =
    ap (λ l. slice_set l i None) (is ∙ ap (λ l. replicate i None ++ l) (drop_more orig i None within))
    ∙ set_at (replicate i None) (get_or orig i None) (drop (i + 1) orig) None i (length-replicate i None)
    ∙ sym (append_assoc (replicate i None) (None ∷ []) (drop (i + 1) orig))
    ∙ ap (λ l. l ++ drop (i + 1) orig) (replicate_more i None)

-- one piece more is taken
pub one_taken : (wanted i : ℕ) (got : List ℕ) (orig : List (Option Piece)) (slot : Option Piece) (bytes now : List ℕ) → drop i orig ≡ slot ∷ drop (i + 1) orig → slot ≡ Some (Bytes bytes) → now ≡ got ++ bytes → taken (wanted + i) got (drop i orig) ≡ taken (wanted + (i + 1)) now (drop (i + 1) orig)
one_taken wanted i got orig slot bytes now front is grown =
    ap (λ l. taken (wanted + i) got l) (front ∙ ap (λ s. s ∷ drop (i + 1) orig) is)
    ∙ (λ k. taken (let e : suc (wanted + i) ≡ wanted + (i + 1) = omega arith in e k) (sym grown k) (drop (i + 1) orig))

-- the first place is empty, so pieces are taken from the second on
pub first_empty : (slots : List (Option Piece)) → length slots ≡ 16 → IsWaiting slots → slots ≡ replicate 1 None ++ drop 1 slots
first_empty [] len waiting = absurd (omega (arith, len))
first_empty (None ∷ slots) len waiting = refl
first_empty (Some piece ∷ slots) len waiting = absurd waiting

pub first_set : (slots : List (Option Piece)) (x : Option Piece) → length slots ≡ 16 → slice_set slots 0 x ≡ x ∷ drop 1 slots
first_set [] x len = absurd (omega (arith, len))
first_set (s ∷ slots) x len = refl

-- nothing more is taken at an empty place
pub none_taken : (wanted i : ℕ) (got now : List ℕ) (orig : List (Option Piece)) (slot : Option Piece) → drop i orig ≡ slot ∷ drop (i + 1) orig → slot ≡ None → now ≡ got → taken (wanted + i) got (drop i orig) ≡ record { wanted = wanted + i; got = now; ended = false; kept = drop i orig }
none_taken wanted i got now orig slot front is same =
    let e : drop i orig ≡ None ∷ drop (i + 1) orig = front ∙ ap (λ s. s ∷ drop (i + 1) orig) is in
    ap (λ l. taken (wanted + i) got l) e ∙ (λ k. record { wanted = wanted + i; got = sym same k; ended = false; kept = sym e k })

-- the end is the last that is taken
pub end_taken : (wanted i : ℕ) (got now : List ℕ) (orig : List (Option Piece)) (slot : Option Piece) → drop i orig ≡ slot ∷ drop (i + 1) orig → slot ≡ Some End → now ≡ got → taken (wanted + i) got (drop i orig) ≡ record { wanted = wanted + (i + 1); got = now; ended = true; kept = [] }
end_taken wanted i got now orig slot front is same =
    let e : drop i orig ≡ Some End ∷ drop (i + 1) orig = front ∙ ap (λ s. s ∷ drop (i + 1) orig) is in
    ap (λ l. taken (wanted + i) got l) e ∙ (λ k. record { wanted = (let n : suc (wanted + i) ≡ wanted + (i + 1) = omega arith in n k); got = sym same k; ended = true; kept = [] })
