-- Lists of datagrams.
use Rattle.std.proofs.Common.{◌≡◌, ◌⊎◌, ℕ, zero, suc, ◌+◌, ◌-◌, ◌<◌, ◌≤◌, Bool, true, false, List, [], ◌∷◌, ◌++◌, length, get_or, take, drop, min, Option, Some, None, refl, sym, ap, subst, ◌∙◌, arith, inl, inr}
use Rattle.std.specs.Prelude.{slice_get, remove}
use Rattle.hq_link.specs.Link.{IsIn, IsThinned, ack_count, other_count, acks_in, others_in}
use Rattle.hq_sim.specs.Acting.{AreSent}

drop_nothing : {A : Type 0} (n : ℕ) → drop {A = A} n [] ≡ []
drop_nothing zero = refl
drop_nothing (suc n) = refl

pub drop_one : {A : Type 0} (i : ℕ) (xs : List A) → drop (i + 1) xs ≡ drop 1 (drop i xs)
drop_one zero [] = refl
drop_one zero (x ∷ xs) = refl
drop_one (suc i) [] = drop_nothing (suc i + 1)
drop_one (suc i) (x ∷ xs) = ap (λ n. drop n (x ∷ xs)) (let e : suc i + 1 ≡ suc (i + 1) = omega arith in e) ∙ drop_one i xs

pub sent_last : (x : List ℕ) (sent : List (List ℕ)) → IsIn x (sent ++ x ∷ [])
sent_last x [] = inl refl
sent_last x (y ∷ sent) = inr (sent_last x sent)

pub sent_still : (x y : List ℕ) (sent : List (List ℕ)) → IsIn x sent → IsIn x (sent ++ y ∷ [])
sent_still x y [] h = absurd h
sent_still x y (z ∷ sent) (inl e) = inl e
sent_still x y (z ∷ sent) (inr h) = inr (sent_still x y sent h)

-- one more was sent, and is flying
pub all_sent_more : (y : List ℕ) (xs sent : List (List ℕ)) → AreSent xs sent → AreSent (xs ++ y ∷ []) (sent ++ y ∷ [])
all_sent_more y [] sent all = (sent_last y sent, tt)
all_sent_more y (x ∷ xs) sent all = (sent_still x y sent all.0, all_sent_more y xs sent all.1)

-- one was taken out
pub all_sent_less : (xs sent : List (List ℕ)) (i : ℕ) → AreSent xs sent → AreSent (remove xs i) sent
all_sent_less [] sent zero all = tt
all_sent_less [] sent (suc i) all = tt
all_sent_less (x ∷ xs) sent zero all = all.1
all_sent_less (x ∷ xs) sent (suc i) all = (all.0, all_sent_less xs sent i all.1)

pub member_sent : (xs sent : List (List ℕ)) (i : ℕ) (x : List ℕ) → AreSent xs sent → slice_get xs i ≡ Some x → IsIn x sent
member_sent [] sent i x all e = absurd cc
member_sent (y ∷ xs) sent zero x all e = subst (λ z. IsIn z sent) (let same : y ≡ x = cc in same) all.0
member_sent (y ∷ xs) sent (suc i) x all e = member_sent xs sent i x all.1 e

pub member : (xs : List (List ℕ)) (i : ℕ) (x : List ℕ) → slice_get xs i ≡ Some x → IsIn x xs
member [] i x e = absurd cc
member (y ∷ xs) zero x e = inl (let same : y ≡ x = cc in same)
member (y ∷ xs) (suc i) x e = inr (member xs i x e)

pub thinned_skip : (x : List ℕ) (old new : List (List ℕ)) → IsThinned old new → IsThinned (x ∷ old) new
thinned_skip x old [] h = tt
thinned_skip x old (y ∷ new) h = inr h

pub thinned_same : (xs : List (List ℕ)) → IsThinned xs xs
thinned_same [] = tt
thinned_same (x ∷ xs) = inl (refl, thinned_same xs)

pub thinned_remove : (xs : List (List ℕ)) (i : ℕ) → IsThinned xs (remove xs i)
thinned_remove [] zero = tt
thinned_remove [] (suc i) = tt
thinned_remove (x ∷ xs) zero = thinned_skip x xs xs (thinned_same xs)
thinned_remove (x ∷ xs) (suc i) = inl (refl, thinned_remove xs i)

pub thinned_drop : (xs : List (List ℕ)) → IsThinned xs (drop 1 xs)
thinned_drop [] = tt
thinned_drop (x ∷ xs) = thinned_skip x xs xs (thinned_same xs)

-- what is left is less of both sorts
pub thinned_acks : (old new : List (List ℕ)) → IsThinned old new → acks_in new ≤ acks_in old
thinned_acks old [] h = omega arith
thinned_acks [] (y ∷ new) h = absurd h
thinned_acks (x ∷ old) (y ∷ new) (inl h) = omega (arith, thinned_acks old new h.1, ap ack_count h.0)
thinned_acks (x ∷ old) (y ∷ new) (inr h) = omega (arith, thinned_acks old (y ∷ new) h)

pub thinned_others : (old new : List (List ℕ)) → IsThinned old new → others_in new ≤ others_in old
thinned_others old [] h = omega arith
thinned_others [] (y ∷ new) h = absurd h
thinned_others (x ∷ old) (y ∷ new) (inl h) = omega (arith, thinned_others old new h.1, ap other_count h.0)
thinned_others (x ∷ old) (y ∷ new) (inr h) = omega (arith, thinned_others old (y ∷ new) h)

pub acks_more : (xs : List (List ℕ)) (y : List ℕ) → acks_in (xs ++ y ∷ []) ≡ acks_in xs + ack_count y
acks_more [] y = omega arith
acks_more (x ∷ xs) y = omega (arith, acks_more xs y)

pub others_more : (xs : List (List ℕ)) (y : List ℕ) → others_in (xs ++ y ∷ []) ≡ others_in xs + other_count y
others_more [] y = omega arith
others_more (x ∷ xs) y = omega (arith, others_more xs y)

-- what an index reads
pub place_read : (xs : List (List ℕ)) (i : ℕ) (x : List ℕ) → i < length xs → x ≡ get_or xs i x → slice_get xs i ≡ Some x
place_read [] i x lt e = absurd (omega (arith, lt))
place_read (y ∷ xs) zero x lt e = ap Some (sym e)
place_read (y ∷ xs) (suc i) x lt e = place_read xs i x (omega (arith, lt)) e
