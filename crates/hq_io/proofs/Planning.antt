-- Planned failures, and bytes that are given from a place on.
use Rattle.std.proofs.Common.{◌≡◌, ◌+◌, ◌<◌, ℕ, false, List, [], ◌∷◌, ◌++◌, ◌==◌, length, take, drop, refl, ap, sym, ◌∙◌, arith, take-append-drop, length-drop, ◌-◌}
use Rattle.std.proofs.lemmas.List.{drop-drop, take_all}
use Rattle.std.proofs.lemmas.Bool.Decides.{nat_tests}
use Rattle.hq_value.specs.Causes.{raised}
use Rattle.hq_io.specs.Memory.{fails_next, NoneLeft}

not-next : (n calls : ℕ) → n < raised calls 1 → (n == raised calls 1) ≡ false
not-next n calls h = grind (arith, nat_tests)

pub none-fails : (fails : List ℕ) (calls : ℕ) → NoneLeft fails calls → fails_next fails calls ≡ false
none-fails [] calls h = refl
none-fails (n ∷ fails) calls h = rw (not-next n calls h.0) (none-fails fails calls h.1)

pub none-later : (fails : List ℕ) (calls : ℕ) → NoneLeft fails calls → NoneLeft fails (raised calls 1)
none-later [] calls h = tt
none-later (n ∷ fails) calls h = (omega (arith, h.0), none-later fails calls h.1)

rest-all : (xs : List ℕ) (at : ℕ) → take (length xs - at) (drop at xs) ≡ drop at xs
rest-all xs at = take_all _ _ (omega (arith, length-drop at xs))

-- what a reader has left is what it gives and then the rest
pub given-from : (left xs given : List ℕ) (at n : ℕ) → drop at xs ≡ left → take n given ≡ take n (take (length xs - at) (drop at xs)) → left ≡ take n given ++ drop (at + n) xs
given-from left xs given at n is e = rw (← is, e, rest-all xs at, ← drop-drop) (sym (take-append-drop n (drop at xs)))

pub given-end : (xs : List ℕ) (at n : ℕ) → n ≡ 0 → take (length xs - at) (drop at xs) ≡ [] → drop (at + n) xs ≡ []
given-end xs at n none e = rw none (ap (λ k. drop k xs) (omega arith) ∙ sym (rest-all xs at) ∙ e)
