-- Tests taken apart.
use Rattle.std.proofs.Common.{◌≡◌, ℕ, ◌≤◌, Bool, true, false, ◌&&◌, leb, refl, arith}
use Rattle.std.proofs.lemmas.Bool.Decides.{nat_tests}

pub both_true : (a b : Bool) → (a && b) ≡ true → (a ≡ true) × (b ≡ true)
both_true true b e = (refl, e)
both_true false b e = absurd cc

pub le-true : (m n : ℕ) → leb m n ≡ true → m ≤ n
le-true m n e = grind (arith, nat_tests, e)

pub true-le : (m n : ℕ) → m ≤ n → leb m n ≡ true
true-le m n h = grind (arith, nat_tests, h)
