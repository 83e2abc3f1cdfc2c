-- Bytes that have to stand next.
use Rattle.std.proofs.Common.{◌≡◌, ℕ, Bool, true, false, cond, nat_eq, List, [], ◌∷◌, length, take, drop, Some, None, refl}
use Rattle.std.specs.Prelude.{◌&&◌}
use Rattle.std.specs.Cmp.Lexicographic.{pointwise}
use Rattle.hq_planwire.specs.Reading.{after}

pub after-pointwise : (expected bytes : List ℕ) → after expected bytes ≡ cond (pointwise nat_eq (take (length expected) bytes) expected) (Some (drop (length expected) bytes)) None
after-pointwise [] bytes = refl
after-pointwise (e ∷ expected) [] = refl
after-pointwise (e ∷ expected) (b ∷ bytes) = by (nat_eq b e) (after-pointwise expected bytes)
  where
    by : (same : Bool) → after expected bytes ≡ cond (pointwise nat_eq (take (length expected) bytes) expected) (Some (drop (length expected) bytes)) None
        → cond same (after expected bytes) None ≡ cond (same && pointwise nat_eq (take (length expected) bytes) expected) (Some (drop (length expected) bytes)) None
    by true h = h
    by false h = refl
