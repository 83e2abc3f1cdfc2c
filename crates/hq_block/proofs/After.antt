-- Bytes that have to stand next.
use Rattle.std.proofs.Common.{◌≡◌, ℕ, Bool, true, false, cond, nat_eq, List, [], ◌∷◌, ◌++◌, length, take, drop, Some, None, refl, ap, subst, ◌∙◌}
use Rattle.std.specs.Prelude.{◌&&◌}
use Rattle.std.specs.Cmp.Lexicographic.{pointwise}
use Rattle.std.proofs.lemmas.Bool.{eqb-true, eq-eqb}
use Rattle.hq_block.specs.Reading.{after}
use Rattle.hq_block.proofs.Flags.{IsBytes, IsBytes-tail}
use Rattle.hq_block.proofs.Numbers.{Takes, guard_some, some_is}

pub after-pointwise : (expected bytes : List ℕ) → after expected bytes ≡ cond (pointwise nat_eq (take (length expected) bytes) expected) (Some (drop (length expected) bytes)) None
after-pointwise [] bytes = refl
after-pointwise (e ∷ expected) [] = refl
after-pointwise (e ∷ expected) (b ∷ bytes) = by (nat_eq b e) (after-pointwise expected bytes)
  where
    by : (same : Bool) → after expected bytes ≡ cond (pointwise nat_eq (take (length expected) bytes) expected) (Some (drop (length expected) bytes)) None
        → cond same (after expected bytes) None ≡ cond (same && pointwise nat_eq (take (length expected) bytes) expected) (Some (drop (length expected) bytes)) None
    by true h = h
    by false h = refl

pub after_takes : (expected bytes rest : List ℕ) → IsBytes bytes → after expected bytes ≡ Some rest → Takes bytes expected rest
after_takes [] bytes rest fits e = subst (λ (l : List ℕ). Takes bytes [] l) (some_is bytes rest e) (record { parts = refl; rest_fits = fits })
after_takes (e ∷ expected) [] rest fits h = absurd cc
after_takes (e ∷ expected) (b ∷ bytes) rest fits h =
    let g = guard_some (nat_eq b e) (after expected bytes) rest h in
    let t = after_takes expected bytes rest (IsBytes-tail b bytes fits) g.1 in
    record { parts = λ i. eqb-true b e g.0 i ∷ t.parts i; rest_fits = t.rest_fits }

pub after_again : (expected rest : List ℕ) → after expected (expected ++ rest) ≡ Some rest
after_again [] rest = refl
after_again (e ∷ expected) rest = ap (λ (b : Bool). cond b (after expected (expected ++ rest)) None) (eq-eqb e e refl) ∙ after_again expected rest
