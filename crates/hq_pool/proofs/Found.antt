-- Places of mapped lists.
use Rattle.std.proofs.Common.{◌≡◌, ◌+◌, Bool, not, cond, ltb, List, [], ◌∷◌, map, position, Some, None, refl, ap}
use Rattle.std.specs.List.{prefix_len}
use Rattle.std.proofs.lemmas.List.{length-map}

prefix_len-map : {A B : Type 0} (f : A → B) (test : B → Bool) (xs : List A) → prefix_len test (map f xs) ≡ prefix_len (λ x. test (f x)) xs
prefix_len-map f test [] = refl
prefix_len-map f test (x ∷ xs) = ap (λ n. cond (test (f x)) (1 + n) 0) (prefix_len-map f test xs)

-- the first place that passes
pub position-map : {A B : Type 0} (f : A → B) (test : B → Bool) (xs : List A) → position test (map f xs) ≡ position (λ x. test (f x)) xs
position-map f test xs = λ i. cond (ltb (prefix_len-map f (λ y. not (test y)) xs i) (length-map xs f i)) (Some (prefix_len-map f (λ y. not (test y)) xs i)) None
