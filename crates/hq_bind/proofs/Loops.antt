-- One more item, in loops that the tactics don't close.
use Rattle.std.proofs.Common.{◌≡◌, ℕ, ◌+◌, ◌<◌, List, [], ◌∷◌, ◌++◌, length, map, take, get_or, Option, Some, sym, ap, ◌∙◌, arith}
use Rattle.std.specs.List.{range_with_len}
use Rattle.std.proofs.lemmas.List.{map_more}
use Rattle.std.proofs.lemmas.List.FromFn.{map-range_with_len_more}

pub places_more : (n x : ℕ) (old new : List (Option ℕ)) → old ≡ map Some (range_with_len 0 n) → x ≡ n → new ≡ old ++ Some x ∷ [] → new ≡ map Some (range_with_len 0 (n + 1))
places_more n x old new o e p = p ∙ (λ i. o i ++ Some (e i) ∷ []) ∙ sym (map-range_with_len_more {X = Option ℕ} Some 0 n n (omega arith))

pub rows_more : {X Y : Type 0} (f : X → Y) (xs : List X) (i : ℕ) (x : X) (y : Y) (old new : List Y) → i < length xs → x ≡ get_or xs i x → old ≡ map f (take i xs) → y ≡ f x → new ≡ old ++ y ∷ []
    → new ≡ map f (take (i + 1) xs)
rows_more {X} {Y} f xs i x y old new h e o r p =
    p ∙ (λ j. o j ++ r j ∷ []) ∙ ap (λ (z : X). map f (take i xs) ++ f z ∷ []) e ∙ sym (map_more f xs i x h)
