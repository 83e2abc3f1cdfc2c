-- Two lists, place by place.
--     At n old new R        R holds from the old item at place n to the new one
--     Each old new R        R holds from each item of the old list to the one in its place in the new
use Rattle.std.specs.Prelude.{ℕ, ◌<◌, List, length, slice_index_or}

-- R holds from the old item at place n to the new one
abbrev pub At : {X : Type 0} → ℕ → List X → List X → (X → X → Type 0) → Type 0
At {X} n old new R = (d : X) → R (slice_index_or old n d) (slice_index_or new n d)

-- R holds from each item of the old list to the one in its place in the new
abbrev pub Each : {X : Type 0} → List X → List X → (X → X → Type 0) → Type 0
Each old new R = (n : ℕ) → n < length old → At n old new R
