-- Items of a list of which some are marked.
--     marked marks xs       those that are marked
--     picked mark x         an item, if it is marked
use Rattle.std.specs.Prelude.{Bool, true, false, List, [], ◌∷◌, if◌then◌else◌}

-- those that are marked
abbrev pub marked : {A : Type 0} → List Bool → List A → List A
marked [] xs = []
marked (mark ∷ marks) [] = []
marked (true ∷ marks) (x ∷ xs) = x ∷ marked marks xs
marked (false ∷ marks) (x ∷ xs) = marked marks xs

-- an item, if it is marked
abbrev pub picked : {A : Type 0} → Bool → A → List A
picked mark x = if mark then x ∷ [] else []
