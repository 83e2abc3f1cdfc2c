-- Which node owns which bucket.
--     nodes_up marks           the nodes that are up, ascending
--     owner_of marks bucket    the node at the bucket's place, modulo their number, among them
use Rattle.std.specs.Prelude.{ℕ, ◌+◌, ◌%◌, Bool, true, false, List, [], ◌∷◌, length, slice_index_or}

-- those from node i on
abbrev pub ups_from : ℕ → List Bool → List ℕ
ups_from i [] = []
ups_from i (true ∷ marks) = i ∷ ups_from (i + 1) marks
ups_from i (false ∷ marks) = ups_from (i + 1) marks

-- the nodes that are up, ascending
abbrev pub nodes_up : List Bool → List ℕ
nodes_up marks = ups_from 0 marks

-- the node at the bucket's place, modulo their number, among them
abbrev pub owner_of : List Bool → ℕ → ℕ
owner_of marks bucket = slice_index_or (nodes_up marks) (bucket % length (nodes_up marks)) 0
