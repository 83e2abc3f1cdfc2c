-- Lists of rows by node.
--     list_at lists n        the list of node n, none where it is past the end
--     listed lists           nodes and their rows
use Rattle.std.specs.Prelude.{ℕ, List, [], map, slice_index_or}
use Rattle.std.specs.Global.{Vec}
use Rattle.hq_value.specs.declared.value.Value.{Value}

-- the list of node n, none where it is past the end
abbrev pub list_at : List (List (List Value)) → ℕ → List (List Value)
list_at lists n = slice_index_or lists n []

-- nodes and their rows
abbrev pub listed : List (ℕ × Vec (List Value)) → List (ℕ × List (List Value))
listed lists = map (λ (list : ℕ × Vec (List Value)). (list.0, list.1.items)) lists
