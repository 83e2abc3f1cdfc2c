-- The nodes of a query.
--     owners marks        for each bucket the node that owns it
--     is_used marks n     node n is in use, since it is up
--     has_flag flags n    node n has its flag set; flagged flags the nodes that have, ascending
use Rattle.std.specs.Prelude.{ℕ, Bool, false, List, map, filter, slice_index_or}
use Rattle.std.specs.List.{range_with_len}
use Rattle.hq_detect.specs.Assign.{owner_of}

-- for each bucket the node that owns it
abbrev pub owners : List Bool → List ℕ
owners marks = map (owner_of marks) (range_with_len 0 16)

-- node n is in use, since it is up
abbrev pub is_used : List Bool → ℕ → Bool
is_used marks n = slice_index_or marks n false

-- node n has its flag set
abbrev pub has_flag : List Bool → ℕ → Bool
has_flag flags n = slice_index_or flags n false

-- the nodes that have, ascending
abbrev pub flagged : List Bool → List ℕ
flagged flags = filter (has_flag flags) (range_with_len 0 16)
