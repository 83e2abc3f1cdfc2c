-- Groups of rows.
--     key_of keys row             the values at these places
--     group_keys keys rows        the key of each group, by first appearance
--     members key k rows          the rows of the group of key k
--     grouped keys as rows        each group's key and exact aggregates
--     some_leaves_64 keys as rows a Count or a Sum of some group is no number of 64 bits
use Rattle.std.specs.Prelude.{ℕ, zero, suc, length, Bool, List, [], ◌∷◌, ◌++◌, map, filter}
use Rattle.std.specs.List.{list_any}
use Rattle.hq_algebra.specs.declared.aggregate.Aggregate.{Aggregate}
use Rattle.hq_algebra.specs.Eval.{column}
use Rattle.hq_meaning.specs.Rows.{Row, firsts, same_row}
use Rattle.hq_meaning.specs.Aggregates.{aggregate_of, leaves_64}

-- the values at these places
abbrev pub key_of : List ℕ → Row → Row
key_of keys row = map (column row) keys

-- the keys of the groups, each of n columns, by first appearance: without keys there is one group, also over no row
abbrev pub keys_found : ℕ → (Row → Row) → List Row → List Row
keys_found zero key rows = [] ∷ []
keys_found (suc n) key rows = firsts (map key rows)

abbrev pub group_keys : List ℕ → List Row → List Row
group_keys keys rows = keys_found (length keys) (key_of keys) rows

-- the rows of the group of key k; NULLs are equal here
abbrev pub members : (Row → Row) → Row → List Row → List Row
members key k rows = filter (λ row. same_row k (key row)) rows

-- the key of a group, and each aggregate over its rows
abbrev pub group_row : List ℕ → List Aggregate → List Row → Row → Row
group_row keys aggs rows k = k ++ map (λ a. aggregate_of a (members (key_of keys) k rows)) aggs

abbrev pub grouped : List ℕ → List Aggregate → List Row → List Row
grouped keys aggs rows = map (group_row keys aggs rows) (group_keys keys rows)

-- a Count or a Sum of some group is no number of 64 bits
abbrev pub some_leaves_64 : List ℕ → List Aggregate → List Row → Bool
some_leaves_64 keys aggs rows = list_any (λ k. list_any (λ a. leaves_64 a (aggregate_of a (members (key_of keys) k rows))) aggs) (group_keys keys rows)
