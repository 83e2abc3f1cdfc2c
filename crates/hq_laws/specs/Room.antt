-- The keys of joins, and what the slice before the last one sends.
--     are_joinable kinds left js    the keys of each join fit
--     kinds_sent kinds q            the kinds of what the slice before the last one sends
use Rattle.std.specs.Prelude.{ℕ, ◌+◌, Bool, true, not, ◌&&◌, List, [], ◌∷◌, ◌++◌, length, nat_le, Option, Some, is_some, if◌then◌else◌}
use Rattle.std.specs.List.{list_all}
use Rattle.hq_value.specs.declared.kind.Kind.{Kind}
use Rattle.hq_algebra.specs.declared.query.Query.{Query}
use Rattle.hq_algebra.specs.Rules.{is_empty}
use Rattle.hq_algebra.specs.Operators.{join_kinds, partial_kinds}
use Rattle.hq_algebra.specs.Queries.{product_kinds}
use Rattle.hq_algebra.specs.Plans.{is_short, keys_stand}
use Rattle.hq_laws.specs.Spread.{Way, MoveBoth, MoveLeft, MoveRight, Joining}

-- the two sides of a join have keys of the same kinds, and a motion by keys has a key
abbrev pub way_stands : Way → List Kind → List Kind → List ℕ → List ℕ → Bool
way_stands MoveBoth left right lk rk = keys_stand lk (Some left) && keys_stand rk (Some right)
way_stands MoveLeft left right lk rk = keys_stand lk (Some left)
way_stands MoveRight left right lk rk = keys_stand rk (Some right)
way_stands _ left right lk rk = true

abbrev pub is_joinable : List Kind → List Kind → Joining → Bool
is_joinable left right j = is_some (join_kinds j.left_keys j.right_keys left right) && ((is_short j.left_keys && is_short j.right_keys) && way_stands j.way left right j.left_keys j.right_keys)

-- so it is with each join, where the rows before it have these kinds
abbrev pub are_joinable : (ℕ → List Kind) → List Kind → List Joining → Bool
are_joinable kinds left [] = true
are_joinable kinds left (j ∷ js) = is_joinable left (kinds j.table) j && are_joinable kinds (left ++ kinds j.table) js

-- the kinds of what the slice before the last one sends: the columns of the partial groups
abbrev pub kinds_sent : (ℕ → List Kind) → Query → Option (List Kind)
kinds_sent kinds q = if q.grouped then partial_kinds q.groups q.aggregates (product_kinds kinds q) else Some (product_kinds kinds q)

-- there are some, and not too many
abbrev pub is_sendable : List Kind → Bool
is_sendable sent = not (is_empty sent) && is_short sent
