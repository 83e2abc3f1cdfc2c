-- Which queries have a plan.
--     has_room kinds q              the tables, lists and conditions of a query fit into a plan
--     has_places q                  a Final can name the columns of its input
--     is_bound kinds q              a query that is bound over tables of these kinds
use Rattle.std.specs.Prelude.{ℕ, ◌+◌, Bool, ◌&&◌, List, length, nat_le, is_some}
use Rattle.std.specs.List.{list_all}
use Rattle.hq_value.specs.declared.kind.Kind.{Kind}
use Rattle.hq_algebra.specs.declared.query.Query.{Query}
use Rattle.hq_algebra.specs.Plans.{is_short}
use Rattle.hq_algebra.specs.Queries.{query_kinds}

-- a table has 1 to 64 columns
abbrev pub is_table : List Kind → Bool
is_table kinds = nat_le 1 (length kinds) && nat_le (length kinds) 64

-- conditions, HAVING among them, that leave a slice room for its other operators
abbrev pub are_few : Query → Bool
are_few q = nat_le (length q.conds + length q.having) 40

-- the tables of a query have columns, its lists are short, and its conditions are few
abbrev pub has_room : (ℕ → List Kind) → Query → Bool
has_room kinds q = list_all (λ t. is_table (kinds t)) q.sources && (are_few q && (is_short q.groups && (is_short q.aggregates && is_short q.order)))

-- the columns of a Final's input have places of 16 bits
abbrev pub has_places : Query → Bool
has_places q = nat_le (length q.groups + (length q.aggregates + length q.aggregates)) 65535

-- a query that is bound over tables of these kinds, which are given by the tables' numbers: its columns are there and
-- its kinds fit, and a plan has room for it and for the tests of its conditions, of which it has one a source at most
abbrev pub is_bound : (ℕ → List Kind) → Query → Bool
is_bound kinds q = is_some (query_kinds kinds q) && (has_room kinds q && (has_places q && nat_le (length q.conds) 8))
