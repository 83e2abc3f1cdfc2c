-- What parts owe to be a bound query.
--     KeepsRules p     the rules that a query keeps by itself
--     fits kinds p     the query of these parts is bound over tables of these kinds
use Rattle.std.specs.Prelude.{◌<◌, ◌≤◌, ℕ, ◌+◌, Bool, not, ◌&&◌, ◌||◌, List, ◌++◌, Option, Some, IsTrue, length, nat_le, flat_map, is_some, if◌then◌else◌}
use Rattle.std.specs.List.{list_all}
use Rattle.hq_value.specs.declared.kind.Kind.{Kind}
use Rattle.hq_algebra.specs.Bound.{is_table}
use Rattle.hq_algebra.specs.Kinds.{◌>>=◌, some_if}
use Rattle.hq_algebra.specs.Operators.{keys_kinds, items_kinds, values_kinds}
use Rattle.hq_algebra.specs.Plans.{is_short}
use Rattle.hq_algebra.specs.Queries.{are_conditions}
use Rattle.hq_algebra.specs.Rules.{is_empty, cannot_fault, are_small, arguments, fit_sources, are_below, are_within}
use Rattle.hq_executiontests.specs.declared.queries.Parts.{Parts}

-- the rules that a query keeps by itself
pub record KeepsRules (p : Parts) : Type 0 where
  pub some_sources : 0 < length p.sources
  pub few_sources : length p.sources ≤ 8
  pub some_items : 0 < length p.items
  pub few_items : length p.items ≤ 64
  pub conds_fault_never : IsTrue (cannot_fault p.conds)
  pub having_faults_never : IsTrue (cannot_fault p.having)
  pub small : IsTrue (are_small (p.conds ++ p.having ++ p.items ++ arguments p.aggregates))
  pub plain : IsTrue (p.grouped || (is_empty p.groups && is_empty p.aggregates && is_empty p.having))
  pub counts_of_one : IsTrue (fit_sources p.sources p.aggregates)
  pub group_columns : IsTrue (not p.grouped || are_below (length p.groups + length p.aggregates) (p.having ++ p.items))
  pub order_columns : IsTrue (are_within p.order (length p.items))

abbrev pub group_kinds : List Kind → Parts → Option (List Kind)
group_kinds kinds p = do
  keys ← keys_kinds kinds p.groups
  values ← values_kinds kinds p.aggregates
  Some (keys ++ values)

abbrev pub seen_kinds : List Kind → Parts → Option (List Kind)
seen_kinds kinds p = if p.grouped then group_kinds kinds p else Some kinds

abbrev pub found_kinds : (ℕ → List Kind) → Parts → Option (List Kind)
found_kinds kinds p = do
  seen ← seen_kinds (flat_map kinds p.sources) p
  found ← items_kinds seen p.items
  some_if (are_conditions (flat_map kinds p.sources) p.conds && are_conditions seen p.having) found

abbrev pub have_room : (ℕ → List Kind) → Parts → Bool
have_room kinds p = list_all (λ t. is_table (kinds t)) p.sources && (nat_le (length p.conds + length p.having) 40 && (is_short p.groups && (is_short p.aggregates && is_short p.order)))

-- the query of these parts is bound over tables of these kinds
abbrev pub fits : (ℕ → List Kind) → Parts → Bool
fits kinds p = is_some (found_kinds kinds p) && (have_room kinds p && (nat_le (length p.groups + (length p.aggregates + length p.aggregates)) 65535 && nat_le (length p.conds) 8))
