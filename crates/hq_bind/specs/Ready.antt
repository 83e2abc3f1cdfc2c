-- What a query has to keep.
--     IsReady q                            the parts of a query keep a query's own rules
--     starts_with_columns defs sources     there is a source, and the first has a column
use Rattle.std.specs.Prelude.{ℕ, ◌<◌, ◌≤◌, ◌+◌, ◌++◌, Bool, false, not, ◌||◌, ◌&&◌, IsTrue, List, [], ◌∷◌, length, nat_lt}
use Rattle.hq_algebra.specs.Rules.{is_empty, cannot_fault, are_small, arguments, fit_sources, are_below, are_within}
use Rattle.hq_sql.specs.declared.tree.SourceName.{SourceName}
use Rattle.hq_bind.specs.Scope.{Defs, source_columns}
use Rattle.hq_bind.specs.Bound.{QueryParts}

-- the parts of a query keep a query's own rules
pub record IsReady (q : QueryParts) : Type 0 where
  pub some_sources : 0 < length q.sources
  pub few_sources : length q.sources ≤ 8
  pub some_items : 0 < length q.items
  pub few_items : length q.items ≤ 64
  pub conds_fault_never : IsTrue (cannot_fault q.conds)
  pub having_faults_never : IsTrue (cannot_fault q.having)
  pub small : IsTrue (are_small (q.conds ++ q.having ++ q.items ++ arguments q.aggregates))
  pub plain : IsTrue (q.grouped || (is_empty q.groups && is_empty q.aggregates && is_empty q.having))
  pub counts_of_one : IsTrue (fit_sources q.sources q.aggregates)
  pub group_columns : IsTrue (not q.grouped || are_below (length q.groups + length q.aggregates) (q.having ++ q.items))
  pub order_columns : IsTrue (are_within q.order (length q.items))

-- there is a source, and the first has a column
abbrev pub starts_with_columns : Defs → List SourceName → Bool
starts_with_columns defs [] = false
starts_with_columns defs (s ∷ sources) = nat_lt 0 (length (source_columns defs s))
