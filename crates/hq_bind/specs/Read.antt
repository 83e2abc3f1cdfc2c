-- What is kept of a SELECT that is read over its tables.
--     IsReadOver defs s cs list gs r          over these columns, this written out select list and these groups
--     IsRead defs s r                          over its own
use Rattle.std.specs.Prelude.{◌≡◌, ℕ, List}
use Rattle.hq_sql.specs.Grammar.{given}
use Rattle.hq_sql.specs.declared.tree.Item.{Item}
use Rattle.hq_sql.specs.declared.tree.SelectStatement.{SelectStatement}
use Rattle.hq_bind.specs.Scope.{Defs}
use Rattle.hq_bind.specs.Reading.{read_columns, written_out, items_read, read_groups, item_findings, all_findings}
use Rattle.hq_bind.specs.Faults.{faults_over, query_faults}
use Rattle.hq_bind.specs.declared.scope.SourceColumn.{SourceColumn}
use Rattle.hq_bind.specs.declared.select.Reading.{Reading}

-- over these columns, this written out select list and these groups
pub record IsReadOver (defs : Defs) (s : SelectStatement) (cs : List SourceColumn) (list : List Item) (gs : List ℕ) (r : Reading) : Type 0 where
  pub columns : r.columns ≡ cs
  pub written : r.written ≡ list
  pub groups : r.groups ≡ gs
  pub of_items : r.of_items ≡ item_findings cs gs (items_read list s)
  pub faults : r.faults ≡ faults_over defs s cs (items_read list s) (item_findings cs gs (items_read list s)) (all_findings cs gs s.conds) (all_findings cs gs (given s.having))

-- over its own
pub record IsRead (defs : Defs) (s : SelectStatement) (r : Reading) : Type 0 where
  pub columns : r.columns ≡ read_columns defs s
  pub written : r.written ≡ written_out r.columns s
  pub groups : r.groups ≡ read_groups r.columns s
  pub of_items : r.of_items ≡ item_findings r.columns r.groups (items_read r.written s)
  pub faults : r.faults ≡ query_faults defs s
