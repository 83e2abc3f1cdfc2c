-- A SELECT that is read over its own columns.
use Rattle.std.proofs.Common.{◌≡◌, ℕ, List, Result, Ok, Err, IfOk, refl, ◌∙◌}
use Rattle.hq_value.specs.declared.fault.NoMemory.{NoMemory}
use Rattle.hq_sql.specs.Grammar.{given}
use Rattle.hq_sql.specs.declared.tree.Item.{Item}
use Rattle.hq_sql.specs.declared.tree.SelectStatement.{SelectStatement}
use Rattle.hq_bind.specs.declared.scope.SourceColumn.{SourceColumn}
use Rattle.hq_bind.specs.declared.select.Reading.{Reading}
use Rattle.hq_bind.specs.Scope.{Defs}
use Rattle.hq_bind.specs.Reading.{read_columns, written_out, items_read, read_groups, item_findings, all_findings}
use Rattle.hq_bind.specs.Faults.{faults_over, query_faults}
use Rattle.hq_bind.specs.Read.{IsReadOver, IsRead}

faults_same : (defs : Defs) (s : SelectStatement) (cs : List SourceColumn) (list : List Item) (gs : List ℕ) → cs ≡ read_columns defs s → list ≡ written_out cs s → gs ≡ read_groups cs s
    → faults_over defs s cs (items_read list s) (item_findings cs gs (items_read list s)) (all_findings cs gs s.conds) (all_findings cs gs (given s.having)) ≡ query_faults defs s
faults_same defs s cs list gs e w g = rw (g, w, e) refl

pub read_whole : (defs : Defs) (s : SelectStatement) (r : Result Reading NoMemory) (cs : List SourceColumn) (list : List Item) (gs : List ℕ) → cs ≡ read_columns defs s → list ≡ written_out cs s → gs ≡ read_groups cs s
    → IfOk r (λ (x : Reading). IsReadOver defs s cs list gs x) → IfOk r (λ (x : Reading). IsRead defs s x)
read_whole defs s (Ok x) cs list gs e w g h = record {
  columns = h.columns ∙ e;
  written = rw h.columns (h.written ∙ w);
  groups = rw h.columns (h.groups ∙ g);
  of_items = rw (h.columns, h.groups, h.written) h.of_items;
  faults = h.faults ∙ faults_same defs s cs list gs e w g;
}
read_whole defs s (Err f) cs list gs e w g h = tt
