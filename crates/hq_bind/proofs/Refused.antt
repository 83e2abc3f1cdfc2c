-- The refusals of an INSERT, test by test.
use Rattle.std.proofs.Common.{◌≡◌, ℕ, List, Option, map, refl}
use Rattle.hq_value.specs.declared.value.Value.{Value}
use Rattle.hq_value.specs.Tables.{Definition}
use Rattle.hq_value.specs.declared.kind.Kind.{Kind}
use Rattle.hq_value.specs.declared.table.Column.{Column}
use Rattle.hq_expr.specs.declared.tree.Literal.{Literal}
use Rattle.hq_sql.specs.declared.tree.SelectStatement.{SelectStatement}
use Rattle.hq_bind.specs.declared.faults.Faults.{Faults}
use Rattle.hq_bind.specs.declared.refusal.Refusal.{Refusal}
use Rattle.hq_bind.specs.declared.select.Reading.{Reading}
use Rattle.hq_bind.specs.Scope.{Name, Defs}
use Rattle.hq_bind.specs.Targets.{targets, places, row_of}
use Rattle.hq_bind.specs.Faults.{first_of, with_list, tuple_faults, output_faults, findings_kinds, rows_refusal}
use Rattle.hq_bind.specs.Read.{IsRead}
use Rattle.hq_bind.specs.Bound.{values, bound_tuples}

pub tuples_same : (columns own : List Column) (names : List Name) (ks : List Kind) (tuples : List (List Literal)) (found whole : Faults) (r : Option Refusal)
    → columns ≡ own → ks ≡ targets own names → found ≡ tuple_faults ks tuples → whole ≡ with_list columns names found → r ≡ first_of whole
    → r ≡ first_of (with_list own names (tuple_faults (targets own names) tuples))
tuples_same columns own names ks tuples found whole r a b d e f = rw (f, e, d, b, a) refl

pub rows_same : (defs : Defs) (table : ℕ × Definition) (names : List Name) (s : SelectStatement) (read : Reading) (columns : List Column) (ks : List Kind) (found whole : Faults) (r : Option Refusal)
    → IsRead defs s read → columns ≡ table.1.columns → ks ≡ targets table.1.columns names → found ≡ output_faults ks (findings_kinds read.of_items) read.faults → whole ≡ with_list columns names found → r ≡ first_of whole
    → r ≡ rows_refusal defs table names s
rows_same defs table names s read columns ks found whole r h a b d e f =
    rw (f, e, d, b, a, h.faults, h.of_items, h.groups, h.written, h.columns) refl

pub rows_bound : (table : ℕ × Definition) (names : List Name) (tuples : List (List Literal)) (at : List (Option ℕ)) (rows : List (List Value)) → at ≡ places table.1.columns names → rows ≡ map (row_of at) tuples
    → values table.0 rows ≡ bound_tuples table names tuples
rows_bound table names tuples at rows p r = rw (r, p) refl
