-- The parts of a bound query, one by one.
use Rattle.std.proofs.Common.{◌≡◌, ℕ, Bool, List, map, refl}
use Rattle.std.specs.Prelude.{flat_map}
use Rattle.hq_sql.specs.Grammar.{given}
use Rattle.hq_sql.specs.declared.tree.Item.{Item}
use Rattle.hq_sql.specs.declared.tree.SelectStatement.{SelectStatement}
use Rattle.hq_algebra.specs.declared.expr.Expr.{Expr}
use Rattle.hq_algebra.specs.declared.op.SortKey.{SortKey}
use Rattle.hq_bind.specs.declared.scope.SourceColumn.{SourceColumn}
use Rattle.hq_bind.specs.declared.findings.Findings.{Findings}
use Rattle.hq_bind.specs.declared.bound.Outputs.{Outputs}
use Rattle.hq_bind.specs.Scope.{Defs}
use Rattle.hq_bind.specs.Reading.{read_columns, written_out, items_read, read_groups, item_findings, is_grouped}
use Rattle.hq_bind.specs.Bound.{placed, number_of, outputs, order_of, query_parts, bound_query}

-- parts that are made of what is read are those of the bound query
pub joined : (defs : Defs) (s : SelectStatement) (cs : List SourceColumn) (written items : List Item) (groups : List ℕ) (of_items : List Findings) (grouped : Bool)
    (sources : List ℕ) (conds : List Expr) (made : Outputs) (order : List SortKey)
    → sources ≡ flat_map (number_of defs) s.sources → conds ≡ map (placed cs) s.conds → made ≡ outputs cs groups grouped items (given s.having) → order ≡ order_of items s.keys
    → grouped ≡ is_grouped of_items s → of_items ≡ item_findings cs groups (items_read written s) → items ≡ items_read written s → groups ≡ read_groups cs s → written ≡ written_out cs s → cs ≡ read_columns defs s
    → query_parts s sources conds grouped groups made order ≡ bound_query defs s
joined defs s cs written items groups of_items grouped sources conds made order a b c d g f i h w e = rw (a, b, c, d, g, f, i, h, w, e) refl
