-- What is found in an expression, read over the columns of the sources and over those that rows are grouped by.
--     findings cs groups e     its kind (Wrong where an operand is of another kind than is asked), and whether in it stand
--                              a text of more than 1,000 bytes, a reference to no column and one to several, a column outside
--                              of its aggregates that is not among the groups', and an aggregate
use Rattle.std.specs.Prelude.{ℕ, Bool, true, false, not, ◌&&◌, ◌||◌, ◌==◌, nat_lt, List, length, Option, Some, None, slice_get}
use Rattle.std.specs.List.{list_any}
use Rattle.std.specs.Option.{option_map_or}
use Rattle.hq_value.specs.declared.kind.Kind.{Kind}
use Rattle.hq_value.specs.declared.kind.Kind.TheVariants as kind
use Rattle.hq_expr.specs.declared.tree.ColumnRef.{ColumnRef}
use Rattle.hq_expr.specs.declared.tree.Literal.{Literal}
use Rattle.hq_expr.specs.declared.tree.Literal.TheVariants as lit
use Rattle.hq_expr.specs.declared.tree.AggregateKind.{AggregateKind}
use Rattle.hq_expr.specs.declared.tree.AggregateKind.TheVariants as ak
use Rattle.hq_expr.specs.declared.tree.SqlExpr.{SqlExpr, Row_of-SqlExpr, end_of-SqlExpr, more_of-SqlExpr}
use Rattle.hq_expr.specs.declared.tree.SqlExpr.TheVariants as e
use Rattle.hq_algebra.specs.declared.kinds.ExprKind.{ExprKind}
use Rattle.hq_algebra.specs.declared.kinds.ExprKind.TheVariants as typed
use Rattle.hq_algebra.specs.Kinds.{is_of, are_alike, has_kind, kind_if, item_kind}
use Rattle.hq_bind.specs.Scope.{fit_count, place_of}
use Rattle.hq_bind.specs.declared.scope.SourceColumn.{SourceColumn}
use Rattle.hq_bind.specs.declared.findings.Findings.{Findings}

-- a text that is longer than a value may be
abbrev pub is_long : Literal → Bool
is_long (lit.Text t) = nat_lt 1000 (length t)
is_long _ = false

abbrev pub literal_kind : Literal → ExprKind
literal_kind lit.Null = typed.Null
literal_kind (lit.Bool b) = typed.Of kind.Bool
literal_kind (lit.Int n) = typed.Of kind.Int
literal_kind (lit.Text t) = typed.Of kind.Text

abbrev pub column_kind : List SourceColumn → Option ℕ → ExprKind
column_kind cs None = typed.Wrong
column_kind cs (Some place) = option_map_or (λ (c : SourceColumn). typed.Of c.kind) (slice_get cs place) typed.Wrong

-- NULL alone, under MIN or MAX, is a text
abbrev pub of_item : Option Kind → ExprKind
of_item (Some k) = typed.Of k
of_item None = typed.Wrong

abbrev pub aggregate_kind : AggregateKind → ExprKind → ExprKind
aggregate_kind ak.Count of = kind_if (has_kind of) kind.Int
aggregate_kind ak.Sum of = kind_if (is_of kind.Int of) kind.Int
aggregate_kind ak.Min of = of_item (item_kind of)
aggregate_kind ak.Max of = of_item (item_kind of)

-- the place is among these
abbrev pub is_among : List ℕ → Option ℕ → Bool
is_among places None = false
is_among places (Some place) = list_any (λ p. p == place) places

-- nothing but a kind
abbrev pub plain : ExprKind → Findings
plain k = record { kind = k; long = false; unknown = false; ambiguous = false; ungrouped = false; aggregate = false }

abbrev pub of_literal : Literal → Findings
of_literal v = record { kind = literal_kind v; long = is_long v; unknown = false; ambiguous = false; ungrouped = false; aggregate = false }

abbrev pub of_column : List SourceColumn → List ℕ → ColumnRef → Findings
of_column cs groups r = record {
  kind = column_kind cs (place_of cs r);
  long = false;
  unknown = fit_count cs r == 0;
  ambiguous = nat_lt 1 (fit_count cs r);
  ungrouped = not (is_among groups (place_of cs r));
  aggregate = false;
}

unfoldable pub of_aggregate : AggregateKind → Findings → Findings
of_aggregate k of = record {
  kind = aggregate_kind k of.kind;
  long = of.long;
  unknown = of.unknown;
  ambiguous = of.ambiguous;
  ungrouped = false;
  aggregate = true;
}

-- the same, of another kind
abbrev pub with_kind : ExprKind → Findings → Findings
with_kind k of = record { kind = k; long = of.long; unknown = of.unknown; ambiguous = of.ambiguous; ungrouped = of.ungrouped; aggregate = of.aggregate }

abbrev pub both : ExprKind → Findings → Findings → Findings
both k a b = record {
  kind = k;
  long = a.long || b.long;
  unknown = a.unknown || b.unknown;
  ambiguous = a.ambiguous || b.ambiguous;
  ungrouped = a.ungrouped || b.ungrouped;
  aggregate = a.aggregate || b.aggregate;
}

-- two operands that must both be of this kind, as what they give
unfoldable pub of_two : Kind → Findings → Findings → Findings
of_two k a b = both (kind_if (is_of k a.kind && is_of k b.kind) k) a b

unfoldable pub of_compared : Findings → Findings → Findings
of_compared a b = both (kind_if (are_alike a.kind b.kind) kind.Bool) a b

unfoldable pub of_not : Findings → Findings
of_not of = with_kind (kind_if (is_of kind.Bool of.kind) kind.Bool) of

unfoldable pub of_null_test : Findings → Findings
of_null_test of = with_kind (kind_if (has_kind of.kind) kind.Bool) of

abbrev mutual
  pub findings : List SourceColumn → List ℕ → SqlExpr → Findings
  findings cs groups (e.Literal v) = of_literal v
  findings cs groups (e.Column r) = of_column cs groups r
  findings cs groups e.CountAll = of_aggregate ak.Count (plain typed.Null)
  findings cs groups (e.Aggregate' k _ of) = of_aggregate k (findings_in cs groups of)
  findings cs groups (e.Arith' _ _ left _ right) = of_two kind.Int (findings_in cs groups left) (findings_in cs groups right)
  findings cs groups (e.Compare' _ _ left _ right) = of_compared (findings_in cs groups left) (findings_in cs groups right)
  findings cs groups (e.And' _ left _ right) = of_two kind.Bool (findings_in cs groups left) (findings_in cs groups right)
  findings cs groups (e.Or' _ left _ right) = of_two kind.Bool (findings_in cs groups left) (findings_in cs groups right)
  findings cs groups (e.Not' _ of) = of_not (findings_in cs groups of)
  findings cs groups (e.IsNull' _ of) = of_null_test (findings_in cs groups of)

  pub findings_in : {m : _} → List SourceColumn → List ℕ → Row_of-SqlExpr m → Findings
  findings_in cs groups end_of-SqlExpr = plain typed.Wrong
  findings_in cs groups (more_of-SqlExpr x rest) = findings cs groups x
