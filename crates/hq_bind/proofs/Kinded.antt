-- The kinds of what a SELECT is bound to are those that are found in it.
use Rattle.std.proofs.Common.{◌≡◌, ℕ, zero, suc, ◌+◌, ◌<◌, ◌≤◌, ◌==◌, Bool, true, false, not, ◌||◌, ◌&&◌, cond, nat_eq, nat_le, nat_lt, List, [], ◌∷◌, ◌++◌, length, map, slice_get, Option, Some, None, refl, sym, ap, subst, ◌∙◌, append_assoc, length-append, lt-ltb, arith}
use Rattle.std.specs.Prelude.{position, unwrap_or, flat_map, is_some, is_none, IsTrue}
use Rattle.std.specs.List.{list_any, list_all, position_or_len}
use Rattle.std.specs.Option.{option_map_or}
use Rattle.std.proofs.lemmas.Bool.{eqb-true}
use Rattle.hq_value.specs.declared.kind.Kind.{Kind}
use Rattle.hq_value.specs.declared.kind.Kind.TheVariants as kind
use Rattle.hq_expr.specs.declared.tree.ColumnRef.{ColumnRef}
use Rattle.hq_expr.specs.declared.tree.Literal.{Literal}
use Rattle.hq_expr.specs.declared.tree.Literal.TheVariants as lit
use Rattle.hq_expr.specs.declared.tree.AggregateKind.{AggregateKind}
use Rattle.hq_expr.specs.declared.tree.AggregateKind.TheVariants as ak
use Rattle.hq_expr.specs.declared.tree.SqlExpr.{SqlExpr, Row_of-SqlExpr, end_of-SqlExpr, more_of-SqlExpr}
use Rattle.hq_expr.specs.declared.tree.SqlExpr.TheVariants as e
use Rattle.hq_expr.specs.Shape.{is_sum, sum_in, is_operand, operand_in, is_cond, cond_in}
use Rattle.hq_algebra.specs.declared.expr.Expr.{Expr}
use Rattle.hq_algebra.specs.declared.expr.Expr.TheVariants as expr
use Rattle.hq_algebra.specs.declared.aggregate.Aggregate.{Aggregate}
use Rattle.hq_algebra.specs.declared.aggregate.Aggregate.TheVariants as agg
use Rattle.hq_algebra.specs.declared.kinds.ExprKind.{ExprKind}
use Rattle.hq_algebra.specs.declared.kinds.ExprKind.TheVariants as typed
use Rattle.hq_algebra.specs.Kinds.{◌>>=◌, every, same_kind, is_of, are_alike, has_kind, kind_if, item_kind, some_if, expr_kind}
use Rattle.hq_algebra.specs.Kinds as algebra
use Rattle.hq_algebra.proofs.Typed.{asked, alike, expr_kind-Arith, expr_kind-Compare, expr_kind-And, expr_kind-Or, expr_kind-Not, expr_kind-IsNull}
use Rattle.hq_bind.specs.declared.scope.SourceColumn.{SourceColumn}
use Rattle.hq_bind.specs.declared.findings.Findings.{Findings}
use Rattle.hq_bind.specs.Scope.{place_of}
use Rattle.hq_bind.specs.Findings.{findings, findings_in, is_among, of_aggregate, of_two, of_compared, of_not, of_null_test, of_item, literal_kind, column_kind, aggregate_kind}
use Rattle.hq_bind.specs.Targets.{value_of}
use Rattle.hq_bind.specs.Bound.{placed, placed_in, over_groups, over_in, aggregates_in, aggregates_of, aggregate_of, group_column, group_place, placed_column}
use Rattle.hq_bind.proofs.OverSources.{both_true}
use Rattle.hq_bind.proofs.Grouped.{or_parts, not_false, first_within}

-- the kinds of the columns of the sources
abbrev pub kinds_in : List SourceColumn → List Kind
kinds_in cs = map (λ (c : SourceColumn). c.kind) cs

-- ---- kinds

pub kind_fits : (b : Bool) (k : Kind) → has_kind (kind_if b k) ≡ true → b ≡ true
kind_fits true k h = refl
kind_fits false k h = cc

pub of_has : (k : Kind) (x : ExprKind) → is_of k x ≡ true → has_kind x ≡ true
of_has k (typed.Of j) h = refl
of_has k typed.Null h = refl
of_has k typed.Wrong h = cc

pub alike_have : (x y : ExprKind) → are_alike x y ≡ true → (has_kind x ≡ true) × (has_kind y ≡ true)
alike_have (typed.Of j) y h = (refl, of_has j y h)
alike_have typed.Null (typed.Of j) h = (refl, refl)
alike_have typed.Null typed.Null h = (refl, refl)
alike_have typed.Null typed.Wrong h = cc
alike_have typed.Wrong y h = cc

pub two_have : (k j : Kind) (x y : ExprKind) → has_kind (kind_if (is_of k x && is_of k y) j) ≡ true → (has_kind x ≡ true) × (has_kind y ≡ true)
two_have k j x y h = let t = both_true (is_of k x) (is_of k y) (kind_fits (is_of k x && is_of k y) j h) in (of_has k x t.0, of_has k y t.1)

pub literal_same : (v : Literal) → algebra.literal_kind (value_of v) ≡ literal_kind v
literal_same lit.Null = refl
literal_same (lit.Bool b) = refl
literal_same (lit.Int n) = refl
literal_same (lit.Text t) = refl

column_at : (cs : List SourceColumn) (place : ℕ) → algebra.column_kind (slice_get (kinds_in cs) place) ≡ column_kind cs (Some place)
column_at [] place = refl
column_at (c ∷ cs) zero = refl
column_at (c ∷ cs) (suc place) = column_at cs place

pub column_same : (cs : List SourceColumn) (o : Option ℕ) → has_kind (column_kind cs o) ≡ true → algebra.column_kind (slice_get (kinds_in cs) (unwrap_or o 0)) ≡ column_kind cs o
column_same cs None h = cc
column_same cs (Some place) h = column_at cs place

pub asked_same : (k : Kind) {x y z w : ExprKind} → x ≡ z → y ≡ w → asked k x y ≡ kind_if (is_of k z && is_of k w) k
asked_same k p q = cc

pub alike_same : {x y z w : ExprKind} → x ≡ z → y ≡ w → alike x y ≡ kind_if (are_alike z w) kind.Bool
alike_same p q = cc

-- ---- an expression over the sources, in which no aggregate stands

mutual
  unfolding of_aggregate of_two of_compared of_not of_null_test

  pub placed_kind : (cs : List SourceColumn) (gs : List ℕ) (x : SqlExpr) → (findings cs gs x).aggregate ≡ false → has_kind (findings cs gs x).kind ≡ true → expr_kind (kinds_in cs) (placed cs x) ≡ (findings cs gs x).kind
  placed_kind cs gs (e.Literal v) a h = literal_same v
  placed_kind cs gs (e.Column r) a h = column_same cs (place_of cs r) h
  placed_kind cs gs e.CountAll a h = cc
  placed_kind cs gs (e.Aggregate' k _ of) a h = cc
  placed_kind cs gs (e.Arith' k _ left _ right) a h =
      let p = or_parts (findings_in cs gs left).aggregate (findings_in cs gs right).aggregate a in
      let t = two_have kind.Int kind.Int (findings_in cs gs left).kind (findings_in cs gs right).kind h in
      expr_kind-Arith (kinds_in cs) k (placed_in cs left) (placed_in cs right) ∙ asked_same kind.Int (placed_kind_in cs gs left p.0 t.0) (placed_kind_in cs gs right p.1 t.1)
  placed_kind cs gs (e.Compare' k _ left _ right) a h =
      let p = or_parts (findings_in cs gs left).aggregate (findings_in cs gs right).aggregate a in
      let t = alike_have (findings_in cs gs left).kind (findings_in cs gs right).kind (kind_fits (are_alike (findings_in cs gs left).kind (findings_in cs gs right).kind) kind.Bool h) in
      expr_kind-Compare (kinds_in cs) k (placed_in cs left) (placed_in cs right) ∙ alike_same (placed_kind_in cs gs left p.0 t.0) (placed_kind_in cs gs right p.1 t.1)
  placed_kind cs gs (e.And' _ left _ right) a h =
      let p = or_parts (findings_in cs gs left).aggregate (findings_in cs gs right).aggregate a in
      let t = two_have kind.Bool kind.Bool (findings_in cs gs left).kind (findings_in cs gs right).kind h in
      expr_kind-And (kinds_in cs) (placed_in cs left) (placed_in cs right) ∙ asked_same kind.Bool (placed_kind_in cs gs left p.0 t.0) (placed_kind_in cs gs right p.1 t.1)
  placed_kind cs gs (e.Or' _ left _ right) a h =
      let p = or_parts (findings_in cs gs left).aggregate (findings_in cs gs right).aggregate a in
      let t = two_have kind.Bool kind.Bool (findings_in cs gs left).kind (findings_in cs gs right).kind h in
      expr_kind-Or (kinds_in cs) (placed_in cs left) (placed_in cs right) ∙ asked_same kind.Bool (placed_kind_in cs gs left p.0 t.0) (placed_kind_in cs gs right p.1 t.1)
  placed_kind cs gs (e.Not' _ of) a h =
      let t = of_has kind.Bool (findings_in cs gs of).kind (kind_fits (is_of kind.Bool (findings_in cs gs of).kind) kind.Bool h) in
      expr_kind-Not (kinds_in cs) (placed_in cs of) ∙ ap (λ (k : ExprKind). kind_if (is_of kind.Bool k) kind.Bool) (placed_kind_in cs gs of a t)
  placed_kind cs gs (e.IsNull' _ of) a h =
      let t = kind_fits (has_kind (findings_in cs gs of).kind) kind.Bool h in
      expr_kind-IsNull (kinds_in cs) (placed_in cs of) ∙ ap (λ (k : ExprKind). kind_if (has_kind k) kind.Bool) (placed_kind_in cs gs of a t)

  pub placed_kind_in : {m : _} (cs : List SourceColumn) (gs : List ℕ) (of : Row_of-SqlExpr m) → (findings_in cs gs of).aggregate ≡ false → has_kind (findings_in cs gs of).kind ≡ true → expr_kind (kinds_in cs) (placed_in cs of) ≡ (findings_in cs gs of).kind
  placed_kind_in cs gs end_of-SqlExpr a h = cc
  placed_kind_in cs gs (more_of-SqlExpr x rest) a h = placed_kind cs gs x a h

-- ---- no aggregate stands in a sum or a condition without aggregates

or_false2 : (a b : Bool) → a ≡ false → b ≡ false → (a || b) ≡ false
or_false2 a b h k = rw (h, k) refl

mutual
  unfolding of_aggregate of_two of_compared of_not of_null_test

  pub sum_without : (cs : List SourceColumn) (gs : List ℕ) (x : SqlExpr) → is_sum false x ≡ true → (findings cs gs x).aggregate ≡ false
  sum_without cs gs (e.Literal v) s = refl
  sum_without cs gs (e.Column r) s = refl
  sum_without cs gs e.CountAll s = cc
  sum_without cs gs (e.Aggregate' k _ of) s = cc
  sum_without cs gs (e.Arith' k _ left _ right) s = let p = both_true (sum_in false left) (sum_in false right) s in or_false2 (findings_in cs gs left).aggregate (findings_in cs gs right).aggregate (sum_without_in cs gs left p.0) (sum_without_in cs gs right p.1)
  sum_without cs gs (e.Compare' k _ left _ right) s = cc
  sum_without cs gs (e.And' _ left _ right) s = cc
  sum_without cs gs (e.Or' _ left _ right) s = cc
  sum_without cs gs (e.Not' _ of) s = cc
  sum_without cs gs (e.IsNull' _ of) s = cc

  pub sum_without_in : {m : _} (cs : List SourceColumn) (gs : List ℕ) (of : Row_of-SqlExpr m) → sum_in false of ≡ true → (findings_in cs gs of).aggregate ≡ false
  sum_without_in cs gs end_of-SqlExpr s = cc
  sum_without_in cs gs (more_of-SqlExpr x rest) s = sum_without cs gs x s

operand_without : (cs : List SourceColumn) (gs : List ℕ) (x : SqlExpr) → is_operand false x ≡ true → (findings cs gs x).aggregate ≡ false
operand_without cs gs (e.Literal v) s = refl
operand_without cs gs (e.Column r) s = refl
operand_without cs gs e.CountAll s = cc
operand_without cs gs (e.Aggregate' k _ of) s = cc
operand_without cs gs _ s = cc

operand_without_in : {m : _} (cs : List SourceColumn) (gs : List ℕ) (of : Row_of-SqlExpr m) → operand_in false of ≡ true → (findings_in cs gs of).aggregate ≡ false
operand_without_in cs gs end_of-SqlExpr s = cc
operand_without_in cs gs (more_of-SqlExpr x rest) s = operand_without cs gs x s

mutual
  unfolding of_aggregate of_two of_compared of_not of_null_test

  pub cond_without : (cs : List SourceColumn) (gs : List ℕ) (x : SqlExpr) → is_cond false x ≡ true → (findings cs gs x).aggregate ≡ false
  cond_without cs gs (e.Literal v) s = refl
  cond_without cs gs (e.Column r) s = refl
  cond_without cs gs e.CountAll s = cc
  cond_without cs gs (e.Aggregate' k _ of) s = cc
  cond_without cs gs (e.Arith' k _ left _ right) s = cc
  cond_without cs gs (e.Compare' k _ left _ right) s = let p = both_true (operand_in false left) (operand_in false right) s in or_false2 (findings_in cs gs left).aggregate (findings_in cs gs right).aggregate (operand_without_in cs gs left p.0) (operand_without_in cs gs right p.1)
  cond_without cs gs (e.And' _ left _ right) s = let p = both_true (cond_in false left) (cond_in false right) s in or_false2 (findings_in cs gs left).aggregate (findings_in cs gs right).aggregate (cond_without_in cs gs left p.0) (cond_without_in cs gs right p.1)
  cond_without cs gs (e.Or' _ left _ right) s = let p = both_true (cond_in false left) (cond_in false right) s in or_false2 (findings_in cs gs left).aggregate (findings_in cs gs right).aggregate (cond_without_in cs gs left p.0) (cond_without_in cs gs right p.1)
  cond_without cs gs (e.Not' _ of) s = cond_without_in cs gs of s
  cond_without cs gs (e.IsNull' _ of) s = operand_without_in cs gs of s

  pub cond_without_in : {m : _} (cs : List SourceColumn) (gs : List ℕ) (of : Row_of-SqlExpr m) → cond_in false of ≡ true → (findings_in cs gs of).aggregate ≡ false
  cond_without_in cs gs end_of-SqlExpr s = cc
  cond_without_in cs gs (more_of-SqlExpr x rest) s = cond_without cs gs x s
