-- Expressions over the columns of the sources: what they keep of the tree that they are made of.
use Rattle.std.proofs.Common.{◌≡◌, ℕ, suc, ◌+◌, ◌≤◌, Bool, true, false, not, ◌||◌, ◌&&◌, List, refl, sym, ap, ◌∙◌, arith}
use Rattle.hq_expr.specs.declared.tree.SqlExpr.{SqlExpr, Row_of-SqlExpr, end_of-SqlExpr, more_of-SqlExpr}
use Rattle.hq_expr.specs.declared.tree.SqlExpr.TheVariants as e
use Rattle.hq_expr.specs.Shape.{weight, weight_in, is_sum, sum_in, is_operand, operand_in, is_cond, cond_in}
use Rattle.hq_expr.specs.Uses.{uses, uses_in, either, aggregated}
use Rattle.hq_algebra.specs.Shape.{parts, has_arith, has_column}
use Rattle.hq_bind.specs.declared.scope.SourceColumn.{SourceColumn}
use Rattle.hq_bind.specs.Bound.{placed, placed_in}
use Rattle.hq_bind.proofs.AtParts.{parts-Arith, parts-Compare, parts-And, parts-Or, parts-Not, parts-IsNull, arith-Compare, arith-And, arith-Or, arith-Not, arith-IsNull, column-Arith}

pub both_true : (a b : Bool) → (a && b) ≡ true → (a ≡ true) × (b ≡ true)
both_true true b h = (refl, h)
both_true false b h = cc

pub or_false : (a b : Bool) → a ≡ false → b ≡ false → (a || b) ≡ false
or_false a b h h' = rw (h, h') refl

-- ---- a condition over the sources has no arithmetic

operand_plain : (cs : List SourceColumn) (x : SqlExpr) → is_operand false x ≡ true → has_arith (placed cs x) ≡ false
operand_plain cs (e.Literal v) h = refl
operand_plain cs (e.Column r) h = refl
operand_plain cs e.CountAll h = refl
operand_plain cs (e.Aggregate' k _ of) h = refl
operand_plain cs _ h = cc

operand_plain_in : {m : _} (cs : List SourceColumn) (of : Row_of-SqlExpr m) → operand_in false of ≡ true → has_arith (placed_in cs of) ≡ false
operand_plain_in cs end_of-SqlExpr h = refl
operand_plain_in cs (more_of-SqlExpr x rest) h = operand_plain cs x h

mutual
  pub cond_plain : (cs : List SourceColumn) (x : SqlExpr) → is_cond false x ≡ true → has_arith (placed cs x) ≡ false
  cond_plain cs (e.Literal v) h = refl
  cond_plain cs (e.Column r) h = refl
  cond_plain cs e.CountAll h = refl
  cond_plain cs (e.Aggregate' k _ of) h = refl
  cond_plain cs (e.Arith' k _ left _ right) h = cc
  cond_plain cs (e.Compare' k _ left _ right) h =
      let p = both_true (operand_in false left) (operand_in false right) h in
      arith-Compare k (placed_in cs left) (placed_in cs right) ∙ or_false (has_arith (placed_in cs left)) (has_arith (placed_in cs right)) (operand_plain_in cs left p.0) (operand_plain_in cs right p.1)
  cond_plain cs (e.And' _ left _ right) h =
      let p = both_true (cond_in false left) (cond_in false right) h in
      arith-And (placed_in cs left) (placed_in cs right) ∙ or_false (has_arith (placed_in cs left)) (has_arith (placed_in cs right)) (cond_plain_in cs left p.0) (cond_plain_in cs right p.1)
  cond_plain cs (e.Or' _ left _ right) h =
      let p = both_true (cond_in false left) (cond_in false right) h in
      arith-Or (placed_in cs left) (placed_in cs right) ∙ or_false (has_arith (placed_in cs left)) (has_arith (placed_in cs right)) (cond_plain_in cs left p.0) (cond_plain_in cs right p.1)
  cond_plain cs (e.Not' _ of) h = arith-Not (placed_in cs of) ∙ cond_plain_in cs of h
  cond_plain cs (e.IsNull' _ of) h = arith-IsNull (placed_in cs of) ∙ operand_plain_in cs of h

  pub cond_plain_in : {m : _} (cs : List SourceColumn) (of : Row_of-SqlExpr m) → cond_in false of ≡ true → has_arith (placed_in cs of) ≡ false
  cond_plain_in cs end_of-SqlExpr h = refl
  cond_plain_in cs (more_of-SqlExpr x rest) h = cond_plain cs x h

-- ---- it has no more parts than the tree weighs

mutual
  pub placed_parts : (cs : List SourceColumn) (x : SqlExpr) → parts (placed cs x) ≤ weight x
  placed_parts cs (e.Literal v) = omega arith
  placed_parts cs (e.Column r) = omega arith
  placed_parts cs e.CountAll = omega arith
  placed_parts cs (e.Aggregate' k _ of) = omega arith
  placed_parts cs (e.Arith' k _ left _ right) = omega (arith, parts-Arith k (placed_in cs left) (placed_in cs right), placed_parts_in cs left, placed_parts_in cs right)
  placed_parts cs (e.Compare' k _ left _ right) = omega (arith, parts-Compare k (placed_in cs left) (placed_in cs right), placed_parts_in cs left, placed_parts_in cs right)
  placed_parts cs (e.And' _ left _ right) = omega (arith, parts-And (placed_in cs left) (placed_in cs right), placed_parts_in cs left, placed_parts_in cs right)
  placed_parts cs (e.Or' _ left _ right) = omega (arith, parts-Or (placed_in cs left) (placed_in cs right), placed_parts_in cs left, placed_parts_in cs right)
  placed_parts cs (e.Not' _ of) = omega (arith, parts-Not (placed_in cs of), placed_parts_in cs of)
  placed_parts cs (e.IsNull' _ of) = omega (arith, parts-IsNull (placed_in cs of), placed_parts_in cs of)

  pub placed_parts_in : {m : _} (cs : List SourceColumn) (of : Row_of-SqlExpr m) → parts (placed_in cs of) ≤ weight_in of
  placed_parts_in cs end_of-SqlExpr = omega arith
  placed_parts_in cs (more_of-SqlExpr x rest) = placed_parts cs x

-- ---- a sum over the sources names a column where the tree does

mutual
  unfolding either aggregated

  pub sum_column : (cs : List SourceColumn) (x : SqlExpr) → is_sum false x ≡ true → has_column (placed cs x) ≡ (uses x).column
  sum_column cs (e.Literal v) h = refl
  sum_column cs (e.Column r) h = refl
  sum_column cs e.CountAll h = cc
  sum_column cs (e.Aggregate' k _ of) h = cc
  sum_column cs (e.Arith' k _ left _ right) h =
      let p = both_true (sum_in false left) (sum_in false right) h in
      column-Arith k (placed_in cs left) (placed_in cs right) ∙ rw (sum_column_in cs left p.0, sum_column_in cs right p.1) refl
  sum_column cs (e.Compare' k _ left _ right) h = cc
  sum_column cs (e.And' _ left _ right) h = cc
  sum_column cs (e.Or' _ left _ right) h = cc
  sum_column cs (e.Not' _ of) h = cc
  sum_column cs (e.IsNull' _ of) h = cc

  pub sum_column_in : {m : _} (cs : List SourceColumn) (of : Row_of-SqlExpr m) → sum_in false of ≡ true → has_column (placed_in cs of) ≡ (uses_in of).column
  sum_column_in cs end_of-SqlExpr h = cc
  sum_column_in cs (more_of-SqlExpr x rest) h = sum_column cs x h
