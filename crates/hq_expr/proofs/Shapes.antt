-- What is spelled keeps its shape, and weighs no more than its operators.
use Rattle.std.proofs.Common.{◌≡◌, ℕ, suc, ◌+◌, ◌≤◌, Bool, true, false, ◌&&◌, nat_le, List, Option, Some, None, refl, sym, ap, subst, ◌∙◌, le-leb, pos, arith}
use Rattle.hq_expr.specs.Words.{Level, Rule, Many, Factor, Neg, Test, Operand, Sum, Term, Cond, Both, part, joins, arith_of, adds, multiplies}
use Rattle.hq_expr.specs.Grammar.{Spells, SpellsLiteral, SpellsRef}
use Rattle.hq_expr.specs.Grammar as g
use Rattle.hq_expr.specs.Whole.{IsItem, IsCond}
use Rattle.hq_expr.specs.Shape.{weight, is_sum, is_operand, is_cond, is_item, is_condition}
use Rattle.hq_expr.specs.declared.lexeme.Lexeme.{Lexeme}
use Rattle.hq_expr.specs.declared.mark.Mark.{Mark}
use Rattle.hq_expr.specs.declared.mark.Mark.TheVariants as m
use Rattle.hq_value.specs.declared.operator.ArithKind.{ArithKind}
use Rattle.hq_value.specs.declared.operator.ArithKind.TheVariants.{Minus}
use Rattle.hq_expr.specs.declared.tree.Literal.TheVariants as l
use Rattle.hq_expr.specs.declared.tree.SqlExpr.{SqlExpr}
use Rattle.hq_expr.specs.declared.tree.SqlExpr.TheVariants as e
use Rattle.hq_expr.proofs.AtNodes.{weight-Aggregate, weight-Arith, weight-Compare, weight-And, weight-Or, weight-Not, weight-IsNull, sum-Aggregate, sum-Arith, operand-Aggregate, cond-Compare, cond-And, cond-Or, cond-Not, cond-IsNull}

-- the shape that a rule gives
abbrev pub has_shape : Bool → Rule → SqlExpr → Bool
has_shape aggs (Many Sum) x = is_sum aggs x
has_shape aggs (Many Term) x = is_sum aggs x
has_shape aggs (Many Cond) x = is_cond aggs x
has_shape aggs (Many Both) x = is_cond aggs x
has_shape aggs Factor x = is_sum aggs x
has_shape aggs Neg x = is_cond aggs x
has_shape aggs Test x = is_cond aggs x
has_shape aggs Operand x = is_operand aggs x

operand_sum : (aggs : Bool) (x : SqlExpr) → is_operand aggs x ≡ true → is_sum aggs x ≡ true
operand_sum aggs (e.Literal v) h = refl
operand_sum aggs (e.Column r) h = refl
operand_sum aggs e.CountAll h = h
operand_sum aggs (e.Aggregate' kind _ of) h = h
operand_sum aggs _ h = cc

operand_cond : (aggs : Bool) (x : SqlExpr) → is_operand aggs x ≡ true → is_cond aggs x ≡ true
operand_cond aggs (e.Literal v) h = refl
operand_cond aggs (e.Column r) h = refl
operand_cond aggs e.CountAll h = h
operand_cond aggs (e.Aggregate' kind _ of) h = h
operand_cond aggs _ h = cc

-- a part has the shape of its level
of_part : (aggs : Bool) (level : Level) (x : SqlExpr) → has_shape aggs (part level) x ≡ true → has_shape aggs (Many level) x ≡ true
of_part aggs Sum x h = h
of_part aggs Term x h = h
of_part aggs Cond x h = h
of_part aggs Both x h = h

both_true : (a b : Bool) → a ≡ true → b ≡ true → (a && b) ≡ true
both_true a b h h' = rw (h, h') refl

arith_joined : (aggs : Bool) (o : Option ArithKind) (join : SqlExpr → SqlExpr → SqlExpr) (x y : SqlExpr) → arith_of o ≡ Some join
    → is_sum aggs x ≡ true → is_sum aggs y ≡ true → (is_sum aggs (join x y) ≡ true) × (weight (join x y) ≡ suc (weight x + weight y))
arith_joined aggs None join x y h hx hy = cc
arith_joined aggs (Some kind) join x y h hx hy =
    let is : e.Arith kind ≡ join = cc in
    subst (λ (j : SqlExpr → SqlExpr → SqlExpr). (is_sum aggs (j x y) ≡ true) × (weight (j x y) ≡ suc (weight x + weight y))) is
    (sum-Arith aggs kind x y ∙ both_true (is_sum aggs x) (is_sum aggs y) hx hy, weight-Arith kind x y)

-- what a sign joins
joined : (aggs : Bool) (level : Level) (sign : Mark) (join : SqlExpr → SqlExpr → SqlExpr) (x y : SqlExpr) → joins level sign ≡ Some join
    → has_shape aggs (Many level) x ≡ true → has_shape aggs (part level) y ≡ true → (has_shape aggs (Many level) (join x y) ≡ true) × (weight (join x y) ≡ suc (weight x + weight y))
joined aggs Sum sign join x y h hx hy = arith_joined aggs (adds sign) join x y h hx hy
joined aggs Term sign join x y h hx hy = arith_joined aggs (multiplies sign) join x y h hx hy
joined aggs Cond m.Or join x y h hx hy =
    let is : e.Or ≡ join = cc in
    subst (λ (j : SqlExpr → SqlExpr → SqlExpr). (is_cond aggs (j x y) ≡ true) × (weight (j x y) ≡ suc (weight x + weight y))) is
    (cond-Or aggs x y ∙ both_true (is_cond aggs x) (is_cond aggs y) hx hy, weight-Or x y)
joined aggs Cond _ join x y h hx hy = cc
joined aggs Both m.And join x y h hx hy =
    let is : e.And ≡ join = cc in
    subst (λ (j : SqlExpr → SqlExpr → SqlExpr). (is_cond aggs (j x y) ≡ true) × (weight (j x y) ≡ suc (weight x + weight y))) is
    (cond-And aggs x y ∙ both_true (is_cond aggs x) (is_cond aggs y) hx hy, weight-And x y)
joined aggs Both _ join x y h hx hy = cc

abbrev zero_literal : SqlExpr
zero_literal = e.Literal (l.Int (pos 0))

pub shaped : {a : Bool} {rule : Rule} {ts rest : List Lexeme} {x : SqlExpr} {n : ℕ} → Spells a rule ts x n rest → (has_shape a rule x ≡ true) × (weight x ≤ n)
shaped {a = a} (g.one {level = level} {x = x} h) = let s = shaped h in (of_part a level x s.0, s.1)
shaped {a = a} (g.more {level = level} {x = x} {y = y} {sign = sign} {join = join} h is h') =
    let s = shaped h in let s' = shaped h' in let both = joined a level sign join x y is s.0 s'.0 in
    (both.0, omega (arith, both.1, s.1, s'.1))
shaped {a = a} (g.factor_operand {x = x} h) = let s = shaped h in (operand_sum a x s.0, s.1)
shaped (g.factor_group h) = let s = shaped h in (s.0, omega (arith, s.1))
shaped {a = a} (g.factor_minus {x = x} is h) = let s = shaped h in (sum-Arith a Minus zero_literal x ∙ s.0, omega (arith, s.1, weight-Arith Minus zero_literal x))
shaped {a = a} (g.neg_not {x = x} h) = let s = shaped h in (cond-Not a x ∙ s.0, omega (arith, s.1, weight-Not x))
shaped (g.neg_group h) = let s = shaped h in (s.0, omega (arith, s.1))
shaped (g.neg_test h) = shaped h
shaped {a = a} (g.test_operand {x = x} h) = let s = shaped h in (operand_cond a x s.0, s.1)
shaped {a = a} (g.test_compare {x = x} {y = y} {kind = kind} h is h') =
    let s = shaped h in let s' = shaped h' in
    (cond-Compare a kind x y ∙ both_true (is_operand a x) (is_operand a y) s.0 s'.0, omega (arith, s.1, s'.1, weight-Compare kind x y))
shaped {a = a} (g.test_null {x = x} h) = let s = shaped h in (cond-IsNull a x ∙ s.0, omega (arith, s.1, weight-IsNull x))
shaped {a = a} (g.test_not_null {x = x} h) =
    let s = shaped h in (cond-Not a (e.IsNull x) ∙ cond-IsNull a x ∙ s.0, omega (arith, s.1, weight-Not (e.IsNull x), weight-IsNull x))
shaped (g.operand_literal h) = (refl, omega arith)
shaped (g.operand_ref h) = (refl, omega arith)
shaped g.count_all = (refl, omega arith)
shaped (g.aggregate {x = x} {kind = kind} is h) = let s = shaped h in (operand-Aggregate true kind x ∙ s.0, omega (arith, s.1, weight-Aggregate kind x))

-- an item is one, and a condition too
pub item_shaped : (ts rest : List Lexeme) (x : SqlExpr) → IsItem ts x rest → is_item x ≡ true
item_shaped ts rest x h =
    let s = shaped h.2 in both_true (is_sum true x) (nat_le (weight x) 256) s.0 (le-leb (weight x) 256 (omega (arith, s.1, h.1)))

pub condition_shaped : (aggs : Bool) (ts rest : List Lexeme) (x : SqlExpr) → IsCond aggs ts x rest → is_condition aggs x ≡ true
condition_shaped aggs ts rest x h =
    let s = shaped h.2 in both_true (is_cond aggs x) (nat_le (weight x) 256) s.0 (le-leb (weight x) 256 (omega (arith, s.1, h.1)))
