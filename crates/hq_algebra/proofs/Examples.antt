-- What small expressions come to, and what they do not come to.
use Rattle.std.proofs.Common.{◌≡◌, ◌≢◌, ℕ, [], ◌∷◌, pos, negsuc, true, false, refl}
use Rattle.hq_value.specs.declared.value.Value.{Value}
use Rattle.hq_value.specs.declared.value.Value.TheVariants as value
use Rattle.hq_value.specs.declared.operator.ArithKind.TheVariants as arith
use Rattle.hq_value.specs.declared.operator.CompareKind.TheVariants as compare
use Rattle.hq_algebra.specs.declared.expr.Expr.{Expr}
use Rattle.hq_algebra.specs.declared.expr.Expr.TheVariants as e
use Rattle.hq_algebra.specs.declared.expr.Expr.TheBlock.{hidden-the_row-Expr-0}
use denote.Hole.Carrier.{hidden}
use Rattle.hq_algebra.specs.Outcome.{Is, Fault}
use Rattle.hq_algebra.specs.Steps.{and_of, or_of, not_of, compare_of}
use Rattle.hq_algebra.specs.Eval.{eval, is_true_at}

int : ℕ → Value
int n = value.Int (pos n)

-- the tables of AND and OR: a known side decides, else what is unknown stays so
false_and_null : and_of (value.Bool false) value.Null ≡ value.Bool false
false_and_null = refl

true_and_null : and_of (value.Bool true) value.Null ≡ value.Null
true_and_null = refl

null_and_null : and_of value.Null value.Null ≡ value.Null
null_and_null = refl

true_or_null : or_of value.Null (value.Bool true) ≡ value.Bool true
true_or_null = refl

false_or_null : or_of (value.Bool false) value.Null ≡ value.Null
false_or_null = refl

not_null : not_of value.Null ≡ value.Null
not_null = refl

false_and_null-not_null : and_of (value.Bool false) value.Null ≢ value.Null
false_and_null-not_null e = cc

-- NULL = NULL is unknown
null_equal : compare_of compare.Equal value.Null value.Null ≡ value.Null
null_equal = refl

null_equal-not_true : compare_of compare.Equal value.Null value.Null ≢ value.Bool true
null_equal-not_true e = cc

-- texts compare by bytes, not by length: ab comes before b
ab_before_b : compare_of compare.Less (value.Text (97 ∷ 98 ∷ [])) (value.Text (98 ∷ [])) ≡ value.Bool true
ab_before_b = refl

-- NOT (a = 1) over 1, NULL and 2
not_one : Expr
not_one = e.Not (e.Compare compare.Equal (e.Column 0) (e.Literal (int 1)))

not_one-at_1 : is_true_at not_one (int 1 ∷ []) ≡ false
unfolding not_one int hidden-the_row-Expr-0 hidden
not_one-at_1 = refl

not_one-at_null : eval not_one (value.Null ∷ []) ≡ Is value.Null
unfolding not_one int hidden-the_row-Expr-0 hidden
not_one-at_null = refl

not_one-at_2 : is_true_at not_one (int 2 ∷ []) ≡ true
unfolding not_one int hidden-the_row-Expr-0 hidden
not_one-at_2 = refl

-- a IS NULL is never unknown
is_null-at_null : eval (e.IsNull (e.Column 0)) (value.Null ∷ []) ≡ Is (value.Bool true)
unfolding hidden-the_row-Expr-0 hidden
is_null-at_null = refl

-- a + 1 at the greatest number, at one below it, and at NULL
next : Expr
next = e.Arith arith.Plus (e.Column 0) (e.Literal (int 1))

next-faults : eval next (int 9223372036854775807 ∷ []) ≡ Fault
unfolding next int hidden-the_row-Expr-0 hidden
next-faults = refl

next-reaches : eval next (int 9223372036854775806 ∷ []) ≡ Is (int 9223372036854775807)
unfolding next int hidden-the_row-Expr-0 hidden
next-reaches = refl

next-at_null : eval next (value.Null ∷ []) ≡ Is value.Null
unfolding next int hidden-the_row-Expr-0 hidden
next-at_null = refl

-- the sum does not wrap
next-not_wrapped : eval next (int 9223372036854775807 ∷ []) ≢ Is (value.Int (negsuc 9223372036854775807))
unfolding next int hidden-the_row-Expr-0 hidden
next-not_wrapped e = cc

-- the least number has no opposite: 0 - a faults there
opposite : Expr
opposite = e.Arith arith.Minus (e.Literal (int 0)) (e.Column 0)

opposite-faults : eval opposite (value.Int (negsuc 9223372036854775807) ∷ []) ≡ Fault
unfolding opposite int hidden-the_row-Expr-0 hidden
opposite-faults = refl

opposite-reaches : eval opposite (int 9223372036854775807 ∷ []) ≡ Is (value.Int (negsuc 9223372036854775806))
unfolding opposite int hidden-the_row-Expr-0 hidden
opposite-reaches = refl

-- NULL plus a fault is the fault, since both operands are evaluated
null_plus_fault : eval (e.Arith arith.Plus (e.Literal value.Null) next) (int 9223372036854775807 ∷ []) ≡ Fault
unfolding next int hidden-the_row-Expr-0 hidden
null_plus_fault = refl

null_plus_fault-not_null : eval (e.Arith arith.Plus (e.Literal value.Null) next) (int 9223372036854775807 ∷ []) ≢ Is value.Null
unfolding next int hidden-the_row-Expr-0 hidden
null_plus_fault-not_null e = cc
