-- The definition at work.
use Rattle.std.proofs.Common.{◌≡◌, ℕ, Bool, true, false, List, [], ◌∷◌, Option, Some, None, pos, negsuc, refl}
use Rattle.hq_expr.specs.State.{State}
use Rattle.hq_expr.specs.Words.{Rule, Many, Sum, Cond}
use Rattle.hq_expr.specs.Reading as read
use Rattle.hq_expr.specs.Reader as r
use Rattle.hq_expr.specs.declared.lexeme.Lexeme.{Lexeme}
use Rattle.hq_expr.specs.declared.lexeme.Lexeme.TheVariants.{Mark, Name, Digits}
use Rattle.hq_expr.specs.declared.mark.Mark.TheVariants as m
use Rattle.hq_value.specs.declared.operator.ArithKind.TheVariants.{Plus, Minus, Times}
use Rattle.hq_value.specs.declared.operator.CompareKind.TheVariants.{Equal}
use Rattle.hq_expr.specs.declared.tree.Literal.TheVariants as l
use Rattle.hq_expr.specs.declared.tree.SqlExpr.{SqlExpr}
use Rattle.hq_expr.specs.declared.tree.SqlExpr.TheVariants as e
use Rattle.hq_expr.proofs.Complete.{st, reads}

int : ℕ → SqlExpr
int n = e.Literal (l.Int (pos n))

sum_of : ℕ → List Lexeme → Option (SqlExpr × State)
sum_of left ts = reads 9 true (Many Sum) (st left ts)

cond_of : ℕ → List Lexeme → Option (SqlExpr × State)
cond_of left ts = reads 9 false (Many Cond) (st left ts)

name : ℕ → SqlExpr
name n = e.Column (record { source = None; column = n ∷ [] })

-- `1 - 2 - 3` groups to the left, and spends two of eight
left_group : sum_of 8 (Digits 1 ∷ Mark m.Minus ∷ Digits 2 ∷ Mark m.Minus ∷ Digits 3 ∷ []) ≡ Some (e.Arith Minus (e.Arith Minus (int 1) (int 2)) (int 3), st 6 [])
unfolding sum_of cond_of int name read.many read.chain read.factor read.neg read.test_at read.operand read.aggregate read.literal read.negated read.reference r.digits r.name r.text r.expect
left_group = refl

-- `1 + 2 * 3`
times_first : sum_of 8 (Digits 1 ∷ Mark m.Plus ∷ Digits 2 ∷ Mark m.Star ∷ Digits 3 ∷ []) ≡ Some (e.Arith Plus (int 1) (e.Arith Times (int 2) (int 3)), st 6 [])
unfolding sum_of cond_of int name read.many read.chain read.factor read.neg read.test_at read.operand read.aggregate read.literal read.negated read.reference r.digits r.name r.text r.expect
times_first = refl

-- `(1 + 2) * 3` spends three
parens : sum_of 8 (Mark m.Open ∷ Digits 1 ∷ Mark m.Plus ∷ Digits 2 ∷ Mark m.Close ∷ Mark m.Star ∷ Digits 3 ∷ []) ≡ Some (e.Arith Times (e.Arith Plus (int 1) (int 2)) (int 3), st 5 [])
unfolding sum_of cond_of int name read.many read.chain read.factor read.neg read.test_at read.operand read.aggregate read.literal read.negated read.reference r.digits r.name r.text r.expect
parens = refl

-- `- - 1`: zero minus the literal -1
minus_minus : sum_of 8 (Mark m.Minus ∷ Mark m.Minus ∷ Digits 1 ∷ []) ≡ Some (e.Arith Minus (int 0) (e.Literal (l.Int (negsuc 0))), st 6 [])
unfolding sum_of cond_of int name read.many read.chain read.factor read.neg read.test_at read.operand read.aggregate read.literal read.negated read.reference r.digits r.name r.text r.expect
minus_minus = refl

-- `a - -1`
minus_literal : sum_of 8 (Name (97 ∷ []) ∷ Mark m.Minus ∷ Mark m.Minus ∷ Digits 1 ∷ []) ≡ Some (e.Arith Minus (name 97) (e.Literal (l.Int (negsuc 0))), st 6 [])
unfolding sum_of cond_of int name read.many read.chain read.factor read.neg read.test_at read.operand read.aggregate read.literal read.negated read.reference r.digits r.name r.text r.expect
minus_literal = refl

-- `1 -1` is a difference, since a sign behind a term joins
one_minus_one : sum_of 8 (Digits 1 ∷ Mark m.Minus ∷ Digits 1 ∷ []) ≡ Some (e.Arith Minus (int 1) (int 1), st 7 [])
unfolding sum_of cond_of int name read.many read.chain read.factor read.neg read.test_at read.operand read.aggregate read.literal read.negated read.reference r.digits r.name r.text r.expect
one_minus_one = refl

-- the least number is a literal
lowest : sum_of 8 (Mark m.Minus ∷ Digits 9223372036854775808 ∷ []) ≡ Some (e.Literal (l.Int (negsuc 9223372036854775807)), st 7 [])
unfolding sum_of cond_of int name read.many read.chain read.factor read.neg read.test_at read.operand read.aggregate read.literal read.negated read.reference r.digits r.name r.text r.expect
lowest = refl

-- and its opposite none
too_high : sum_of 8 (Digits 9223372036854775808 ∷ []) ≡ None
unfolding sum_of cond_of int name read.many read.chain read.factor read.neg read.test_at read.operand read.aggregate read.literal read.negated read.reference r.digits r.name r.text r.expect
too_high = refl

-- two operators fit a limit of two
limit_met : sum_of 2 (Digits 1 ∷ Mark m.Plus ∷ Digits 2 ∷ Mark m.Plus ∷ Digits 3 ∷ []) ≡ Some (e.Arith Plus (e.Arith Plus (int 1) (int 2)) (int 3), st 0 [])
unfolding sum_of cond_of int name read.many read.chain read.factor read.neg read.test_at read.operand read.aggregate read.literal read.negated read.reference r.digits r.name r.text r.expect
limit_met = refl

-- three don't
limit_passed : sum_of 2 (Digits 1 ∷ Mark m.Plus ∷ Digits 2 ∷ Mark m.Plus ∷ Digits 3 ∷ Mark m.Plus ∷ Digits 4 ∷ []) ≡ Some (e.Arith Plus (e.Arith Plus (int 1) (int 2)) (int 3), st 0 (Mark m.Plus ∷ Digits 4 ∷ []))
unfolding sum_of cond_of int name read.many read.chain read.factor read.neg read.test_at read.operand read.aggregate read.literal read.negated read.reference r.digits r.name r.text r.expect
limit_passed = refl

-- `COUNT(*)`
count_star : sum_of 8 (Mark m.Count ∷ Mark m.Open ∷ Mark m.Star ∷ Mark m.Close ∷ []) ≡ Some (e.CountAll, st 7 [])
unfolding sum_of cond_of int name read.many read.chain read.factor read.neg read.test_at read.operand read.aggregate read.literal read.negated read.reference r.digits r.name r.text r.expect
count_star = refl

-- `NOT a = 1 OR b IS NOT NULL AND c`
precedence : cond_of 8 (Mark m.Not ∷ Name (97 ∷ []) ∷ Mark m.Equal ∷ Digits 1 ∷ Mark m.Or ∷ Name (98 ∷ []) ∷ Mark m.Is ∷ Mark m.Not ∷ Mark m.Null ∷ Mark m.And ∷ Name (99 ∷ []) ∷ []) ≡ Some (e.Or (e.Not (e.Compare Equal (name 97) (int 1))) (e.And (e.Not (e.IsNull (name 98))) (name 99)), st 2 [])
unfolding sum_of cond_of int name read.many read.chain read.factor read.neg read.test_at read.operand read.aggregate read.literal read.negated read.reference r.digits r.name r.text r.expect
precedence = refl

-- `(a OR b) AND c`
cond_parens : cond_of 8 (Mark m.Open ∷ Name (97 ∷ []) ∷ Mark m.Or ∷ Name (98 ∷ []) ∷ Mark m.Close ∷ Mark m.And ∷ Name (99 ∷ []) ∷ []) ≡ Some (e.And (e.Or (name 97) (name 98)) (name 99), st 5 [])
unfolding sum_of cond_of int name read.many read.chain read.factor read.neg read.test_at read.operand read.aggregate read.literal read.negated read.reference r.digits r.name r.text r.expect
cond_parens = refl

-- `(a) = 1` is no condition: behind `(a)` the `=` is left
no_operand_parens : cond_of 8 (Mark m.Open ∷ Name (97 ∷ []) ∷ Mark m.Close ∷ Mark m.Equal ∷ Digits 1 ∷ []) ≡ Some (name 97, st 7 (Mark m.Equal ∷ Digits 1 ∷ []))
unfolding sum_of cond_of int name read.many read.chain read.factor read.neg read.test_at read.operand read.aggregate read.literal read.negated read.reference r.digits r.name r.text r.expect
no_operand_parens = refl

-- `a + 1 = 2` neither
no_sum : cond_of 8 (Name (97 ∷ []) ∷ Mark m.Plus ∷ Digits 1 ∷ Mark m.Equal ∷ Digits 2 ∷ []) ≡ Some (name 97, st 8 (Mark m.Plus ∷ Digits 1 ∷ Mark m.Equal ∷ Digits 2 ∷ []))
unfolding sum_of cond_of int name read.many read.chain read.factor read.neg read.test_at read.operand read.aggregate read.literal read.negated read.reference r.digits r.name r.text r.expect
no_sum = refl
