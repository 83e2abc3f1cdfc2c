-- How expressions are read.
use Rattle.std.specs.Prelude.{◌≡◌, ℕ, zero, suc, ◌^◌, Bool, true, false, if◌then◌else◌, nat_lt, nat_le, List, [], ◌∷◌, Option, Some, None, pos, neg_ℤ}
use Rattle.hq_expr.specs.State.{State}
use Rattle.hq_expr.specs.Words.{Level, Sum, Term, Cond, Both, joins, adds, multiplies, compares, aggregates}
use Rattle.hq_expr.specs.Reader.{Parser, ◌>>=◌, ◌>>◌, pure, refuse, peek, start_of, next, skip, spend, expect, name, digits, text}
use Rattle.hq_expr.specs.declared.cursor.Peek.{Peek}
use Rattle.hq_expr.specs.declared.cursor.Peek.TheVariants as p
use Rattle.hq_expr.specs.declared.cursor.Start.{Start}
use Rattle.hq_expr.specs.declared.cursor.Start.TheVariants as start
use Rattle.hq_expr.specs.declared.lexeme.Lexeme.{Lexeme}
use Rattle.hq_expr.specs.declared.lexeme.Lexeme.TheVariants as lexeme
use Rattle.hq_expr.specs.declared.mark.Mark.{Mark}
use Rattle.hq_expr.specs.declared.mark.Mark.TheVariants as m
use Rattle.hq_value.specs.declared.operator.CompareKind.{CompareKind}
use Rattle.hq_expr.specs.declared.tree.AggregateKind.{AggregateKind}
use Rattle.hq_expr.specs.declared.tree.AggregateKind.TheVariants as aggregate_kind
use Rattle.hq_value.specs.declared.operator.ArithKind.{ArithKind}
use Rattle.hq_value.specs.declared.operator.ArithKind.TheVariants.{Minus}
use Rattle.hq_expr.specs.declared.tree.Literal.{Literal}
use Rattle.hq_expr.specs.declared.tree.Literal.TheVariants as l
use Rattle.hq_expr.specs.declared.tree.ColumnRef.{ColumnRef}
use Rattle.hq_expr.specs.declared.tree.SqlExpr.{SqlExpr}
use Rattle.hq_expr.specs.declared.tree.SqlExpr.TheVariants as e

-- ---- literals and references

abbrev pub number : ℕ → Parser Literal
number n = if nat_lt n (2 ^ 63) then pure (l.Int (pos n)) else refuse

-- behind a minus
abbrev pub negative : ℕ → Parser Literal
negative n = if nat_le n (2 ^ 63) then pure (l.Int (neg_ℤ (pos n))) else refuse

unfoldable pub negated : Parser Literal
negated = digits >>= negative

abbrev pub literal_by : Peek → Parser Literal
literal_by p.Digits = digits >>= number
literal_by p.Text = text >>= λ t. pure (l.Text t)
literal_by (p.Mark m.Null) = skip >> pure l.Null
literal_by (p.Mark m.True) = skip >> pure (l.Bool true)
literal_by (p.Mark m.False) = skip >> pure (l.Bool false)
literal_by (p.Mark m.Minus) = skip >> spend >> negated
literal_by _ = refuse

unfoldable pub literal : Parser Literal
literal = next >>= literal_by

abbrev pub reference_by : List ℕ → Peek → Parser ColumnRef
reference_by first (p.Mark m.Dot) = skip >> name >>= λ c. pure (record { source = Some first; column = c })
reference_by first _ = pure (record { source = None; column = first })

unfoldable pub reference : Parser ColumnRef
reference = name >>= λ first. next >>= reference_by first

-- ---- levels

abbrev pub joined : Level → Peek → Option (SqlExpr → SqlExpr → SqlExpr)
joined level (p.Mark sign) = joins level sign
joined level _ = None

abbrev pub adds_at : Peek → Option ArithKind
adds_at (p.Mark sign) = adds sign
adds_at _ = None

abbrev pub multiplies_at : Peek → Option ArithKind
multiplies_at (p.Mark sign) = multiplies sign
multiplies_at _ = None

abbrev pub linked : Parser SqlExpr → (SqlExpr → Parser SqlExpr) → SqlExpr → Option (SqlExpr → SqlExpr → SqlExpr) → Parser SqlExpr
linked part go left (Some join) = skip >> spend >> part >>= λ right. go (join left right)
linked part go left None = pure left

-- the number bounds the operators
unfoldable pub chain : Level → Parser SqlExpr → ℕ → SqlExpr → Parser SqlExpr
chain level part zero left = pure left
chain level part (suc n) left = next >>= λ k. linked part (chain level part n) left (joined level k)

unfoldable pub many : Level → Parser SqlExpr → Parser SqlExpr
many level part = part >>= λ first. λ s. chain level part s.left first s

abbrev pub term : Parser SqlExpr → Parser SqlExpr
term factor = many Term factor

abbrev pub sum : Parser SqlExpr → Parser SqlExpr
sum factor = many Sum (term factor)

abbrev pub both : Parser SqlExpr → Parser SqlExpr
both neg = many Both neg

abbrev pub cond : Parser SqlExpr → Parser SqlExpr
cond neg = many Cond (both neg)

-- ---- operands; `inner` is what stands in an aggregate

abbrev pub starred : AggregateKind → Parser SqlExpr
starred aggregate_kind.Count = skip >> expect m.Close >> pure e.CountAll
starred _ = refuse

abbrev pub count_by : Parser SqlExpr → AggregateKind → Peek → Parser SqlExpr
count_by inner kind (p.Mark m.Star) = starred kind
count_by inner kind _ = inner >>= λ x. expect m.Close >> pure (e.Aggregate kind x)

unfoldable pub aggregate : Parser SqlExpr → AggregateKind → Parser SqlExpr
aggregate inner kind = skip >> expect m.Open >> spend >> next >>= count_by inner kind

abbrev pub aggregates_at : Peek → Option AggregateKind
aggregates_at (p.Mark word) = aggregates word
aggregates_at _ = None

abbrev pub plain : Peek → Parser SqlExpr
plain p.Name = reference >>= λ r. pure (e.Column r)
plain _ = literal >>= λ x. pure (e.Literal x)

abbrev pub operand_by : Option AggregateKind → Bool → Parser SqlExpr → Peek → Parser SqlExpr
operand_by None a inner k = plain k
operand_by (Some kind) true inner k = aggregate inner kind
operand_by (Some kind) false inner k = refuse

unfoldable pub operand : Bool → Parser SqlExpr → Parser SqlExpr
operand a inner = next >>= λ k. operand_by (aggregates_at k) a inner k

-- ---- factors

abbrev pub closed : Parser SqlExpr → Parser SqlExpr
closed inside = inside >>= λ x. expect m.Close >> pure x

abbrev pub signed_by : Parser SqlExpr → Peek → Parser SqlExpr
signed_by below p.Digits = negated >>= λ x. pure (e.Literal x)
signed_by below _ = below >>= λ x. pure (e.Arith Minus (e.Literal (l.Int (pos 0))) x)

abbrev pub factor_by : Bool → Parser SqlExpr → Parser SqlExpr → Start → Parser SqlExpr
factor_by a below inner start.Open = skip >> spend >> closed (sum below)
factor_by a below inner start.Minus = skip >> spend >> next >>= signed_by below
factor_by a below inner _ = operand a inner

-- with at most so many factors in one another
unfoldable pub factor : ℕ → Bool → Parser SqlExpr
factor zero a = refuse
factor (suc d) a = next >>= λ k. factor_by a (factor d a) (sum (factor d false)) (start_of k)

-- ---- conditions

abbrev pub null_by : SqlExpr → Peek → Parser SqlExpr
null_by left (p.Mark m.Null) = skip >> pure (e.IsNull left)
null_by left (p.Mark m.Not) = skip >> spend >> expect m.Null >> pure (e.Not (e.IsNull left))
null_by left _ = refuse

abbrev pub compares_at : Peek → Option CompareKind
compares_at (p.Mark sign) = compares sign
compares_at _ = None

abbrev pub compared : Parser SqlExpr → SqlExpr → Option CompareKind → Parser SqlExpr
compared operand left (Some kind) = skip >> spend >> operand >>= λ right. pure (e.Compare kind left right)
compared operand left None = pure left

abbrev pub test_by : Parser SqlExpr → SqlExpr → Peek → Parser SqlExpr
test_by operand left (p.Mark m.Is) = skip >> spend >> next >>= null_by left
test_by operand left k = compared operand left (compares_at k)

unfoldable pub test_at : Parser SqlExpr → Parser SqlExpr
test_at operand = operand >>= λ left. next >>= test_by operand left

abbrev pub neg_by : Bool → Parser SqlExpr → Parser SqlExpr → Start → Parser SqlExpr
neg_by a below inner start.Not = skip >> spend >> below >>= λ x. pure (e.Not x)
neg_by a below inner start.Open = skip >> spend >> closed (cond below)
neg_by a below inner _ = test_at (operand a inner)

unfoldable pub neg : ℕ → Bool → Parser SqlExpr
neg zero a = refuse
neg (suc d) a = next >>= λ k. neg_by a (neg d a) (sum (factor d false)) (start_of k)
