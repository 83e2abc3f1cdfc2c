-- What single words and signs of an expression stand for.
use Rattle.std.specs.Prelude.{Bool, Option, Some, None}
use Rattle.hq_expr.specs.declared.mark.Mark.{Mark}
use Rattle.hq_expr.specs.declared.mark.Mark.TheVariants as m
use Rattle.hq_value.specs.declared.operator.ArithKind.{ArithKind}
use Rattle.hq_value.specs.declared.operator.ArithKind.TheVariants as arith_kind
use Rattle.hq_value.specs.declared.operator.CompareKind.{CompareKind}
use Rattle.hq_value.specs.declared.operator.CompareKind.TheVariants as compare_kind
use Rattle.hq_expr.specs.declared.tree.AggregateKind.{AggregateKind}
use Rattle.hq_expr.specs.declared.tree.AggregateKind.TheVariants as aggregate_kind
use Rattle.hq_expr.specs.declared.tree.SqlExpr.{SqlExpr}
use Rattle.hq_expr.specs.declared.tree.SqlExpr.TheVariants as e
use Rattle.hq_expr.specs.declared.cursor.Peek.{Peek}
use Rattle.hq_expr.specs.declared.cursor.Peek.TheVariants as p

abbrev pub adds : Mark → Option ArithKind
adds m.Plus = Some arith_kind.Plus
adds m.Minus = Some arith_kind.Minus
adds _ = None

abbrev pub multiplies : Mark → Option ArithKind
multiplies m.Star = Some arith_kind.Times
multiplies _ = None

abbrev pub compares : Mark → Option CompareKind
compares m.Equal = Some compare_kind.Equal
compares m.NotEqual = Some compare_kind.NotEqual
compares m.Less = Some compare_kind.Less
compares m.AtMost = Some compare_kind.AtMost
compares m.Greater = Some compare_kind.Greater
compares m.AtLeast = Some compare_kind.AtLeast
compares _ = None

abbrev pub aggregates : Mark → Option AggregateKind
aggregates m.Count = Some aggregate_kind.Count
aggregates m.Sum = Some aggregate_kind.Sum
aggregates m.Min = Some aggregate_kind.Min
aggregates m.Max = Some aggregate_kind.Max
aggregates _ = None

-- The rules of the form `level = part {sign part}`, and the others.
pub data Level : Type 0 where
  Sum : Level
  Term : Level
  Cond : Level
  Both : Level

pub data Rule : Type 0 where
  Many : Level → Rule
  Factor : Rule
  Neg : Rule
  Test : Rule
  Operand : Rule

abbrev pub part : Level → Rule
part Sum = Many Term
part Term = Factor
part Cond = Many Both
part Both = Neg

abbrev pub arith_of : Option ArithKind → Option (SqlExpr → SqlExpr → SqlExpr)
arith_of (Some kind) = Some (e.Arith kind)
arith_of None = None

-- what a sign between two parts of a level makes of them
abbrev pub joins : Level → Mark → Option (SqlExpr → SqlExpr → SqlExpr)
joins Sum sign = arith_of (adds sign)
joins Term sign = arith_of (multiplies sign)
joins Cond m.Or = Some e.Or
joins Cond _ = None
joins Both m.And = Some e.And
joins Both _ = None
