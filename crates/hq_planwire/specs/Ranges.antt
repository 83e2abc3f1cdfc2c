-- What has room in the fields of a plan: each number and each text.
--     PlanHasRoom plan
use Rattle.std.specs.Prelude.{ℕ, ◌^◌, ◌<◌, ◌≤◌, List, [], ◌∷◌, Option, Some, None, length, FitsSigned, IsUtf8}
use Rattle.std.specs.Int.{w64}
use Rattle.std.specs.List.{AllByRecursion}
use Rattle.hq_value.specs.declared.value.Value.{Value}
use Rattle.hq_value.specs.declared.value.Value.TheVariants as value
use Rattle.hq_value.specs.declared.kind.Kind.{Kind}
use Rattle.hq_algebra.specs.declared.expr.Expr.{Expr, Row_of-Expr, end_of-Expr, more_of-Expr}
use Rattle.hq_algebra.specs.declared.expr.Expr.TheVariants as expr
use Rattle.hq_algebra.specs.declared.aggregate.Aggregate.{Aggregate}
use Rattle.hq_algebra.specs.declared.aggregate.Aggregate.TheVariants as agg
use Rattle.hq_algebra.specs.declared.op.SortKey.{SortKey}
use Rattle.hq_algebra.specs.declared.op.Op.{Op, Row_of-Op, end_of-Op, more_of-Op}
use Rattle.hq_algebra.specs.declared.op.Op.TheVariants as op
use Rattle.hq_algebra.specs.declared.plan.Motion.{Motion}
use Rattle.hq_algebra.specs.declared.plan.Motion.TheVariants as motion
use Rattle.hq_algebra.specs.declared.plan.Slice.{Slice}
use Rattle.hq_algebra.specs.declared.plan.Plan.{Plan}

-- two bytes are enough
abbrev pub IsShort : ℕ → Type 0
IsShort n = n < 2 ^ 16

-- nothing is asked
abbrev pub Always : {A : Type 0} → A → Type 0
Always x = Unit {0}

-- each item has room
abbrev pub HaveRoom : {A : Type 0} → (A → Type 0) → List A → Type 0
HaveRoom HasRoom items = AllByRecursion HasRoom items

-- an integer has 64 bits, a text is UTF-8 of at most 1,000 bytes
abbrev pub ValueHasRoom : Value → Type 0
ValueHasRoom (value.Int n) = FitsSigned w64 n
ValueHasRoom (value.Text text) = (length text ≤ 1000) × IsUtf8 text
ValueHasRoom _ = Unit {0}

abbrev mutual
  pub ExprHasRoom : Expr → Type 0
  ExprHasRoom (expr.Column place) = IsShort place
  ExprHasRoom (expr.Literal v) = ValueHasRoom v
  ExprHasRoom (expr.Arith' step _ left _ right) = OperandHasRoom left × OperandHasRoom right
  ExprHasRoom (expr.Compare' test _ left _ right) = OperandHasRoom left × OperandHasRoom right
  ExprHasRoom (expr.And' _ left _ right) = OperandHasRoom left × OperandHasRoom right
  ExprHasRoom (expr.Or' _ left _ right) = OperandHasRoom left × OperandHasRoom right
  ExprHasRoom (expr.Not' _ of) = OperandHasRoom of
  ExprHasRoom (expr.IsNull' _ of) = OperandHasRoom of

  pub OperandHasRoom : {m : _} → Row_of-Expr m → Type 0
  OperandHasRoom end_of-Expr = Unit {0}
  OperandHasRoom (more_of-Expr e rest) = ExprHasRoom e

abbrev pub AggregateHasRoom : Aggregate → Type 0
AggregateHasRoom agg.CountAll = Unit {0}
AggregateHasRoom (agg.Count e) = ExprHasRoom e
AggregateHasRoom (agg.Sum e) = ExprHasRoom e
AggregateHasRoom (agg.Min e) = ExprHasRoom e
AggregateHasRoom (agg.Max e) = ExprHasRoom e

abbrev pub SortKeyHasRoom : SortKey → Type 0
SortKeyHasRoom key = IsShort key.column

abbrev pub LimitHasRoom : Option ℕ → Type 0
LimitHasRoom None = Unit {0}
LimitHasRoom (Some n) = n < 2 ^ 64

abbrev mutual
  pub OpHasRoom : Op → Type 0
  OpHasRoom (op.Scan table kinds) = table < 2 ^ 32
  OpHasRoom (op.Receive slice kinds) = slice < 256
  OpHasRoom (op.Filter' cond _ input) = ExprHasRoom cond × InputHasRoom input
  OpHasRoom (op.Project' items _ input) = HaveRoom ExprHasRoom items × InputHasRoom input
  OpHasRoom (op.Join' lk rk _ left _ right) = HaveRoom IsShort lk × HaveRoom IsShort rk × InputHasRoom left × InputHasRoom right
  OpHasRoom (op.Partial' keys aggregates _ input) = HaveRoom IsShort keys × HaveRoom AggregateHasRoom aggregates × InputHasRoom input
  OpHasRoom (op.Final' keys aggregates _ input) = IsShort keys × HaveRoom AggregateHasRoom aggregates × InputHasRoom input
  OpHasRoom (op.Distinct' _ input) = InputHasRoom input
  OpHasRoom (op.Sort' order limit _ input) = HaveRoom SortKeyHasRoom order × LimitHasRoom limit × InputHasRoom input

  pub InputHasRoom : {m : _} → Row_of-Op m → Type 0
  InputHasRoom end_of-Op = Unit {0}
  InputHasRoom (more_of-Op child rest) = OpHasRoom child

abbrev pub MotionHasRoom : Motion → Type 0
MotionHasRoom (motion.Redistribute keys) = HaveRoom IsShort keys
MotionHasRoom _ = Unit {0}

abbrev pub SliceHasRoom : Slice → Type 0
SliceHasRoom slice = MotionHasRoom slice.out × OpHasRoom slice.root

abbrev pub PlanHasRoom : Plan → Type 0
PlanHasRoom plan = AllByRecursion SliceHasRoom plan.slices
