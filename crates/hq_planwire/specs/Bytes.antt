-- Plans in bytes. Numbers are big-endian; a list is a count of two bytes and its items.
--     plan_bytes plan        the one spelling of a plan
--     op_bytes, expr_bytes   those of an operator with its inputs, and of an expression
use Rattle.std.specs.Prelude.{ℕ, Bool, true, false, List, [], ◌∷◌, ◌++◌, Option, Some, None, length, flat_map}
use Rattle.std.specs.Int.{to_be_bytes, cast_unsigned, w16, w32, w64}
use Rattle.hq_value.specs.declared.value.Value.{Value}
use Rattle.hq_value.specs.declared.value.Value.TheVariants as value
use Rattle.hq_value.specs.declared.kind.Kind.{Kind}
use Rattle.hq_value.specs.declared.kind.Kind.TheVariants as kind
use Rattle.hq_value.specs.declared.operator.ArithKind.{ArithKind}
use Rattle.hq_value.specs.declared.operator.ArithKind.TheVariants as step
use Rattle.hq_value.specs.declared.operator.CompareKind.{CompareKind}
use Rattle.hq_value.specs.declared.operator.CompareKind.TheVariants as test
use Rattle.hq_algebra.specs.declared.expr.Expr.{Expr, Row_of-Expr, end_of-Expr, more_of-Expr}
use Rattle.hq_algebra.specs.declared.expr.Expr.TheVariants as expr
use Rattle.hq_algebra.specs.declared.aggregate.Aggregate.{Aggregate}
use Rattle.hq_algebra.specs.declared.aggregate.Aggregate.TheVariants as agg
use Rattle.hq_algebra.specs.declared.op.SortKey.{SortKey}
use Rattle.hq_algebra.specs.declared.op.Op.{Op, Row_of-Op, end_of-Op, more_of-Op}
use Rattle.hq_algebra.specs.declared.op.Op.TheVariants as op
use Rattle.hq_algebra.specs.declared.plan.Motion.{Motion}
use Rattle.hq_algebra.specs.declared.plan.Motion.TheVariants as motion
use Rattle.hq_algebra.specs.declared.plan.Slice.{Slice}
use Rattle.hq_algebra.specs.declared.plan.Plan.{Plan}

-- a number of two bytes
abbrev pub short : ℕ → List ℕ
short n = to_be_bytes w16 n

-- a count of two bytes, and the items
abbrev pub list_bytes : {A : Type 0} → (A → List ℕ) → List A → List ℕ
list_bytes put items = short (length items) ++ flat_map put items

abbrev pub bool_byte : Bool → List ℕ
bool_byte false = 0 ∷ []
bool_byte true = 1 ∷ []

abbrev pub kind_byte : Kind → List ℕ
kind_byte kind.Bool = 1 ∷ []
kind_byte kind.Int = 2 ∷ []
kind_byte kind.Text = 3 ∷ []

abbrev pub arith_byte : ArithKind → List ℕ
arith_byte step.Plus = 1 ∷ []
arith_byte step.Minus = 2 ∷ []
arith_byte step.Times = 3 ∷ []

abbrev pub compare_byte : CompareKind → List ℕ
compare_byte test.Equal = 1 ∷ []
compare_byte test.NotEqual = 2 ∷ []
compare_byte test.Less = 3 ∷ []
compare_byte test.AtMost = 4 ∷ []
compare_byte test.Greater = 5 ∷ []
compare_byte test.AtLeast = 6 ∷ []

-- the kind of the value, or 0 for NULL, and the value as in a row
abbrev pub literal_bytes : Value → List ℕ
literal_bytes value.Null = 0 ∷ []
literal_bytes (value.Bool b) = 1 ∷ bool_byte b
literal_bytes (value.Int n) = 2 ∷ to_be_bytes w64 (cast_unsigned w64 n)
literal_bytes (value.Text text) = 3 ∷ (short (length text) ++ text)

abbrev mutual
  pub expr_bytes : Expr → List ℕ
  expr_bytes (expr.Column place) = 1 ∷ short place
  expr_bytes (expr.Literal v) = 2 ∷ literal_bytes v
  expr_bytes (expr.Arith' step _ left _ right) = 3 ∷ (arith_byte step ++ (operand_bytes left ++ operand_bytes right))
  expr_bytes (expr.Compare' test _ left _ right) = 4 ∷ (compare_byte test ++ (operand_bytes left ++ operand_bytes right))
  expr_bytes (expr.And' _ left _ right) = 5 ∷ (operand_bytes left ++ operand_bytes right)
  expr_bytes (expr.Or' _ left _ right) = 6 ∷ (operand_bytes left ++ operand_bytes right)
  expr_bytes (expr.Not' _ of) = 7 ∷ operand_bytes of
  expr_bytes (expr.IsNull' _ of) = 8 ∷ operand_bytes of

  pub operand_bytes : {m : _} → Row_of-Expr m → List ℕ
  operand_bytes end_of-Expr = []
  operand_bytes (more_of-Expr e rest) = expr_bytes e

abbrev pub aggregate_bytes : Aggregate → List ℕ
aggregate_bytes agg.CountAll = 1 ∷ []
aggregate_bytes (agg.Count e) = 2 ∷ expr_bytes e
aggregate_bytes (agg.Sum e) = 3 ∷ expr_bytes e
aggregate_bytes (agg.Min e) = 4 ∷ expr_bytes e
aggregate_bytes (agg.Max e) = 5 ∷ expr_bytes e

abbrev pub sort_key_bytes : SortKey → List ℕ
sort_key_bytes key = short key.column ++ bool_byte key.descending

-- 0, or 1 and the limit
abbrev pub limit_bytes : Option ℕ → List ℕ
limit_bytes None = 0 ∷ []
limit_bytes (Some n) = 1 ∷ to_be_bytes w64 n

abbrev pub kinds_bytes : List Kind → List ℕ
kinds_bytes = list_bytes kind_byte

abbrev pub keys_bytes : List ℕ → List ℕ
keys_bytes = list_bytes short

abbrev pub exprs_bytes : List Expr → List ℕ
exprs_bytes = list_bytes expr_bytes

abbrev pub aggregates_bytes : List Aggregate → List ℕ
aggregates_bytes = list_bytes aggregate_bytes

abbrev mutual
  pub op_bytes : Op → List ℕ
  op_bytes (op.Scan table kinds) = 1 ∷ (to_be_bytes w32 table ++ kinds_bytes kinds)
  op_bytes (op.Receive slice kinds) = 2 ∷ (slice ∷ kinds_bytes kinds)
  op_bytes (op.Filter' cond _ input) = 3 ∷ (expr_bytes cond ++ input_bytes input)
  op_bytes (op.Project' items _ input) = 4 ∷ (exprs_bytes items ++ input_bytes input)
  op_bytes (op.Join' lk rk _ left _ right) = 5 ∷ (keys_bytes lk ++ (keys_bytes rk ++ (input_bytes left ++ input_bytes right)))
  op_bytes (op.Partial' keys aggregates _ input) = 6 ∷ (keys_bytes keys ++ (aggregates_bytes aggregates ++ input_bytes input))
  op_bytes (op.Final' keys aggregates _ input) = 7 ∷ (short keys ++ (aggregates_bytes aggregates ++ input_bytes input))
  op_bytes (op.Distinct' _ input) = 8 ∷ input_bytes input
  op_bytes (op.Sort' order limit _ input) = 9 ∷ (list_bytes sort_key_bytes order ++ (limit_bytes limit ++ input_bytes input))

  pub input_bytes : {m : _} → Row_of-Op m → List ℕ
  input_bytes end_of-Op = []
  input_bytes (more_of-Op child rest) = op_bytes child

abbrev pub motion_bytes : Motion → List ℕ
motion_bytes motion.Gather = 1 ∷ []
motion_bytes motion.Broadcast = 2 ∷ []
motion_bytes (motion.Redistribute keys) = 3 ∷ keys_bytes keys
motion_bytes motion.Result = 4 ∷ []

abbrev pub slice_bytes : Slice → List ℕ
slice_bytes slice = motion_bytes slice.out ++ op_bytes slice.root

-- two bytes that tell a plan, version 1, the number of slices, and the slices
abbrev pub plan_bytes : Plan → List ℕ
plan_bytes plan = 0x48 ∷ 0x50 ∷ 1 ∷ length plan.slices ∷ flat_map slice_bytes plan.slices
