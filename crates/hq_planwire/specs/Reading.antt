-- Reading plans from left to right. What is read is a value and the bytes after it, or nothing.
--     Gives view result read    what a function returned, seen by view, is what reading gives
--     expr_at, op_at            an expression and an operator, nested at most so deep
--     plan_at                   a plan
use Rattle.std.specs.Prelude.{◌≡◌, ℕ, zero, suc, Bool, true, false, ◌||◌, List, [], ◌∷◌, length, take, drop, Option, Some, None, Result, Ok, Err, nat_lt, ◌==◌, if◌then◌else◌}
use Rattle.std.specs.Int.{Width, w16, w32, w64, byte_len, from_be_bytes, cast_signed}
use Rattle.std.specs.Str.{is_utf8}
use Rattle.hq_value.specs.declared.value.Value.{Value}
use Rattle.hq_value.specs.declared.value.Value.TheVariants as value
use Rattle.hq_value.specs.declared.kind.Kind.{Kind}
use Rattle.hq_value.specs.declared.kind.Kind.TheVariants as kind
use Rattle.hq_value.specs.declared.operator.ArithKind.{ArithKind}
use Rattle.hq_value.specs.declared.operator.ArithKind.TheVariants as step
use Rattle.hq_value.specs.declared.operator.CompareKind.{CompareKind}
use Rattle.hq_value.specs.declared.operator.CompareKind.TheVariants as test
use Rattle.hq_algebra.specs.declared.expr.Expr.{Expr}
use Rattle.hq_algebra.specs.declared.expr.Expr.TheVariants as expr
use Rattle.hq_algebra.specs.declared.aggregate.Aggregate.{Aggregate}
use Rattle.hq_algebra.specs.declared.aggregate.Aggregate.TheVariants as agg
use Rattle.hq_algebra.specs.declared.op.SortKey.{SortKey}
use Rattle.hq_algebra.specs.declared.op.Op.{Op}
use Rattle.hq_algebra.specs.declared.op.Op.TheVariants as op
use Rattle.hq_algebra.specs.declared.plan.Motion.{Motion}
use Rattle.hq_algebra.specs.declared.plan.Motion.TheVariants as motion
use Rattle.hq_algebra.specs.declared.plan.Slice.{Slice}
use Rattle.hq_algebra.specs.declared.plan.Plan.{Plan}
use Rattle.hq_planwire.specs.declared.fault.PlanFault.{PlanFault}
use Rattle.hq_planwire.specs.declared.fault.PlanFault.TheVariants as fault

-- how something is read: it and the bytes after it, or nothing
abbrev pub Reader : Type 0 → Type 0
Reader A = List ℕ → Option (A × List ℕ)

infixl 10 ◌>>=◌
abbrev pub ◌>>=◌ : {A B : Type 0} → Option A → (A → Option B) → Option B
(Some x) >>= f = f x
None >>= f = None

-- nothing was read, unless memory ran out
abbrev pub Fails : {Y : Type 0} → PlanFault → Option Y → Type 0
Fails fault.NoMemory read = Unit {0}
Fails fault.NotAPlan read = read ≡ None

-- what a function returned, seen by view, is what reading gives, unless memory ran out
abbrev pub Gives : {X Y : Type 0} → (X → Y) → Result X PlanFault → Option Y → Type 0
Gives view (Ok x) read = read ≡ Some (view x)
Gives view (Err e) read = Fails e read

-- ---- words for building readers

-- what is read, made into something else
abbrev pub made_at : {A B : Type 0} → (A → B) → Reader A → Reader B
made_at f get bytes = get bytes >>= λ a. Some (f a.0, a.1)

-- one after the other, made into one
abbrev pub both_at : {A B C : Type 0} → (A → B → C) → Reader A → Reader B → Reader C
both_at f get_a get_b bytes = get_a bytes >>= λ a. get_b a.1 >>= λ b. Some (f a.0 b.0, b.1)

-- so many of them
unfoldable pub items_at : {A : Type 0} → Reader A → ℕ → Reader (List A)
items_at get zero bytes = Some ([], bytes)
items_at get (suc count) bytes = get bytes >>= λ x. items_at get count x.1 >>= λ xs. Some (x.0 ∷ xs.0, xs.1)

-- ---- fields

unfoldable pub byte_at : Reader ℕ
byte_at [] = None
byte_at (b ∷ rest) = Some (b, rest)

-- a big-endian number
abbrev pub number_at : Width → Reader ℕ
number_at w bytes = if nat_lt (length bytes) (byte_len w) then None else Some (from_be_bytes w (take (byte_len w) bytes), drop (byte_len w) bytes)

-- a count of two bytes, and the items
abbrev pub list_at : {A : Type 0} → Reader A → Reader (List A)
list_at get bytes = number_at w16 bytes >>= λ n. items_at get n.0 n.1

-- what a byte stands for
abbrev pub coded_at : {A : Type 0} → (ℕ → Option A) → Reader A
coded_at meaning bytes = byte_at bytes >>= λ b. meaning b.0 >>= λ x. Some (x, b.1)

abbrev pub bool_of : ℕ → Option Bool
bool_of b = if b == 0 then Some false else if b == 1 then Some true else None

abbrev pub kind_of : ℕ → Option Kind
kind_of b = if b == 1 then Some kind.Bool else if b == 2 then Some kind.Int else if b == 3 then Some kind.Text else None

abbrev pub arith_of : ℕ → Option ArithKind
arith_of b = if b == 1 then Some step.Plus else if b == 2 then Some step.Minus else if b == 3 then Some step.Times else None

abbrev pub compare_of : ℕ → Option CompareKind
compare_of b =
    if b == 1 then Some test.Equal else if b == 2 then Some test.NotEqual else if b == 3 then Some test.Less
    else if b == 4 then Some test.AtMost else if b == 5 then Some test.Greater else if b == 6 then Some test.AtLeast else None

-- two bytes of length, at most 1,000, and that many bytes of UTF-8
unfoldable pub text_at : Reader (List ℕ)
text_at bytes = do
  n ← number_at w16 bytes
  if nat_lt 1000 n.0 || nat_lt (length n.1) n.0 then None else if is_utf8 (take n.0 n.1) then Some (take n.0 n.1, drop n.0 n.1) else None

-- ---- expressions

-- the value of a literal of the kind that the byte tells
abbrev pub literal_of : ℕ → Reader Value
literal_of b bytes =
    if b == 0 then Some (value.Null, bytes)
    else if b == 1 then made_at value.Bool (coded_at bool_of) bytes
    else if b == 2 then made_at (λ n. value.Int (cast_signed w64 n)) (number_at w64) bytes
    else if b == 3 then made_at value.Text text_at bytes
    else None

unfoldable pub literal_at : Reader Value
literal_at bytes = byte_at bytes >>= λ b. literal_of b.0 b.1

-- two operands
abbrev pub two_at : Reader Expr → Reader (Expr × Expr)
two_at get = both_at (λ a b. (a, b)) get get

-- the expression of the variant that the byte tells, over operands as they are read
abbrev pub expr_of : Reader Expr → ℕ → Reader Expr
expr_of get b bytes =
    if b == 1 then made_at expr.Column (number_at w16) bytes
    else if b == 2 then made_at expr.Literal literal_at bytes
    else if b == 3 then both_at (λ step of. expr.Arith step of.0 of.1) (coded_at arith_of) (two_at get) bytes
    else if b == 4 then both_at (λ test of. expr.Compare test of.0 of.1) (coded_at compare_of) (two_at get) bytes
    else if b == 5 then made_at (λ of. expr.And of.0 of.1) (two_at get) bytes
    else if b == 6 then made_at (λ of. expr.Or of.0 of.1) (two_at get) bytes
    else if b == 7 then made_at expr.Not get bytes
    else if b == 8 then made_at expr.IsNull get bytes
    else None

-- an expression nested at most so deep
unfoldable pub expr_at : ℕ → Reader Expr
expr_at zero bytes = None
expr_at (suc depth) bytes = byte_at bytes >>= λ b. expr_of (expr_at depth) b.0 b.1

-- an expression of at most 2,100 parts is nested no deeper
abbrev pub some_expr_at : Reader Expr
some_expr_at = expr_at 2101

-- ---- operators

-- the aggregate of the variant that the byte tells
abbrev pub aggregate_of : ℕ → Reader Aggregate
aggregate_of b bytes =
    if b == 1 then Some (agg.CountAll, bytes)
    else if b == 2 then made_at agg.Count some_expr_at bytes
    else if b == 3 then made_at agg.Sum some_expr_at bytes
    else if b == 4 then made_at agg.Min some_expr_at bytes
    else if b == 5 then made_at agg.Max some_expr_at bytes
    else None

unfoldable pub aggregate_at : Reader Aggregate
aggregate_at bytes = byte_at bytes >>= λ b. aggregate_of b.0 b.1

abbrev pub sort_key_at : Reader SortKey
sort_key_at = both_at (λ column descending. record { column = column; descending = descending }) (number_at w16) (coded_at bool_of)

abbrev pub limit_of : ℕ → Reader (Option ℕ)
limit_of b bytes = if b == 0 then Some (None, bytes) else if b == 1 then made_at Some (number_at w64) bytes else None

unfoldable pub limit_at : Reader (Option ℕ)
limit_at bytes = byte_at bytes >>= λ b. limit_of b.0 b.1

abbrev pub kinds_at : Reader (List Kind)
kinds_at = list_at (coded_at kind_of)

abbrev pub keys_at : Reader (List ℕ)
keys_at = list_at (number_at w16)

abbrev pub exprs_at : Reader (List Expr)
exprs_at = list_at some_expr_at

abbrev pub aggregates_at : Reader (List Aggregate)
aggregates_at = list_at aggregate_at

abbrev pub then_at : {A B : Type 0} → Reader A → Reader B → Reader (A × B)
then_at = both_at (λ a b. (a, b))

abbrev pub join_of : Reader Op → Reader Op
join_of get = both_at (λ lk rest. op.Join lk rest.0 rest.1.0 rest.1.1) keys_at (then_at keys_at (then_at get get))

abbrev pub partial_of : Reader Op → Reader Op
partial_of get = both_at (λ keys rest. op.Partial keys rest.0 rest.1) keys_at (then_at aggregates_at get)

abbrev pub final_of : Reader Op → Reader Op
final_of get = both_at (λ keys rest. op.Final keys rest.0 rest.1) (number_at w16) (then_at aggregates_at get)

abbrev pub sort_of : Reader Op → Reader Op
sort_of get = both_at (λ order rest. op.Sort order rest.0 rest.1) (list_at sort_key_at) (then_at limit_at get)

-- the operator of the variant that the byte tells, over inputs as they are read
abbrev pub op_of : Reader Op → ℕ → Reader Op
op_of get b bytes =
    if b == 1 then both_at op.Scan (number_at w32) kinds_at bytes
    else if b == 2 then both_at op.Receive byte_at kinds_at bytes
    else if b == 3 then both_at op.Filter some_expr_at get bytes
    else if b == 4 then both_at op.Project exprs_at get bytes
    else if b == 5 then join_of get bytes
    else if b == 6 then partial_of get bytes
    else if b == 7 then final_of get bytes
    else if b == 8 then made_at op.Distinct get bytes
    else if b == 9 then sort_of get bytes
    else None

-- an operator nested at most so deep
unfoldable pub op_at : ℕ → Reader Op
op_at zero bytes = None
op_at (suc depth) bytes = byte_at bytes >>= λ b. op_of (op_at depth) b.0 b.1

-- ---- plans

abbrev pub motion_of : ℕ → Reader Motion
motion_of b bytes =
    if b == 1 then Some (motion.Gather, bytes)
    else if b == 2 then Some (motion.Broadcast, bytes)
    else if b == 3 then made_at motion.Redistribute keys_at bytes
    else if b == 4 then Some (motion.Result, bytes)
    else None

unfoldable pub motion_at : Reader Motion
motion_at bytes = byte_at bytes >>= λ b. motion_of b.0 b.1

-- at most 64 operators are nested no deeper
abbrev pub slice_at : Reader Slice
slice_at = both_at (λ out root. record { out = out; root = root }) motion_at (op_at 64)

-- these very bytes
abbrev pub after : List ℕ → List ℕ → Option (List ℕ)
after [] bytes = Some bytes
after (e ∷ expected) [] = None
after (e ∷ expected) (b ∷ bytes) = if b == e then after expected bytes else None

-- two bytes that tell a plan, version 1, and the number of slices
unfoldable pub head_at : Reader ℕ
head_at bytes = after (0x48 ∷ 0x50 ∷ 1 ∷ []) bytes >>= byte_at

-- nothing is left behind it
abbrev pub whole : {A : Type 0} → A × List ℕ → Option A
whole x = if length x.1 == 0 then Some x.0 else None

unfoldable pub plan_at : List ℕ → Option Plan
plan_at bytes = head_at bytes >>= λ n. items_at slice_at n.0 n.1 >>= λ slices. whole slices >>= λ found. Some (record { slices = found })
