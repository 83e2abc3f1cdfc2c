-- The sources of a plan, each with tests that its rows must pass before they are joined.
--     Source                         a table, and conditions over its own columns
--     source_op kinds t tests        its Scan, directly under one Filter where there are tests
--     TestsStand w v conds tests     rows for which every condition is true pass the tests
--     SourcesStand kinds conds w ss  so it is with each source
--     have_tests kinds conds w ss    a computed test that says so
--     fit_filters kinds ss           the tests of each source fit a Filter
use Rattle.std.specs.Prelude.{◌≡◌, ℕ, ◌+◌, ◌==◌, Bool, true, false, not, ◌&&◌, ◌||◌, nat_le, nat_lt, List, [], ◌∷◌, ◌++◌, length, Option, Some, None, IsTrue}
use Rattle.std.specs.List.{list_all, list_any}
use Rattle.std.specs.Ordering.{is_eq}
use Rattle.hq_value.specs.declared.value.Value.{Value}
use Rattle.hq_value.specs.Order.{value_cmp}
use Rattle.hq_value.specs.declared.kind.Kind.{Kind}
use Rattle.hq_value.specs.declared.kind.Kind.TheVariants as kind
use Rattle.hq_value.specs.declared.operator.CompareKind.{CompareKind}
use Rattle.hq_value.specs.declared.operator.CompareKind.TheVariants as compare
use Rattle.hq_algebra.specs.declared.expr.Expr.{Expr, Row_of-Expr, end_of-Expr, more_of-Expr}
use Rattle.hq_algebra.specs.declared.expr.Expr.TheVariants as expr
use Rattle.hq_algebra.specs.declared.op.Op.{Op}
use Rattle.hq_algebra.specs.declared.op.Op.TheVariants as op
use Rattle.hq_algebra.specs.Eval.{is_true_at}
use Rattle.hq_algebra.specs.Shape.{parts, has_arith}
use Rattle.hq_algebra.specs.Rules.{cannot_fault}
use Rattle.hq_algebra.specs.Kinds.{is_of, expr_kind}
use Rattle.hq_meaning.specs.Rows.{Row}

-- a table, and conditions over its own columns
pub record Source : Type 0 where
  pub table : ℕ
  pub tests : List Expr

-- all of them as one condition
abbrev pub all_of : Expr → List Expr → Expr
all_of e [] = e
all_of e (f ∷ es) = expr.And e (all_of f es)

-- a Scan, directly under one Filter where there are tests
abbrev pub source_op : (ℕ → List Kind) → ℕ → List Expr → Op
source_op kinds t [] = op.Scan t (kinds t)
source_op kinds t (e ∷ es) = op.Filter (all_of e es) (op.Scan t (kinds t))

-- where every condition is true, the row of the source passes the tests. The rows before it have w columns, its own v,
-- and other columns may follow. No test can fault
abbrev pub TestsStand : ℕ → ℕ → List Expr → List Expr → Type 0
TestsStand w v conds tests = IsTrue (cannot_fault tests) × ((l r rest : Row) → length l ≡ w → length r ≡ v → list_all (λ e. is_true_at e (l ++ (r ++ rest))) conds ≡ true → list_all (λ e. is_true_at e r) tests ≡ true)

abbrev pub SourcesStand : (ℕ → List Kind) → List Expr → ℕ → List Source → Type 0
SourcesStand kinds conds w [] = Unit {0}
SourcesStand kinds conds w (s ∷ ss) = TestsStand w (length (kinds s.table)) conds s.tests × SourcesStand kinds conds (w + length (kinds s.table)) ss

-- a Filter of these tests is in form over columns of these kinds
abbrev pub fits_filter : List Kind → List Expr → Bool
fits_filter kinds [] = true
fits_filter kinds (e ∷ es) = is_of kind.Bool (expr_kind kinds (all_of e es)) && (not (has_arith (all_of e es)) && nat_le (parts (all_of e es)) 2100)

-- so it is with each source
abbrev pub fit_filters : (ℕ → List Kind) → List Source → Bool
fit_filters kinds ss = list_all (λ (s : Source). fits_filter (kinds s.table) s.tests) ss

-- the column, or the literal, that stands in a row of one
abbrev pub column_of : Expr → Option ℕ
column_of (expr.Column place) = Some place
column_of _ = None

abbrev pub literal_of : Expr → Option Value
literal_of (expr.Literal v) = Some v
literal_of _ = None

abbrev pub only_column : {m : _} → Row_of-Expr m → Option ℕ
only_column end_of-Expr = None
only_column (more_of-Expr e rest) = column_of e

abbrev pub only_literal : {m : _} → Row_of-Expr m → Option Value
only_literal end_of-Expr = None
only_literal (more_of-Expr e rest) = literal_of e

abbrev pub is_that_place : ℕ → Option ℕ → Bool
is_that_place i (Some place) = i == place
is_that_place i None = false

abbrev pub is_that_value : Value → Option Value → Bool
is_that_value v (Some u) = is_eq (value_cmp v u)
is_that_value v None = false

abbrev pub same_compare : CompareKind → CompareKind → Bool
same_compare compare.Equal compare.Equal = true
same_compare compare.NotEqual compare.NotEqual = true
same_compare compare.Less compare.Less = true
same_compare compare.AtMost compare.AtMost = true
same_compare compare.Greater compare.Greater = true
same_compare compare.AtLeast compare.AtLeast = true
same_compare _ _ = false

-- where it is true, the column at place i compares so with v: the condition says it, or a side of an AND does
abbrev mutual
  pub says : ℕ → CompareKind → Value → Expr → Bool
  says i k v (expr.Column place) = false
  says i k v (expr.Literal u) = false
  says i k v (expr.Arith' step _ left _ right) = false
  says i k v (expr.Compare' test _ left _ right) = same_compare k test && (is_that_place i (only_column left) && is_that_value v (only_literal right))
  says i k v (expr.And' _ left _ right) = says_in i k v left || says_in i k v right
  says i k v (expr.Or' _ left _ right) = false
  says i k v (expr.Not' _ of) = false
  says i k v (expr.IsNull' _ of) = false

  pub says_in : {m : _} → ℕ → CompareKind → Value → Row_of-Expr m → Bool
  says_in i k v end_of-Expr = false
  says_in i k v (more_of-Expr e rest) = says i k v e

-- a column of a source, the first of which stands at place w, compared with a value, as some condition says
abbrev pub is_said : ℕ → ℕ → List Expr → CompareKind → Option ℕ → Option Value → Bool
is_said w v conds k (Some i) (Some u) = nat_lt i v && list_any (says (w + i) k u) conds
is_said w v conds k _ _ = false

abbrev pub is_test : ℕ → ℕ → List Expr → Expr → Bool
is_test w v conds (expr.Compare' k _ left _ right) = is_said w v conds k (only_column left) (only_literal right)
is_test w v conds _ = false

-- each test is a comparison of a column with a value, which some condition makes, and they are few
abbrev pub are_tests : ℕ → List Kind → List Expr → List Expr → Bool
are_tests w kinds conds tests = list_all (λ e. is_test w (length kinds) conds e && is_of kind.Bool (expr_kind kinds e)) tests && nat_le (length tests) 1050

abbrev pub have_tests : (ℕ → List Kind) → List Expr → ℕ → List Source → Bool
have_tests kinds conds w [] = true
have_tests kinds conds w (s ∷ ss) = are_tests w (kinds s.table) conds s.tests && have_tests kinds conds (w + length (kinds s.table)) ss
