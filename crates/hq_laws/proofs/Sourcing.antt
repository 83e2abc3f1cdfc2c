-- What the operator of a source gives.
use Rattle.std.proofs.Common.{◌≡◌, ℕ, ◌≤◌, Bool, true, false, not, cond, ◌&&◌, ◌||◌, List, [], ◌∷◌, length, filter, Some, refl, sym, ◌∙◌, ap, arith, IsTrue}
use Rattle.std.specs.List.{list_all}
use Rattle.hq_value.specs.declared.value.Value.{Value}
use Rattle.hq_value.specs.declared.value.Value.TheVariants as value
use Rattle.hq_value.specs.declared.kind.Kind.{Kind}
use Rattle.hq_value.specs.declared.kind.Kind.TheVariants as kind
use Rattle.hq_algebra.specs.declared.expr.Expr.{Expr}
use Rattle.hq_algebra.specs.declared.expr.Expr.TheBlock.{hidden-the_row-Expr-0}
use Rattle.hq_algebra.specs.declared.op.Op.{Op}
use Rattle.hq_algebra.specs.declared.op.Op.TheVariants as op
use Rattle.hq_algebra.specs.declared.op.Op.TheBlock.{hidden-the_row-Op-0}
use denote.Hole.Carrier.{hidden}
use Rattle.hq_algebra.specs.Outcome.{Outcome, Is, Fault, of_two_values}
use Rattle.hq_algebra.specs.Steps.{and_of}
use Rattle.hq_algebra.specs.Eval.{eval, or_null, is_true, is_true_at}
use Rattle.hq_algebra.specs.Shape.{has_arith}
use Rattle.hq_algebra.specs.Rules.{cannot_fault}
use Rattle.hq_algebra.specs.Kinds.{is_of, expr_kind, some_if}
use Rattle.hq_algebra.specs.Operators.{op_kinds}
use Rattle.hq_algebra.specs.Plans.{operators}
use Rattle.hq_meaning.specs.Rows.{Row, kept}
use Rattle.hq_meaning.specs.Slices.{Here, rows_of, op_faults, receives}
use Rattle.hq_laws.specs.Sources.{all_of, source_op, fits_filter}
use Rattle.hq_laws.proofs.Lists.{both_true}
use Rattle.hq_laws.proofs.Products.{filter-all}
use Rattle.hq_laws.proofs.Stages.{no_fault}

-- an AND is true where both sides are
and-is : (o p : Outcome) → is_true (or_null (of_two_values and_of o p)) ≡ (is_true (or_null o) && is_true (or_null p))
and-is Fault p = refl
and-is (Is a) Fault = by (is_true a)
  where
    by : (b : Bool) → false ≡ (b && false)
    by true = refl
    by false = refl
and-is (Is a) (Is b) = by a b
  where
    by : (a b : Value) → is_true (and_of a b) ≡ (is_true a && is_true b)
    by (value.Bool true) (value.Bool true) = refl
    by (value.Bool true) (value.Bool false) = refl
    by (value.Bool true) (value.Int n) = refl
    by (value.Bool true) (value.Text s) = refl
    by (value.Bool true) value.Null = refl
    by (value.Bool false) (value.Bool true) = refl
    by (value.Bool false) (value.Bool false) = refl
    by (value.Bool false) (value.Int m) = refl
    by (value.Bool false) (value.Text t) = refl
    by (value.Bool false) value.Null = refl
    by (value.Int n) (value.Bool true) = refl
    by (value.Int n) (value.Bool false) = refl
    by (value.Int n) (value.Int m) = refl
    by (value.Int n) (value.Text s) = refl
    by (value.Int n) value.Null = refl
    by (value.Text s) (value.Bool true) = refl
    by (value.Text s) (value.Bool false) = refl
    by (value.Text s) (value.Int m) = refl
    by (value.Text s) (value.Text t) = refl
    by (value.Text s) value.Null = refl
    by value.Null (value.Bool true) = refl
    by value.Null (value.Bool false) = refl
    by value.Null (value.Int m) = refl
    by value.Null (value.Text s) = refl
    by value.Null value.Null = refl

all-true : (e : Expr) (es : List Expr) (row : Row) → is_true_at (all_of e es) row ≡ list_all (λ e. is_true_at e row) (e ∷ es)
unfolding hidden-the_row-Expr-0 hidden
all-true e [] row = by (is_true_at e row)
  where
    by : (b : Bool) → b ≡ (b && true)
    by true = refl
    by false = refl
all-true e (f ∷ es) row = and-is (eval e row) (eval (all_of f es) row) ∙ ap (λ b. is_true_at e row && b) (all-true f es row)

pub all-calm : (e : Expr) (es : List Expr) → cannot_fault (e ∷ es) ≡ true → has_arith (all_of e es) ≡ false
unfolding hidden-the_row-Expr-0 hidden
all-calm e [] h = calm (has_arith e) (both_true (not (has_arith e)) true h).0
  where
    calm : (b : Bool) → not b ≡ true → b ≡ false
    calm true h = cc
    calm false h = refl
all-calm e (f ∷ es) h =
    let b : (not (has_arith e) ≡ true) × (cannot_fault (f ∷ es) ≡ true) = both_true (not (has_arith e)) (cannot_fault (f ∷ es)) h in
    λ i. calm (has_arith e) b.0 i || all-calm f es b.1 i
  where
    calm : (b : Bool) → not b ≡ true → b ≡ false
    calm true h = cc
    calm false h = refl

filter-by : (p q : Row → Bool) → ((row : Row) → p row ≡ q row) → (rows : List Row) → filter p rows ≡ filter q rows
filter-by p q same [] = refl
filter-by p q same (r ∷ rows) = λ i. cond (same r i) (r ∷ filter-by p q same rows i) (filter-by p q same rows i)

module _ (kinds : ℕ → List Kind) (t : ℕ) where
  pub source-rows : (tests : List Expr) (here : Here) → rows_of (source_op kinds t tests) here ≡ kept tests (here.tables t)
  unfolding hidden-the_row-Op-0 hidden
  source-rows [] here = sym (filter-all (here.tables t))
  source-rows (e ∷ es) here = filter-by (is_true_at (all_of e es)) (λ row. list_all (λ e. is_true_at e row) (e ∷ es)) (all-true e es) (here.tables t)

  pub source-faults : (tests : List Expr) → IsTrue (cannot_fault tests) → (here : Here) → op_faults (source_op kinds t tests) here ≡ false
  unfolding hidden-the_row-Op-0 hidden
  source-faults [] calm here = refl
  source-faults (e ∷ es) calm here = no_fault (all_of e es ∷ []) (ap (λ b. not b && true) (all-calm e es calm)) (here.tables t)

  pub source-receives : (tests : List Expr) → receives (source_op kinds t tests) ≡ []
  unfolding hidden-the_row-Op-0 hidden
  source-receives [] = refl
  source-receives (e ∷ es) = refl

  -- a test of operators that holds of its Scan and of its Filter
  pub source-pass : (P : Op → Bool) (tests : List Expr) → P (op.Scan t (kinds t)) ≡ true → ((e : Expr) (es : List Expr) → tests ≡ e ∷ es → P (op.Filter (all_of e es) (op.Scan t (kinds t))) ≡ true) → list_all P (operators (source_op kinds t tests)) ≡ true
  unfolding hidden-the_row-Op-0 hidden
  source-pass P [] scan filter = λ i. scan i && true
  source-pass P (e ∷ es) scan filter = λ i. filter e es refl i && (scan i && true)

  pub source-count : (tests : List Expr) → length (operators (source_op kinds t tests)) ≤ 2
  unfolding hidden-the_row-Op-0 hidden
  source-count [] = omega arith
  source-count (e ∷ es) = omega arith

  pub source-kinds : (tests : List Expr) → fits_filter (kinds t) tests ≡ true → op_kinds (source_op kinds t tests) ≡ Some (kinds t)
  unfolding hidden-the_row-Op-0 hidden
  source-kinds [] fit = refl
  source-kinds (e ∷ es) fit = ap (λ b. some_if b (kinds t)) (both_true (is_of kind.Bool (expr_kind (kinds t) (all_of e es))) _ fit).0
