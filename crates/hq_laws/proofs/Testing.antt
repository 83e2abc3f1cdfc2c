-- Tests that conditions say are true where these are.
use Rattle.std.proofs.Common.{◌≡◌, ℕ, suc, ◌+◌, ◌<◌, nat_lt, nat_le, Bool, true, false, not, ◌&&◌, ◌||◌, List, [], ◌∷◌, ◌++◌, length, Option, Some, None, refl, sym, ◌∙◌, ap, subst, arith, IsTrue}
use Rattle.std.specs.List.{list_any, list_all}
use Rattle.std.specs.Ordering.{is_eq}
use Rattle.std.specs.declared.cmp.Ordering.{Ordering}
use Rattle.std.specs.declared.cmp.Ordering.TheVariants.{Less, Equal, Greater}
use Rattle.hq_value.specs.declared.value.Value.{Value}
use Rattle.hq_value.specs.Order.{value_cmp}
use Rattle.hq_value.proofs.Order.{value_exact}
use Rattle.hq_value.specs.declared.kind.Kind.{Kind}
use Rattle.hq_value.specs.declared.kind.Kind.TheVariants as kind
use Rattle.hq_value.specs.declared.operator.CompareKind.{CompareKind}
use Rattle.hq_value.specs.declared.operator.CompareKind.TheVariants as compare
use Rattle.hq_algebra.specs.declared.expr.Expr.{Expr, Row_of-Expr, end_of-Expr, more_of-Expr}
use Rattle.hq_algebra.specs.declared.expr.Expr.TheVariants as expr
use Rattle.hq_algebra.specs.declared.expr.Expr.TheBlock.{hidden-the_row-Expr-0}
use denote.Hole.Carrier.{hidden}
use Rattle.hq_algebra.specs.Outcome.{Is, of_two_values}
use Rattle.hq_algebra.specs.Steps.{compare_of}
use Rattle.hq_algebra.specs.Eval.{eval, only, column, or_null, is_true, is_true_at}
use Rattle.hq_algebra.specs.Shape.{parts, parts_of, has_arith, arith_in}
use Rattle.hq_algebra.specs.Rules.{cannot_fault}
use Rattle.hq_algebra.specs.Kinds.{is_of, kind_if, expr_kind}
use Rattle.hq_meaning.specs.Rows.{Row}
use Rattle.hq_laws.specs.Sources.{Source, all_of, TestsStand, SourcesStand, fits_filter, fit_filters, only_column, only_literal, is_that_place, is_that_value, same_compare, says, says_in, is_said, is_test, are_tests, have_tests}
use Rattle.hq_laws.proofs.Lists.{eq_means, both_true}
use Rattle.hq_laws.proofs.Equating.{and-true, either_true, by_either, column-left, column-right, below}

-- what stands in a row of one
column-only : {m : _} (of : Row_of-Expr m) (i : ℕ) → only_column of ≡ Some i → (row : Row) → only of row ≡ Is (column row i)
column-only end_of-Expr i h row = cc
column-only (more_of-Expr (expr.Column place) rest) i h row = let e : place ≡ i = cc in ap (λ p. Is (column row p)) e
column-only (more_of-Expr (expr.Literal v) rest) i h row = cc
column-only (more_of-Expr (expr.Arith' step p left q right) rest) i h row = cc
column-only (more_of-Expr (expr.Compare' step p left q right) rest) i h row = cc
column-only (more_of-Expr (expr.And' p left q right) rest) i h row = cc
column-only (more_of-Expr (expr.Or' p left q right) rest) i h row = cc
column-only (more_of-Expr (expr.Not' p of) rest) i h row = cc
column-only (more_of-Expr (expr.IsNull' p of) rest) i h row = cc

column-plain : {m : _} (of : Row_of-Expr m) (i : ℕ) → only_column of ≡ Some i → (arith_in of ≡ false) × (parts_of of ≡ 0)
column-plain end_of-Expr i h = cc
column-plain (more_of-Expr (expr.Column place) rest) i h = (refl, refl)
column-plain (more_of-Expr (expr.Literal v) rest) i h = cc
column-plain (more_of-Expr (expr.Arith' step p left q right) rest) i h = cc
column-plain (more_of-Expr (expr.Compare' step p left q right) rest) i h = cc
column-plain (more_of-Expr (expr.And' p left q right) rest) i h = cc
column-plain (more_of-Expr (expr.Or' p left q right) rest) i h = cc
column-plain (more_of-Expr (expr.Not' p of) rest) i h = cc
column-plain (more_of-Expr (expr.IsNull' p of) rest) i h = cc

literal-only : {m : _} (of : Row_of-Expr m) (v : Value) → only_literal of ≡ Some v → (row : Row) → only of row ≡ Is v
literal-only end_of-Expr v h row = cc
literal-only (more_of-Expr (expr.Column place) rest) v h row = cc
literal-only (more_of-Expr (expr.Literal u) rest) v h row = let e : u ≡ v = cc in ap Is e
literal-only (more_of-Expr (expr.Arith' step p left q right) rest) v h row = cc
literal-only (more_of-Expr (expr.Compare' step p left q right) rest) v h row = cc
literal-only (more_of-Expr (expr.And' p left q right) rest) v h row = cc
literal-only (more_of-Expr (expr.Or' p left q right) rest) v h row = cc
literal-only (more_of-Expr (expr.Not' p of) rest) v h row = cc
literal-only (more_of-Expr (expr.IsNull' p of) rest) v h row = cc

literal-plain : {m : _} (of : Row_of-Expr m) (v : Value) → only_literal of ≡ Some v → (arith_in of ≡ false) × (parts_of of ≡ 0)
literal-plain end_of-Expr v h = cc
literal-plain (more_of-Expr (expr.Column place) rest) v h = cc
literal-plain (more_of-Expr (expr.Literal u) rest) v h = (refl, refl)
literal-plain (more_of-Expr (expr.Arith' step p left q right) rest) v h = cc
literal-plain (more_of-Expr (expr.Compare' step p left q right) rest) v h = cc
literal-plain (more_of-Expr (expr.And' p left q right) rest) v h = cc
literal-plain (more_of-Expr (expr.Or' p left q right) rest) v h = cc
literal-plain (more_of-Expr (expr.Not' p of) rest) v h = cc
literal-plain (more_of-Expr (expr.IsNull' p of) rest) v h = cc

that-place : (i : ℕ) (o : Option ℕ) → is_that_place i o ≡ true → o ≡ Some i
that-place i None h = cc
that-place i (Some place) h = ap Some (sym (eq_means i place h))

that-value : (v : Value) (o : Option Value) → is_that_value v o ≡ true → o ≡ Some v
that-value v None h = cc
that-value v (Some u) h = ap Some (sym (value_exact v u (by (value_cmp v u) h)))
  where
    by : (o : Ordering) → is_eq o ≡ true → o ≡ Equal
    by Less e = cc
    by Equal e = refl
    by Greater e = cc

same-test : (k test : CompareKind) → same_compare k test ≡ true → k ≡ test
same-test compare.Equal compare.Equal h = refl
same-test compare.NotEqual compare.NotEqual h = refl
same-test compare.Less compare.Less h = refl
same-test compare.AtMost compare.AtMost h = refl
same-test compare.Greater compare.Greater h = refl
same-test compare.AtLeast compare.AtLeast h = refl
same-test compare.Equal compare.NotEqual h = cc
same-test compare.Equal compare.Less h = cc
same-test compare.Equal compare.AtMost h = cc
same-test compare.Equal compare.Greater h = cc
same-test compare.Equal compare.AtLeast h = cc
same-test compare.NotEqual compare.Equal h = cc
same-test compare.NotEqual compare.Less h = cc
same-test compare.NotEqual compare.AtMost h = cc
same-test compare.NotEqual compare.Greater h = cc
same-test compare.NotEqual compare.AtLeast h = cc
same-test compare.Less compare.Equal h = cc
same-test compare.Less compare.NotEqual h = cc
same-test compare.Less compare.AtMost h = cc
same-test compare.Less compare.Greater h = cc
same-test compare.Less compare.AtLeast h = cc
same-test compare.AtMost compare.Equal h = cc
same-test compare.AtMost compare.NotEqual h = cc
same-test compare.AtMost compare.Less h = cc
same-test compare.AtMost compare.Greater h = cc
same-test compare.AtMost compare.AtLeast h = cc
same-test compare.Greater compare.Equal h = cc
same-test compare.Greater compare.NotEqual h = cc
same-test compare.Greater compare.Less h = cc
same-test compare.Greater compare.AtMost h = cc
same-test compare.Greater compare.AtLeast h = cc
same-test compare.AtLeast compare.Equal h = cc
same-test compare.AtLeast compare.NotEqual h = cc
same-test compare.AtLeast compare.Less h = cc
same-test compare.AtLeast compare.AtMost h = cc
same-test compare.AtLeast compare.Greater h = cc

-- a condition that says it is true only where it is so
module _ (i : ℕ) (k : CompareKind) (v : Value) (row : Row) where
  mutual
    says-so : (e : Expr) → says i k v e ≡ true → is_true (or_null (eval e row)) ≡ true → is_true (compare_of k (column row i) v) ≡ true
    says-so (expr.Column place) g h = cc
    says-so (expr.Literal u) g h = cc
    says-so (expr.Arith' step p left q right) g h = cc
    says-so (expr.Compare' test p left q right) g h =
        let b : (same_compare k test ≡ true) × ((is_that_place i (only_column left) && is_that_value v (only_literal right)) ≡ true) = both_true (same_compare k test) _ g in
        let c : (is_that_place i (only_column left) ≡ true) × (is_that_value v (only_literal right) ≡ true) = both_true (is_that_place i (only_column left)) _ b.1 in
        (λ t. is_true (or_null (of_two_values (compare_of (same-test k test b.0 t)) (sym (column-only left i (that-place i (only_column left) c.0) row) t) (sym (literal-only right v (that-value v (only_literal right) c.1) row) t)))) ∙ h
    says-so (expr.And' p left q right) g h =
        let b : (is_true (or_null (only left row)) ≡ true) × (is_true (or_null (only right row)) ≡ true) = and-true (only left row) (only right row) h in
        by_either (either_true (says_in i k v left) (says_in i k v right) g) (λ e. says_in-so left e b.0) (λ e. says_in-so right e b.1)
    says-so (expr.Or' p left q right) g h = cc
    says-so (expr.Not' p of) g h = cc
    says-so (expr.IsNull' p of) g h = cc

    says_in-so : {m : _} (of : Row_of-Expr m) → says_in i k v of ≡ true → is_true (or_null (only of row)) ≡ true → is_true (compare_of k (column row i) v) ≡ true
    says_in-so end_of-Expr g h = cc
    says_in-so (more_of-Expr e rest) g h = says-so e g h

  any-so : (conds : List Expr) → list_any (says i k v) conds ≡ true → list_all (λ e. is_true_at e row) conds ≡ true → is_true (compare_of k (column row i) v) ≡ true
  any-so [] g h = cc
  any-so (e ∷ conds) g h =
      let b : (is_true_at e row ≡ true) × (list_all (λ e. is_true_at e row) conds ≡ true) = both_true (is_true_at e row) _ h in
      by_either (either_true (says i k v e) (list_any (says i k v) conds) g) (λ s. says-so e s b.0) (λ s. any-so conds s b.1)

module _ (w v : ℕ) (conds : List Expr) where
  test-true : (l r rest : Row) → length l ≡ w → length r ≡ v → list_all (λ e. is_true_at e (l ++ (r ++ rest))) conds ≡ true → (e : Expr) → is_test w v conds e ≡ true → is_true_at e r ≡ true
  test-true l r rest e f h (expr.Compare' k p left q right) g = by (only_column left) (only_literal right) refl refl g
    where
      by : (o : Option ℕ) (u : Option Value) → only_column left ≡ o → only_literal right ≡ u → is_said w v conds k o u ≡ true → is_true (or_null (of_two_values (compare_of k) (only left r) (only right r))) ≡ true
      by None u a b s = cc
      by (Some i) None a b s = cc
      by (Some i) (Some u) a b s =
          let c : (nat_lt i v ≡ true) × (list_any (says (w + i) k u) conds ≡ true) = both_true (nat_lt i v) _ s in
          let there : column (l ++ (r ++ rest)) (w + i) ≡ column r i = ap (λ n. column (l ++ (r ++ rest)) (n + i)) (sym e) ∙ column-right l (r ++ rest) i ∙ column-left r rest i (subst (λ n. i < n) (sym f) (below i v c.0)) in
          (λ t. is_true (or_null (of_two_values (compare_of k) (column-only left i a r t) (literal-only right u b r t)))) ∙ ap (λ z. is_true (compare_of k z u)) (sym there) ∙ any-so (w + i) k u (l ++ (r ++ rest)) conds c.1 h
  test-true l r rest e f h (expr.Column place) g = cc
  test-true l r rest e f h (expr.Literal u) g = cc
  test-true l r rest e f h (expr.Arith' step p left q right) g = cc
  test-true l r rest e f h (expr.And' p left q right) g = cc
  test-true l r rest e f h (expr.Or' p left q right) g = cc
  test-true l r rest e f h (expr.Not' p of) g = cc
  test-true l r rest e f h (expr.IsNull' p of) g = cc

  test-plain : (e : Expr) → is_test w v conds e ≡ true → (has_arith e ≡ false) × (parts e ≡ 1)
  test-plain (expr.Compare' k p left q right) g = by (only_column left) (only_literal right) refl refl g
    where
      by : (o : Option ℕ) (u : Option Value) → only_column left ≡ o → only_literal right ≡ u → is_said w v conds k o u ≡ true → ((arith_in left || arith_in right) ≡ false) × (suc (parts_of left + parts_of right) ≡ 1)
      by None u a b s = cc
      by (Some i) None a b s = cc
      by (Some i) (Some u) a b s = let x = column-plain left i a in let y = literal-plain right u b in ((λ t. x.0 t || y.0 t), (λ t. suc (x.1 t + y.1 t)))
  test-plain (expr.Column place) g = cc
  test-plain (expr.Literal u) g = cc
  test-plain (expr.Arith' step p left q right) g = cc
  test-plain (expr.And' p left q right) g = cc
  test-plain (expr.Or' p left q right) g = cc
  test-plain (expr.Not' p of) g = cc
  test-plain (expr.IsNull' p of) g = cc

  module _ (kinds : List Kind) where
    abbrev fine : Expr → Bool
    fine e = is_test w v conds e && is_of kind.Bool (expr_kind kinds e)

    all-true : (l r rest : Row) → length l ≡ w → length r ≡ v → list_all (λ e. is_true_at e (l ++ (r ++ rest))) conds ≡ true → (tests : List Expr) → list_all fine tests ≡ true → list_all (λ e. is_true_at e r) tests ≡ true
    all-true l r rest e f h [] g = refl
    all-true l r rest e f h (t ∷ tests) g =
        let b : (fine t ≡ true) × (list_all fine tests ≡ true) = both_true (fine t) _ g in
        let c : (is_test w v conds t ≡ true) × (is_of kind.Bool (expr_kind kinds t) ≡ true) = both_true (is_test w v conds t) _ b.0 in
        λ i. test-true l r rest e f h t c.0 i && all-true l r rest e f h tests b.1 i

    all-calm : (tests : List Expr) → list_all fine tests ≡ true → cannot_fault tests ≡ true
    all-calm [] g = refl
    all-calm (t ∷ tests) g =
        let b : (fine t ≡ true) × (list_all fine tests ≡ true) = both_true (fine t) _ g in
        let c : (is_test w v conds t ≡ true) × (is_of kind.Bool (expr_kind kinds t) ≡ true) = both_true (is_test w v conds t) _ b.0 in
        λ i. not ((test-plain t c.0).0 i) && all-calm tests b.1 i

    together-fit : (e : Expr) (es : List Expr) → list_all fine (e ∷ es) ≡ true → (is_of kind.Bool (expr_kind kinds (all_of e es)) ≡ true) × (has_arith (all_of e es) ≡ false) × (parts (all_of e es) ≡ 1 + (length es + length es))
    unfolding hidden-the_row-Expr-0 hidden
    together-fit e [] g =
        let b : (fine e ≡ true) × (true ≡ true) = both_true (fine e) true g in
        let c : (is_test w v conds e ≡ true) × (is_of kind.Bool (expr_kind kinds e) ≡ true) = both_true (is_test w v conds e) _ b.0 in
        (c.1, (test-plain e c.0).0, (test-plain e c.0).1)
    together-fit e (f ∷ es) g =
        let b : (fine e ≡ true) × (list_all fine (f ∷ es) ≡ true) = both_true (fine e) _ g in
        let c : (is_test w v conds e ≡ true) × (is_of kind.Bool (expr_kind kinds e) ≡ true) = both_true (is_test w v conds e) _ b.0 in
        let rest = together-fit f es b.1 in
        let p = (test-plain e c.0).1 in
        let r = rest.2 in (
          (λ i. is_of kind.Bool (kind_if (c.1 i && rest.0 i) kind.Bool)),
          (λ i. (test-plain e c.0).0 i || rest.1 i),
          omega (arith, p, r),
        )

tests-stand : (w : ℕ) (kinds : List Kind) (conds tests : List Expr) → are_tests w kinds conds tests ≡ true → TestsStand w (length kinds) conds tests
tests-stand w kinds conds tests g =
    let b : (list_all (λ e. is_test w (length kinds) conds e && is_of kind.Bool (expr_kind kinds e)) tests ≡ true) × (nat_le (length tests) 1050 ≡ true) = both_true _ _ g in
    (all-calm w (length kinds) conds kinds tests b.0, λ l r rest e f h. all-true w (length kinds) conds kinds l r rest e f h tests b.0)

tests-fit : (w : ℕ) (kinds : List Kind) (conds tests : List Expr) → are_tests w kinds conds tests ≡ true → fits_filter kinds tests ≡ true
tests-fit w kinds conds [] g = refl
tests-fit w kinds conds (e ∷ es) g =
    let b : (list_all (λ e. is_test w (length kinds) conds e && is_of kind.Bool (expr_kind kinds e)) (e ∷ es) ≡ true) × (nat_le (length (e ∷ es)) 1050 ≡ true) = both_true _ _ g in
    let c = together-fit w (length kinds) conds kinds e es b.0 in
    λ i. c.0 i && (not (c.1 i) && (ap (λ n. nat_le n 2100) c.2 ∙ small (length es) b.1) i)
  where
    small : (n : ℕ) → nat_le (suc n) 1050 ≡ true → nat_le (1 + (n + n)) 2100 ≡ true
    small n h = grind arith

pub sources-stand : (kinds : ℕ → List Kind) (conds : List Expr) (w : ℕ) (ss : List Source) → IsTrue (have_tests kinds conds w ss) → SourcesStand kinds conds w ss
sources-stand kinds conds w [] g = tt
sources-stand kinds conds w (s ∷ ss) g =
    let b : (are_tests w (kinds s.table) conds s.tests ≡ true) × (have_tests kinds conds (w + length (kinds s.table)) ss ≡ true) = both_true _ _ g in
    (tests-stand w (kinds s.table) conds s.tests b.0, sources-stand kinds conds (w + length (kinds s.table)) ss b.1)

pub sources-fit : (kinds : ℕ → List Kind) (conds : List Expr) (w : ℕ) (ss : List Source) → IsTrue (have_tests kinds conds w ss) → IsTrue (fit_filters kinds ss)
sources-fit kinds conds w [] g = refl
sources-fit kinds conds w (s ∷ ss) g =
    let b : (are_tests w (kinds s.table) conds s.tests ≡ true) × (have_tests kinds conds (w + length (kinds s.table)) ss ≡ true) = both_true _ _ g in
    λ i. tests-fit w (kinds s.table) conds s.tests b.0 i && sources-fit kinds conds (w + length (kinds s.table)) ss b.1 i
