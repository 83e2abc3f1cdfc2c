-- Scans that stand under the guards of their sources stand under their tests.
use Rattle.std.proofs.Common.{◌≡◌, ℕ, ◌+◌, ◌-◌, ◌<◌, ◌≤◌, nat_le, nat_lt, Bool, true, false, not, cond, ◌&&◌, ◌||◌, List, [], ◌∷◌, ◌++◌, map, filter, flat_map, length, Option, Some, None, slice_get, count_by, refl, sym, ◌∙◌, ap, arith}
use Rattle.std.proofs.lemmas.List.{map-append}
use Rattle.hq_value.specs.declared.value.Value.{Value}
use Rattle.hq_value.specs.declared.kind.Kind.{Kind}
use Rattle.hq_algebra.specs.declared.expr.Expr.{Expr, Row_of-Expr, end_of-Expr, more_of-Expr}
use Rattle.hq_algebra.specs.declared.expr.Expr.TheVariants as expr
use Rattle.hq_algebra.specs.declared.op.Op.{Op, Row_of-Op, end_of-Op, more_of-Op}
use Rattle.hq_algebra.specs.declared.op.Op.TheVariants as op
use Rattle.hq_algebra.specs.declared.plan.Slice.{Slice}
use Rattle.hq_algebra.specs.Shape.{has_column, column_in}
use Rattle.hq_algebra.specs.Steps.{is_null}
use Rattle.hq_laws.specs.Guards.{is_inside, inside_in, is_guard, guards_of, with_guards, Guarded, guarded_scans, guarded_in, all_guarded, guarded, AreGuarded}
use Rattle.hq_laws.specs.Scanned.{tested_scans, scans_in, all_tested, AreTested}
use Rattle.hq_laws.specs.Sources.{Source, only_column, only_literal}
use Rattle.hq_laws.specs.Tests.{members, is_ranged, are_on, is_on, tests_of, with_tests}
use Rattle.hq_laws.specs.Turned.{renamed, renamed_in}
use Rattle.hq_laws.proofs.Guarding.{inside-place}
use Rattle.hq_laws.proofs.Lists.{both_true}
use Rattle.hq_laws.proofs.Scanning.{count-map}

-- a column, or a literal, in a row of one
module _ (w v : ℕ) where
  column-inside : {m : _} (of : Row_of-Expr m) (i : ℕ) → only_column of ≡ Some i → (column_in of ≡ true) × (inside_in w v of ≡ (nat_le w i && nat_lt i (w + v)))
  column-inside end_of-Expr i h = cc
  column-inside (more_of-Expr (expr.Column place) rest) i h = let e : place ≡ i = cc in (refl, ap (λ p. nat_le w p && nat_lt p (w + v)) e)
  column-inside (more_of-Expr (expr.Literal u) rest) i h = cc
  column-inside (more_of-Expr (expr.Arith' step p left q right) rest) i h = cc
  column-inside (more_of-Expr (expr.Compare' step p left q right) rest) i h = cc
  column-inside (more_of-Expr (expr.And' p left q right) rest) i h = cc
  column-inside (more_of-Expr (expr.Or' p left q right) rest) i h = cc
  column-inside (more_of-Expr (expr.Not' p of) rest) i h = cc
  column-inside (more_of-Expr (expr.IsNull' p of) rest) i h = cc

  literal-inside : {m : _} (of : Row_of-Expr m) (x : Value) → only_literal of ≡ Some x → inside_in w v of ≡ true
  literal-inside end_of-Expr x h = cc
  literal-inside (more_of-Expr (expr.Column place) rest) x h = cc
  literal-inside (more_of-Expr (expr.Literal u) rest) x h = refl
  literal-inside (more_of-Expr (expr.Arith' step p left q right) rest) x h = cc
  literal-inside (more_of-Expr (expr.Compare' step p left q right) rest) x h = cc
  literal-inside (more_of-Expr (expr.And' p left q right) rest) x h = cc
  literal-inside (more_of-Expr (expr.Or' p left q right) rest) x h = cc
  literal-inside (more_of-Expr (expr.Not' p of) rest) x h = cc
  literal-inside (more_of-Expr (expr.IsNull' p of) rest) x h = cc

module _ (f : ℕ → ℕ) where
  column-renamed : {m : _} (of : Row_of-Expr m) (i : ℕ) → only_column of ≡ Some i → only_column (renamed_in f of) ≡ Some (f i)
  column-renamed end_of-Expr i h = cc
  column-renamed (more_of-Expr (expr.Column place) rest) i h = let e : place ≡ i = cc in ap (λ p. Some (f p)) e
  column-renamed (more_of-Expr (expr.Literal v) rest) i h = cc
  column-renamed (more_of-Expr (expr.Arith' step p left q right) rest) i h = cc
  column-renamed (more_of-Expr (expr.Compare' step p left q right) rest) i h = cc
  column-renamed (more_of-Expr (expr.And' p left q right) rest) i h = cc
  column-renamed (more_of-Expr (expr.Or' p left q right) rest) i h = cc
  column-renamed (more_of-Expr (expr.Not' p of) rest) i h = cc
  column-renamed (more_of-Expr (expr.IsNull' p of) rest) i h = cc

  no_column-renamed : {m : _} (of : Row_of-Expr m) → only_column of ≡ None → only_column (renamed_in f of) ≡ None
  no_column-renamed end_of-Expr h = refl
  no_column-renamed (more_of-Expr (expr.Column place) rest) h = cc
  no_column-renamed (more_of-Expr (expr.Literal v) rest) h = refl
  no_column-renamed (more_of-Expr (expr.Arith' step p left q right) rest) h = refl
  no_column-renamed (more_of-Expr (expr.Compare' step p left q right) rest) h = refl
  no_column-renamed (more_of-Expr (expr.And' p left q right) rest) h = refl
  no_column-renamed (more_of-Expr (expr.Or' p left q right) rest) h = refl
  no_column-renamed (more_of-Expr (expr.Not' p of) rest) h = refl
  no_column-renamed (more_of-Expr (expr.IsNull' p of) rest) h = refl

  literal-renamed : {m : _} (of : Row_of-Expr m) → only_literal (renamed_in f of) ≡ only_literal of
  literal-renamed end_of-Expr = refl
  literal-renamed (more_of-Expr (expr.Column place) rest) = refl
  literal-renamed (more_of-Expr (expr.Literal v) rest) = refl
  literal-renamed (more_of-Expr (expr.Arith' step p left q right) rest) = refl
  literal-renamed (more_of-Expr (expr.Compare' step p left q right) rest) = refl
  literal-renamed (more_of-Expr (expr.And' p left q right) rest) = refl
  literal-renamed (more_of-Expr (expr.Or' p left q right) rest) = refl
  literal-renamed (more_of-Expr (expr.Not' p of) rest) = refl
  literal-renamed (more_of-Expr (expr.IsNull' p of) rest) = refl

module _ (kinds : List Kind) (w : ℕ) where
  -- a test is a guard
  on-guards : (e : Expr) → is_on kinds w e ≡ true → is_guard kinds w e ≡ true
  on-guards (expr.Compare' k p left q right) on = by (only_column left) (only_literal right) refl refl on
    where
      by : (o : Option ℕ) (u : Option Value) → only_column left ≡ o → only_literal right ≡ u → are_on kinds w o u ≡ true
          → ((column_in left || column_in right) && (inside_in w (length kinds) left && inside_in w (length kinds) right)) ≡ true
      by None u a b h = cc
      by (Some i) None a b h = cc
      by (Some i) (Some x) a b h =
          let c : (nat_le w i ≡ true) × ((nat_lt i (w + length kinds) && (is_ranged (slice_get kinds (i - w)) && not (is_null x))) ≡ true) = both_true (nat_le w i) _ h in
          let d : (nat_lt i (w + length kinds) ≡ true) × ((is_ranged (slice_get kinds (i - w)) && not (is_null x)) ≡ true) = both_true (nat_lt i (w + length kinds)) _ c.1 in
          let z = column-inside w (length kinds) left i a in
          let y : inside_in w (length kinds) left ≡ true = z.1 ∙ (λ t. c.0 t && d.0 t) in
          λ t. (z.0 t || column_in right) && (y t && literal-inside w (length kinds) right x b t)
  on-guards (expr.Column place) on = cc
  on-guards (expr.Literal u) on = cc
  on-guards (expr.Arith' step p left q right) on = cc
  on-guards (expr.And' p left q right) on = cc
  on-guards (expr.Or' p left q right) on = cc
  on-guards (expr.Not' p of) on = cc
  on-guards (expr.IsNull' p of) on = cc

  -- a guard is a test as it is one over the source's own columns
  on-own : (i : ℕ) (x : Value) → (nat_le w i && nat_lt i (w + length kinds)) ≡ true → are_on kinds 0 (Some (i - w)) (Some x) ≡ are_on kinds w (Some i) (Some x)
  on-own i x h =
      let c : (nat_le w i ≡ true) × (nat_lt i (w + length kinds) ≡ true) = both_true (nat_le w i) (nat_lt i (w + length kinds)) h in
      (λ t. from (i - w) t && (within (i - w) (length kinds) (inside-place w (length kinds) i h).1 t && (is_ranged (slice_get kinds (less (i - w) t)) && not (is_null x))))
      ∙ sym (λ t. c.0 t && (c.1 t && (is_ranged (slice_get kinds (i - w)) && not (is_null x))))
    where
      from : (n : ℕ) → nat_le 0 n ≡ true
      from n = grind arith

      within : (m n : ℕ) → m < n → nat_lt m (0 + n) ≡ true
      within m n l = grind (arith, l)

      less : (n : ℕ) → n - 0 ≡ n
      less n = omega arith

  on-same : (e : Expr) → is_guard kinds w e ≡ true → is_on kinds 0 (renamed (λ i. i - w) e) ≡ is_on kinds w e
  on-same (expr.Compare' k p left q right) g = by (only_column left) (only_literal right) refl refl
    where
      inside : inside_in w (length kinds) left ≡ true
      inside = (both_true (inside_in w (length kinds) left) (inside_in w (length kinds) right) (both_true (column_in left || column_in right) _ g).1).0

      by : (o : Option ℕ) (u : Option Value) → only_column left ≡ o → only_literal right ≡ u
          → are_on kinds 0 (only_column (renamed_in (λ i. i - w) left)) (only_literal (renamed_in (λ i. i - w) right)) ≡ are_on kinds w (only_column left) (only_literal right)
      by None u a b = (λ t. are_on kinds 0 (no_column-renamed (λ i. i - w) left a t) (only_literal (renamed_in (λ i. i - w) right))) ∙ (λ t. are_on kinds w (sym a t) (only_literal right))
      by (Some i) None a b = (λ t. are_on kinds 0 (column-renamed (λ i. i - w) left i a t) ((literal-renamed (λ i. i - w) right ∙ b) t)) ∙ (λ t. are_on kinds w (sym a t) (sym b t))
      by (Some i) (Some x) a b =
          (λ t. are_on kinds 0 (column-renamed (λ i. i - w) left i a t) ((literal-renamed (λ i. i - w) right ∙ b) t))
          ∙ on-own i x (sym (column-inside w (length kinds) left i a).1 ∙ inside) ∙ (λ t. are_on kinds w (sym a t) (sym b t))
  on-same (expr.Column place) g = refl
  on-same (expr.Literal u) g = refl
  on-same (expr.Arith' step p left q right) g = refl
  on-same (expr.And' p left q right) g = refl
  on-same (expr.Or' p left q right) g = refl
  on-same (expr.Not' p of) g = refl
  on-same (expr.IsNull' p of) g = refl

  tests-from : (es : List Expr) → filter (is_on kinds 0) (map (renamed (λ i. i - w)) (filter (is_guard kinds w) es)) ≡ map (renamed (λ i. i - w)) (filter (is_on kinds w) es)
  tests-from [] = refl
  tests-from (e ∷ es) = by (is_guard kinds w e) refl (is_on kinds w e) refl (tests-from es)
    where
      kept : (d : Bool) (old : List Expr) → old ≡ map (renamed (λ i. i - w)) (filter (is_on kinds w) es) → cond d (renamed (λ i. i - w) e ∷ old) old ≡ map (renamed (λ i. i - w)) (cond d (e ∷ filter (is_on kinds w) es) (filter (is_on kinds w) es))
      kept true old rest = ap (λ l. renamed (λ i. i - w) e ∷ l) rest
      kept false old rest = rest

      by : (c : Bool) → is_guard kinds w e ≡ c → (d : Bool) → is_on kinds w e ≡ d → filter (is_on kinds 0) (map (renamed (λ i. i - w)) (filter (is_guard kinds w) es)) ≡ map (renamed (λ i. i - w)) (filter (is_on kinds w) es)
          → filter (is_on kinds 0) (map (renamed (λ i. i - w)) (cond c (e ∷ filter (is_guard kinds w) es) (filter (is_guard kinds w) es))) ≡ map (renamed (λ i. i - w)) (cond d (e ∷ filter (is_on kinds w) es) (filter (is_on kinds w) es))
      by true g d f rest =
          let old : List Expr = filter (is_on kinds 0) (map (renamed (λ i. i - w)) (filter (is_guard kinds w) es)) in
          ap (λ b. cond b (renamed (λ i. i - w) e ∷ old) old) (on-same e g ∙ f) ∙ kept d old rest
      by false g true f rest = let u : false ≡ true = sym g ∙ on-guards e f in cc
      by false g false f rest = rest

filter-within : (p q : Expr → Bool) → ((e : Expr) → p e ≡ true → q e ≡ true) → (es : List Expr) → filter p es ≡ filter p (filter q es)
filter-within p q inside [] = refl
filter-within p q inside (e ∷ es) = by (q e) refl (p e) refl (filter-within p q inside es)
  where
    by : (c : Bool) → q e ≡ c → (d : Bool) → p e ≡ d → filter p es ≡ filter p (filter q es) → cond d (e ∷ filter p es) (filter p es) ≡ filter p (cond c (e ∷ filter q es) (filter q es))
    by true g d f rest = (λ i. cond d (e ∷ rest i) (rest i)) ∙ ap (λ b. cond b (e ∷ filter p (filter q es)) (filter p (filter q es))) (sym f)
    by false g true f rest = let u : false ≡ true = sym g ∙ inside e f in cc
    by false g false f rest = rest

-- a Scan with the tests among its guards
abbrev tested : Guarded → Source
tested g = record { table = g.table; tests = filter (is_on g.kinds 0) g.guards }

mutual
  scans-from : (above : List Expr) (o : Op) → tested_scans above o ≡ map tested (guarded_scans above o)
  scans-from above (op.Scan table kinds) = λ i. (record { table = table; tests = filter-within (is_on kinds 0) (is_guard kinds 0) (on-guards kinds 0) (flat_map members above) i }) ∷ []
  scans-from above (op.Receive slice kinds) = refl
  scans-from above (op.Filter' c p input) = in-from (c ∷ []) input
  scans-from above (op.Project' items p input) = in-from [] input
  scans-from above (op.Join' lk rk p left q right) = (λ i. in-from [] left i ++ in-from [] right i) ∙ sym (map-append tested (guarded_in [] left) (guarded_in [] right))
  scans-from above (op.Partial' keys aggs p input) = in-from [] input
  scans-from above (op.Final' n aggs p input) = in-from [] input
  scans-from above (op.Distinct' p input) = in-from [] input
  scans-from above (op.Sort' order limit p input) = in-from [] input

  in-from : {m : _} (above : List Expr) (of : Row_of-Op m) → scans_in above of ≡ map tested (guarded_in above of)
  in-from above end_of-Op = refl
  in-from above (more_of-Op child rest) = scans-from above child

all-from : (slices : List Slice) → all_tested slices ≡ map tested (all_guarded slices)
all-from [] = refl
all-from (s ∷ slices) = (λ i. scans-from [] s.root i ++ all-from slices i) ∙ sym (map-append tested (guarded_scans [] s.root) (all_guarded slices))

with-from : (kinds : ℕ → List Kind) (conds : List Expr) (w : ℕ) (ts : List ℕ) → map tested (map (guarded kinds) (with_guards kinds conds w ts)) ≡ with_tests kinds conds w ts
with-from kinds conds w [] = refl
with-from kinds conds w (t ∷ ts) = λ i. (record { table = t; tests = tests-from (kinds t) w (flat_map members conds) i }) ∷ with-from kinds conds (w + length (kinds t)) ts i

pub tested-from : (kinds : ℕ → List Kind) (conds : List Expr) (w : ℕ) (ts : List ℕ) (slices : List Slice) → AreGuarded kinds slices (with_guards kinds conds w ts) → AreTested slices (with_tests kinds conds w ts)
tested-from kinds conds w ts slices g p =
    ap (count_by p) (all-from slices) ∙ count-map p tested (all_guarded slices) ∙ g (λ x. p (tested x))
    ∙ sym (count-map p tested (map (guarded kinds) (with_guards kinds conds w ts))) ∙ ap (count_by p) (with-from kinds conds w ts)
