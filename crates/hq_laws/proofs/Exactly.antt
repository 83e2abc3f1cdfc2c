-- The tests that the conditions hold on a source stand.
use Rattle.std.proofs.Common.{◌≡◌, ℕ, ◌+◌, ◌-◌, ◌<◌, ◌≤◌, nat_lt, nat_le, Bool, true, false, not, cond, ◌&&◌, ◌||◌, List, [], ◌∷◌, ◌++◌, map, filter, flat_map, length, Option, Some, None, slice_get, refl, sym, ◌∙◌, ap, arith, append_assoc, length-append, is_some, IsTrue}
use Rattle.std.specs.List.{list_any, list_all}
use Rattle.std.specs.Ordering.{is_eq}
use Rattle.std.proofs.lemmas.Cmp.{tied_itself}
use Rattle.std.proofs.lemmas.List.Folds.{list_all-append, list_any-append}
use Rattle.hq_value.specs.declared.value.Value.{Value}
use Rattle.hq_value.specs.Order.{value_cmp}
use Rattle.hq_value.proofs.Order.{value_total}
use Rattle.hq_value.specs.declared.kind.Kind.{Kind}
use Rattle.hq_value.specs.declared.kind.Kind.TheVariants as kind
use Rattle.hq_value.specs.declared.operator.CompareKind.{CompareKind}
use Rattle.hq_value.specs.declared.operator.CompareKind.TheVariants as compare
use Rattle.hq_algebra.specs.declared.expr.Expr.{Expr, Row_of-Expr, end_of-Expr, more_of-Expr}
use Rattle.hq_algebra.specs.declared.expr.Expr.TheVariants as expr
use Rattle.hq_algebra.specs.declared.query.Query.{Query}
use Rattle.hq_algebra.specs.Steps.{is_null}
use Rattle.hq_algebra.specs.Kinds.{is_of, are_alike, kind_if, column_kind, literal_kind, expr_kind, kind_in}
use Rattle.hq_algebra.specs.Queries.{product_kinds, are_conditions, query_kinds}
use Rattle.hq_algebra.specs.declared.expr.Expr.TheBlock.{hidden-the_row-Expr-0}
use denote.Hole.Carrier.{hidden}
use Rattle.hq_laws.specs.Sources.{all_of, only_column, only_literal, is_that_place, is_that_value, same_compare, says, says_in, is_said, is_test, are_tests, have_tests}
use Rattle.hq_laws.specs.Turned.{renamed, renamed_in}
use Rattle.hq_laws.specs.Tests.{members, members_in, is_ranged, are_on, is_on, tests_of, with_tests, few_tests}
use Rattle.hq_laws.specs.Gathered.{tables_of}
use Rattle.hq_laws.proofs.Typing.{Seen, seen-from}
use Rattle.hq_laws.proofs.Lists.{eq_self, both_true, or_left, or_right, any-right}
use Rattle.hq_laws.proofs.EquatedKinds.{get-left, get-right}

-- a condition says what its members say
module _ (i : ℕ) (k : CompareKind) (v : Value) where
  or_of : (a b c d : Bool) → (a ≡ true → c ≡ true) → (b ≡ true → d ≡ true) → (a || b) ≡ true → (c || d) ≡ true
  or_of true b c d f g h = or_left c d (f refl)
  or_of false b c d f g h = or_right c d (g h)

  mutual
    members-say : (e : Expr) → list_any (says i k v) (members e) ≡ true → says i k v e ≡ true
    members-say (expr.Column place) h = cc
    members-say (expr.Literal u) h = cc
    members-say (expr.Arith' step p left q right) h = cc
    members-say (expr.Compare' test p left q right) h = right_false (says i k v (expr.Compare' test p left q right)) h
      where
        right_false : (b : Bool) → (b || false) ≡ true → b ≡ true
        right_false true h = refl
        right_false false h = cc
    members-say (expr.And' p left q right) h = or_of (list_any (says i k v) (members_in left)) (list_any (says i k v) (members_in right)) (says_in i k v left) (says_in i k v right) (members_in-say left) (members_in-say right) (sym (list_any-append (says i k v) (members_in left) (members_in right)) ∙ h)
    members-say (expr.Or' p left q right) h = cc
    members-say (expr.Not' p of) h = cc
    members-say (expr.IsNull' p of) h = cc

    members_in-say : {m : _} (of : Row_of-Expr m) → list_any (says i k v) (members_in of) ≡ true → says_in i k v of ≡ true
    members_in-say end_of-Expr h = cc
    members_in-say (more_of-Expr e rest) h = members-say e h

  all-say : (conds : List Expr) → list_any (says i k v) (flat_map members conds) ≡ true → list_any (says i k v) conds ≡ true
  all-say [] h = cc
  all-say (e ∷ conds) h = or_of (list_any (says i k v) (members e)) (list_any (says i k v) (flat_map members conds)) (says i k v e) (list_any (says i k v) conds) (members-say e) (all-say conds) (sym (list_any-append (says i k v) (members e) (flat_map members conds)) ∙ h)

-- and its members are conditions
if-bool : (b : Bool) → is_of kind.Bool (kind_if b kind.Bool) ≡ true → b ≡ true
if-bool true h = refl
if-bool false h = cc

module _ (kinds : List Kind) where
  mutual
    members-are : (e : Expr) → is_of kind.Bool (expr_kind kinds e) ≡ true → are_conditions kinds (members e) ≡ true
    members-are (expr.Column place) h = λ i. h i && true
    members-are (expr.Literal u) h = λ i. h i && true
    members-are (expr.Arith' step p left q right) h = λ i. h i && true
    members-are (expr.Compare' test p left q right) h = λ i. h i && true
    members-are (expr.And' p left q right) h =
        let b : (is_of kind.Bool (kind_in kinds left) ≡ true) × (is_of kind.Bool (kind_in kinds right) ≡ true) = both_true _ _ (if-bool (is_of kind.Bool (kind_in kinds left) && is_of kind.Bool (kind_in kinds right)) h) in
        list_all-append (λ e. is_of kind.Bool (expr_kind kinds e)) (members_in left) (members_in right) ∙ (λ i. members_in-are left b.0 i && members_in-are right b.1 i)
    members-are (expr.Or' p left q right) h = λ i. h i && true
    members-are (expr.Not' p of) h = λ i. h i && true
    members-are (expr.IsNull' p of) h = λ i. h i && true

    members_in-are : {m : _} (of : Row_of-Expr m) → is_of kind.Bool (kind_in kinds of) ≡ true → are_conditions kinds (members_in of) ≡ true
    members_in-are end_of-Expr h = cc
    members_in-are (more_of-Expr e rest) h = members-are e h

  pub all-are : (conds : List Expr) → are_conditions kinds conds ≡ true → are_conditions kinds (flat_map members conds) ≡ true
  all-are [] h = refl
  all-are (e ∷ conds) h =
      let b : (is_of kind.Bool (expr_kind kinds e) ≡ true) × (are_conditions kinds conds ≡ true) = both_true (is_of kind.Bool (expr_kind kinds e)) _ h in
      list_all-append (λ e. is_of kind.Bool (expr_kind kinds e)) (members e) (flat_map members conds) ∙ (λ i. members-are e b.0 i && all-are conds b.1 i)

-- a column lowered
pub lowered-column : {m : _} (w : ℕ) (of : Row_of-Expr m) (i : ℕ) → only_column of ≡ Some i → only_column (renamed_in (λ i. i - w) of) ≡ Some (i - w)
lowered-column w end_of-Expr i h = cc
lowered-column w (more_of-Expr (expr.Column place) rest) i h = let e : place ≡ i = cc in ap (λ p. Some (p - w)) e
lowered-column w (more_of-Expr (expr.Literal v) rest) i h = cc
lowered-column w (more_of-Expr (expr.Arith' step p left q right) rest) i h = cc
lowered-column w (more_of-Expr (expr.Compare' step p left q right) rest) i h = cc
lowered-column w (more_of-Expr (expr.And' p left q right) rest) i h = cc
lowered-column w (more_of-Expr (expr.Or' p left q right) rest) i h = cc
lowered-column w (more_of-Expr (expr.Not' p of) rest) i h = cc
lowered-column w (more_of-Expr (expr.IsNull' p of) rest) i h = cc

pub lowered-literal : {m : _} (w : ℕ) (of : Row_of-Expr m) (v : Value) → only_literal of ≡ Some v → only_literal (renamed_in (λ i. i - w) of) ≡ Some v
lowered-literal w end_of-Expr v h = cc
lowered-literal w (more_of-Expr (expr.Column place) rest) v h = cc
lowered-literal w (more_of-Expr (expr.Literal u) rest) v h = h
lowered-literal w (more_of-Expr (expr.Arith' step p left q right) rest) v h = cc
lowered-literal w (more_of-Expr (expr.Compare' step p left q right) rest) v h = cc
lowered-literal w (more_of-Expr (expr.And' p left q right) rest) v h = cc
lowered-literal w (more_of-Expr (expr.Or' p left q right) rest) v h = cc
lowered-literal w (more_of-Expr (expr.Not' p of) rest) v h = cc
lowered-literal w (more_of-Expr (expr.IsNull' p of) rest) v h = cc

kind-column : {m : _} (kinds : List Kind) (of : Row_of-Expr m) (i : ℕ) → only_column of ≡ Some i → kind_in kinds of ≡ column_kind (slice_get kinds i)
kind-column kinds end_of-Expr i h = cc
kind-column kinds (more_of-Expr (expr.Column place) rest) i h = let e : place ≡ i = cc in ap (λ p. column_kind (slice_get kinds p)) e
kind-column kinds (more_of-Expr (expr.Literal v) rest) i h = cc
kind-column kinds (more_of-Expr (expr.Arith' step p left q right) rest) i h = cc
kind-column kinds (more_of-Expr (expr.Compare' step p left q right) rest) i h = cc
kind-column kinds (more_of-Expr (expr.And' p left q right) rest) i h = cc
kind-column kinds (more_of-Expr (expr.Or' p left q right) rest) i h = cc
kind-column kinds (more_of-Expr (expr.Not' p of) rest) i h = cc
kind-column kinds (more_of-Expr (expr.IsNull' p of) rest) i h = cc

kind-literal : {m : _} (kinds : List Kind) (of : Row_of-Expr m) (v : Value) → only_literal of ≡ Some v → kind_in kinds of ≡ literal_kind v
kind-literal kinds end_of-Expr v h = cc
kind-literal kinds (more_of-Expr (expr.Column place) rest) v h = cc
kind-literal kinds (more_of-Expr (expr.Literal u) rest) v h = let e : u ≡ v = cc in ap literal_kind e
kind-literal kinds (more_of-Expr (expr.Arith' step p left q right) rest) v h = cc
kind-literal kinds (more_of-Expr (expr.Compare' step p left q right) rest) v h = cc
kind-literal kinds (more_of-Expr (expr.And' p left q right) rest) v h = cc
kind-literal kinds (more_of-Expr (expr.Or' p left q right) rest) v h = cc
kind-literal kinds (more_of-Expr (expr.Not' p of) rest) v h = cc
kind-literal kinds (more_of-Expr (expr.IsNull' p of) rest) v h = cc

same-itself : (k : CompareKind) → same_compare k k ≡ true
same-itself compare.Equal = refl
same-itself compare.NotEqual = refl
same-itself compare.Less = refl
same-itself compare.AtMost = refl
same-itself compare.Greater = refl
same-itself compare.AtLeast = refl

value-itself : (v : Value) → is_eq (value_cmp v v) ≡ true
value-itself v = ap is_eq (tied_itself value_total v)

-- a test among the conditions' members, lowered
module _ (before kinds after : List Kind) (w : ℕ) (wide : length before ≡ w) (conds : List Expr) where
  abbrev all_kinds : List Kind
  all_kinds = before ++ (kinds ++ after)

  to_place : (i : ℕ) → nat_le w i ≡ true → w + (i - w) ≡ i
  to_place i h = let l : w ≤ i = low w i h in omega (arith, l)
    where
      low : (m n : ℕ) → nat_le m n ≡ true → m ≤ n
      low m n h = grind arith

  within : (i : ℕ) → nat_le w i ≡ true → nat_lt i (w + length kinds) ≡ true → nat_lt (i - w) (length kinds) ≡ true
  within i h g = low w i (length kinds) h g
    where
      low : (m n v : ℕ) → nat_le m n ≡ true → nat_lt n (m + v) ≡ true → nat_lt (n - m) v ≡ true
      low m n v h g = grind arith

  lower-kind : (i : ℕ) → nat_le w i ≡ true → nat_lt i (w + length kinds) ≡ true → slice_get all_kinds i ≡ slice_get kinds (i - w)
  lower-kind i h g =
      ap (slice_get all_kinds) (sym (to_place i h)) ∙ ap (λ n. slice_get all_kinds (n + (i - w))) (sym wide)
      ∙ get-right before (kinds ++ after) (i - w) ∙ get-left kinds after (i - w) (below (i - w) (length kinds) (within i h g))
    where
      below : (m n : ℕ) → nat_lt m n ≡ true → m < n
      below m n h = grind arith

  one-stands : (e : Expr) → is_on kinds w e ≡ true → ((k : CompareKind) (i : ℕ) (v : Value) → says i k v e ≡ true → list_any (says i k v) conds ≡ true) → is_of kind.Bool (expr_kind all_kinds e) ≡ true
      → (is_test w (length kinds) conds (renamed (λ i. i - w) e) && is_of kind.Bool (expr_kind kinds (renamed (λ i. i - w) e))) ≡ true
  one-stands (expr.Compare' k p left q right) on said fit = by (only_column left) (only_literal right) refl refl on
    where
      by : (o : Option ℕ) (u : Option Value) → only_column left ≡ o → only_literal right ≡ u → are_on kinds w o u ≡ true
          → (is_said w (length kinds) conds k (only_column (renamed_in (λ i. i - w) left)) (only_literal (renamed_in (λ i. i - w) right))
          && is_of kind.Bool (kind_if (are_alike (kind_in kinds (renamed_in (λ i. i - w) left)) (kind_in kinds (renamed_in (λ i. i - w) right))) kind.Bool)) ≡ true
      by None u a b h = cc
      by (Some i) None a b h = cc
      by (Some i) (Some v) a b h =
          let c : (nat_le w i ≡ true) × ((nat_lt i (w + length kinds) && (is_ranged (slice_get kinds (i - w)) && not (is_null v))) ≡ true) = both_true (nat_le w i) _ h in
          let d : (nat_lt i (w + length kinds) ≡ true) × ((is_ranged (slice_get kinds (i - w)) && not (is_null v)) ≡ true) = both_true (nat_lt i (w + length kinds)) _ c.1 in
          let says_it : says i k v (expr.Compare' k p left q right) ≡ true = (λ t. same-itself k t && (is_that_place i (a t) && is_that_value v (b t))) ∙ (λ t. eq_self i t && value-itself v t) in
          let alike : are_alike (column_kind (slice_get all_kinds i)) (literal_kind v) ≡ true = (λ t. are_alike (sym (kind-column all_kinds left i a) t) (sym (kind-literal all_kinds right v b) t)) ∙ if-bool _ fit in
          (λ t. is_said w (length kinds) conds k (lowered-column w left i a t) (lowered-literal w right v b t)
          && is_of kind.Bool (kind_if (are_alike (kind-column kinds (renamed_in (λ i. i - w) left) (i - w) (lowered-column w left i a) t) (kind-literal kinds (renamed_in (λ i. i - w) right) v (lowered-literal w right v b) t)) kind.Bool))
          ∙ (λ t. (within i c.0 d.0 t && (ap (λ n. list_any (says n k v) conds) (to_place i c.0) ∙ said k i v says_it) t) && is_of kind.Bool (kind_if ((ap (λ o. are_alike (column_kind o) (literal_kind v)) (sym (lower-kind i c.0 d.0)) ∙ alike) t) kind.Bool))
  one-stands (expr.Column place) on said fit = cc
  one-stands (expr.Literal u) on said fit = cc
  one-stands (expr.Arith' step p left q right) on said fit = cc
  one-stands (expr.And' p left q right) on said fit = cc
  one-stands (expr.Or' p left q right) on said fit = cc
  one-stands (expr.Not' p of) on said fit = cc
  one-stands (expr.IsNull' p of) on said fit = cc

  all-stand : (done es : List Expr) → are_conditions all_kinds es ≡ true → ((k : CompareKind) (i : ℕ) (v : Value) → list_any (says i k v) (done ++ es) ≡ true → list_any (says i k v) conds ≡ true)
      → list_all (λ e. is_test w (length kinds) conds e && is_of kind.Bool (expr_kind kinds e)) (map (renamed (λ i. i - w)) (filter (is_on kinds w) es)) ≡ true
  all-stand done [] fit said = refl
  all-stand done (e ∷ es) fit said =
      let b : (is_of kind.Bool (expr_kind all_kinds e) ≡ true) × (are_conditions all_kinds es ≡ true) = both_true (is_of kind.Bool (expr_kind all_kinds e)) _ fit in
      by (is_on kinds w e) refl b.0 (all-stand (done ++ e ∷ []) es b.1 (λ k i v h. said k i v (ap (list_any (says i k v)) (sym (append_assoc done (e ∷ []) es)) ∙ h)))
    where
      by : (c : Bool) → is_on kinds w e ≡ c → is_of kind.Bool (expr_kind all_kinds e) ≡ true
          → list_all (λ e. is_test w (length kinds) conds e && is_of kind.Bool (expr_kind kinds e)) (map (renamed (λ i. i - w)) (filter (is_on kinds w) es)) ≡ true
          → list_all (λ e. is_test w (length kinds) conds e && is_of kind.Bool (expr_kind kinds e)) (map (renamed (λ i. i - w)) (cond c (e ∷ filter (is_on kinds w) es) (filter (is_on kinds w) es))) ≡ true
      by true g f rest = λ i. one-stands e g (λ k i v h. said k i v (any-right (says i k v) done (e ∷ es) (or_left (says i k v e) _ h))) f i && rest i
      by false g f rest = rest

  pub tests-are : are_conditions all_kinds conds ≡ true → nat_le (length (tests_of kinds w conds)) 1050 ≡ true → are_tests w kinds conds (tests_of kinds w conds) ≡ true
  tests-are fit few = λ i. all-stand [] (flat_map members conds) (all-are all_kinds conds fit) (λ k i v h. all-say i k v conds h) i && few i

-- so it is with each source of a query
sources-from : (kinds : ℕ → List Kind) (conds : List Expr) (before : List Kind) (w : ℕ) → length before ≡ w → (ts : List ℕ) → are_conditions (before ++ flat_map kinds ts) conds ≡ true → few_tests (with_tests kinds conds w ts) ≡ true → have_tests kinds conds w (with_tests kinds conds w ts) ≡ true
sources-from kinds conds before w wide [] fit few = refl
sources-from kinds conds before w wide (t ∷ ts) fit few =
    let b : (nat_le (length (tests_of (kinds t) w conds)) 1050 ≡ true) × (few_tests (with_tests kinds conds (w + length (kinds t)) ts) ≡ true) = both_true (nat_le (length (tests_of (kinds t) w conds)) 1050) _ few in
    λ i. tests-are before (kinds t) (flat_map kinds ts) w wide conds fit b.0 i
    && sources-from kinds conds (before ++ kinds t) (w + length (kinds t)) (length-append before (kinds t) ∙ ap (λ n. n + length (kinds t)) wide) ts (ap (λ l. are_conditions l conds) (append_assoc before (kinds t) (flat_map kinds ts)) ∙ fit) b.1 i

pub tests-stand : (kinds : ℕ → List Kind) (q : Query) → IsTrue (is_some (query_kinds kinds q)) → IsTrue (few_tests (with_tests kinds q.conds 0 q.sources)) → IsTrue (have_tests kinds q.conds 0 (with_tests kinds q.conds 0 q.sources))
tests-stand kinds q fits few = by (query_kinds kinds q) refl fits
  where
    by : (o : Option (List Kind)) → query_kinds kinds q ≡ o → is_some o ≡ true → have_tests kinds q.conds 0 (with_tests kinds q.conds 0 q.sources) ≡ true
    by None f h = cc
    by (Some out) f h = let seen : Seen (product_kinds kinds q) q out = seen-from kinds q out f in sources-from kinds q.conds [] 0 refl q.sources seen.conds few

pub tested-tables : (kinds : ℕ → List Kind) (conds : List Expr) (w : ℕ) (ts : List ℕ) → tables_of (with_tests kinds conds w ts) ≡ ts
tested-tables kinds conds w [] = refl
tested-tables kinds conds w (t ∷ ts) = ap (λ l. t ∷ l) (tested-tables kinds conds (w + length (kinds t)) ts)

-- the members of the tests together are the tests
member-alone : (w v : ℕ) (conds : List Expr) (e : Expr) → is_test w v conds e ≡ true → members e ≡ e ∷ []
member-alone w v conds (expr.Compare' k p left q right) g = refl
member-alone w v conds (expr.Column place) g = cc
member-alone w v conds (expr.Literal u) g = cc
member-alone w v conds (expr.Arith' step p left q right) g = cc
member-alone w v conds (expr.And' p left q right) g = cc
member-alone w v conds (expr.Or' p left q right) g = cc
member-alone w v conds (expr.Not' p of) g = cc
member-alone w v conds (expr.IsNull' p of) g = cc

members-together : (w : ℕ) (kinds : List Kind) (conds : List Expr) (e : Expr) (es : List Expr) → list_all (λ e. is_test w (length kinds) conds e && is_of kind.Bool (expr_kind kinds e)) (e ∷ es) ≡ true → members (all_of e es) ≡ e ∷ es
unfolding hidden-the_row-Expr-0 hidden
members-together w kinds conds e [] g = member-alone w (length kinds) conds e (both_true (is_test w (length kinds) conds e) _ (both_true (is_test w (length kinds) conds e && is_of kind.Bool (expr_kind kinds e)) _ g).0).0
members-together w kinds conds e (f ∷ es) g =
    let b = both_true (is_test w (length kinds) conds e && is_of kind.Bool (expr_kind kinds e)) _ g in
    λ i. member-alone w (length kinds) conds e (both_true (is_test w (length kinds) conds e) _ b.0).0 i ++ members-together w kinds conds f es b.1 i

pub members-of-tests : (w : ℕ) (kinds : List Kind) (conds : List Expr) (e : Expr) (es : List Expr) → IsTrue (are_tests w kinds conds (e ∷ es)) → members (all_of e es) ≡ e ∷ es
members-of-tests w kinds conds e es g = members-together w kinds conds e es (both_true (list_all (λ e. is_test w (length kinds) conds e && is_of kind.Bool (expr_kind kinds e)) (e ∷ es)) (nat_le (length (e ∷ es)) 1050) g).0
