-- The guards of a source stand, and fit a Filter.
use Rattle.std.proofs.Common.{◌≡◌, ℕ, suc, ◌+◌, ◌-◌, ◌*◌, ◌<◌, ◌≤◌, nat_lt, nat_le, Bool, true, false, not, cond, ◌&&◌, ◌||◌, List, [], ◌∷◌, ◌++◌, map, filter, flat_map, length, Option, Some, None, slice_get, refl, sym, ◌∙◌, ap, subst, arith, append_assoc, length-append, is_some, IsTrue}
use Rattle.std.specs.List.{list_all}
use Rattle.std.proofs.lemmas.List.Folds.{list_all-append}
use Rattle.hq_value.specs.declared.kind.Kind.{Kind}
use Rattle.hq_value.specs.declared.kind.Kind.TheVariants as kind
use Rattle.hq_algebra.specs.declared.expr.Expr.{Expr, Row_of-Expr, end_of-Expr, more_of-Expr}
use Rattle.hq_algebra.specs.declared.expr.Expr.TheVariants as expr
use Rattle.hq_algebra.specs.declared.expr.Expr.TheBlock.{hidden-the_row-Expr-0}
use Rattle.hq_algebra.specs.declared.query.Query.{Query}
use denote.Hole.Carrier.{hidden}
use Rattle.hq_algebra.specs.Outcome.{Is, of_one, of_two, of_two_values}
use Rattle.hq_algebra.specs.Steps.{arith_of, compare_of, and_of, or_of, not_of, is_null_of}
use Rattle.hq_algebra.specs.Eval.{eval, only, column, or_null, is_true, is_true_at}
use Rattle.hq_algebra.specs.Kinds.{is_of, are_alike, has_kind, kind_if, column_kind, expr_kind, kind_in}
use Rattle.hq_algebra.specs.Queries.{product_kinds, are_conditions, query_kinds}
use Rattle.hq_algebra.specs.Rules.{cannot_fault, are_small}
use Rattle.hq_algebra.specs.Shape.{parts, parts_of, has_arith, has_column}
use Rattle.hq_meaning.specs.Rows.{Row}
use Rattle.hq_laws.specs.Gathered.{tables_of}
use Rattle.hq_laws.specs.Guards.{is_inside, inside_in, is_guard, guards_of, with_guards}
use Rattle.hq_laws.specs.Sources.{Source, all_of, TestsStand, SourcesStand, fits_filter, fit_filters}
use Rattle.hq_laws.specs.Tests.{members, members_in}
use Rattle.hq_laws.specs.Turned.{renamed, renamed_in}
use Rattle.hq_laws.proofs.Equating.{column-left, column-right}
use Rattle.hq_laws.proofs.EquatedKinds.{get-left, get-right}
use Rattle.hq_laws.proofs.Exactly.{all-are}
use Rattle.hq_laws.proofs.Fitness.{small-parts}
use Rattle.hq_laws.proofs.Lists.{both_true}
use Rattle.hq_laws.proofs.Members.{all-filter, all-calm, all-true}
use Rattle.hq_laws.proofs.Renaming.{calm-renamed, parts-renamed}
use Rattle.hq_laws.proofs.Sourcing.{all-calm as together-calm}
use Rattle.hq_laws.proofs.Turning.{all-map}
use Rattle.hq_laws.proofs.Typing.{Seen, seen-from}

-- a place among v columns from place w on
pub inside-place : (w v i : ℕ) → (nat_le w i && nat_lt i (w + v)) ≡ true → (w + (i - w) ≡ i) × (i - w < v)
inside-place w v i h =
    let b : (nat_le w i ≡ true) × (nat_lt i (w + v) ≡ true) = both_true (nat_le w i) (nat_lt i (w + v)) h in
    let l : w ≤ i = low w i b.0 in
    let m : i < w + v = less i (w + v) b.1 in
    (omega (arith, l), omega (arith, l, m))
  where
    low : (m n : ℕ) → nat_le m n ≡ true → m ≤ n
    low m n h = grind arith

    less : (m n : ℕ) → nat_lt m n ≡ true → m < n
    less m n h = grind arith

-- over the source's own columns a guard means the same
module _ (w v : ℕ) (l r rest : Row) (wide : length l ≡ w) (own : length r ≡ v) where
  abbrev whole : Row
  whole = l ++ (r ++ rest)

  same-column : (i : ℕ) → (nat_le w i && nat_lt i (w + v)) ≡ true → column r (i - w) ≡ column whole i
  same-column i h =
      let b : (w + (i - w) ≡ i) × (i - w < v) = inside-place w v i h in
      sym (ap (column whole) (sym b.0) ∙ ap (λ n. column whole (n + (i - w))) (sym wide) ∙ column-right l (r ++ rest) (i - w) ∙ column-left r rest (i - w) (subst (λ n. i - w < n) (sym own) b.1))

  mutual
    same-eval : (e : Expr) → is_inside w v e ≡ true → eval (renamed (λ i. i - w) e) r ≡ eval e whole
    same-eval (expr.Column place) h = ap Is (same-column place h)
    same-eval (expr.Literal u) h = refl
    same-eval (expr.Arith' step p left q right) h = let b = both_true (inside_in w v left) (inside_in w v right) h in λ i. of_two (arith_of step) (same-only left b.0 i) (same-only right b.1 i)
    same-eval (expr.Compare' test p left q right) h = let b = both_true (inside_in w v left) (inside_in w v right) h in λ i. of_two_values (compare_of test) (same-only left b.0 i) (same-only right b.1 i)
    same-eval (expr.And' p left q right) h = let b = both_true (inside_in w v left) (inside_in w v right) h in λ i. of_two_values and_of (same-only left b.0 i) (same-only right b.1 i)
    same-eval (expr.Or' p left q right) h = let b = both_true (inside_in w v left) (inside_in w v right) h in λ i. of_two_values or_of (same-only left b.0 i) (same-only right b.1 i)
    same-eval (expr.Not' p of) h = λ i. of_one not_of (same-only of h i)
    same-eval (expr.IsNull' p of) h = λ i. of_one is_null_of (same-only of h i)

    same-only : {m : _} (of : Row_of-Expr m) → inside_in w v of ≡ true → only (renamed_in (λ i. i - w) of) r ≡ only of whole
    same-only end_of-Expr h = refl
    same-only (more_of-Expr e rest) h = same-eval e h

  module _ (kinds : List Kind) (many : length kinds ≡ v) where
    guards-true : (es : List Expr) → list_all (λ e. is_true_at e whole) es ≡ true → list_all (λ e. is_true_at e r) (map (renamed (λ i. i - w)) (filter (is_guard kinds w) es)) ≡ true
    guards-true [] h = refl
    guards-true (e ∷ es) h =
        let b : (is_true_at e whole ≡ true) × (list_all (λ e. is_true_at e whole) es ≡ true) = both_true (is_true_at e whole) _ h in
        by (is_guard kinds w e) refl b.0 (guards-true es b.1)
      where
        by : (c : Bool) → is_guard kinds w e ≡ c → is_true_at e whole ≡ true → list_all (λ e. is_true_at e r) (map (renamed (λ i. i - w)) (filter (is_guard kinds w) es)) ≡ true
            → list_all (λ e. is_true_at e r) (map (renamed (λ i. i - w)) (cond c (e ∷ filter (is_guard kinds w) es) (filter (is_guard kinds w) es))) ≡ true
        by true g t others =
            let inside : is_inside w v e ≡ true = ap (λ n. is_inside w n e) (sym many) ∙ (both_true (has_column e) _ g).1 in
            λ i. (ap (λ o. is_true (or_null o)) (same-eval e inside) ∙ t) i && others i
        by false g t others = others

guards-stand : (w : ℕ) (kinds : List Kind) (conds : List Expr) → cannot_fault conds ≡ true → TestsStand w (length kinds) conds (guards_of kinds w conds)
guards-stand w kinds conds calm = (
  calm-renamed (λ i. i - w) (filter (is_guard kinds w) (flat_map members conds)) ∙ all-filter (λ e. not (has_arith e)) (is_guard kinds w) (flat_map members conds) (all-calm conds calm),
  λ l r rest wide own true_all. guards-true w (length kinds) l r rest wide own kinds refl (flat_map members conds) (all-true (l ++ (r ++ rest)) conds true_all),
)

all-stand : (kinds : ℕ → List Kind) (conds : List Expr) → cannot_fault conds ≡ true → (w : ℕ) (ts : List ℕ) → SourcesStand kinds conds w (with_guards kinds conds w ts)
all-stand kinds conds calm w [] = tt
all-stand kinds conds calm w (t ∷ ts) = (guards-stand w (kinds t) conds calm, all-stand kinds conds calm (w + length (kinds t)) ts)

pub guards-imply : (kinds : ℕ → List Kind) (q : Query) → SourcesStand kinds q.conds 0 (with_guards kinds q.conds 0 q.sources)
guards-imply kinds q = all-stand kinds q.conds q.conds_fault_never 0 q.sources

pub guarded-tables : (kinds : ℕ → List Kind) (conds : List Expr) (w : ℕ) (ts : List ℕ) → tables_of (with_guards kinds conds w ts) ≡ ts
guarded-tables kinds conds w [] = refl
guarded-tables kinds conds w (t ∷ ts) = ap (λ l. t ∷ l) (guarded-tables kinds conds (w + length (kinds t)) ts)

-- how many parts they have together, with one more for each
abbrev weight : List Expr → ℕ
weight [] = 0
weight (e ∷ es) = suc (parts e) + weight es

weight-append : (xs ys : List Expr) → weight (xs ++ ys) ≡ weight xs + weight ys
weight-append [] ys = omega arith
weight-append (x ∷ xs) ys = let r = weight-append xs ys in omega (arith, r)

mutual
  members-light : (e : Expr) → weight (members e) ≤ suc (parts e)
  members-light (expr.Column place) = omega arith
  members-light (expr.Literal v) = omega arith
  members-light (expr.Arith' step p left q right) = omega arith
  members-light (expr.Compare' test p left q right) = omega arith
  members-light (expr.And' p left q right) =
      let a = weight-append (members_in left) (members_in right) in
      let b = members_in-light left in
      let c = members_in-light right in
      omega (arith, a, b, c)
  members-light (expr.Or' p left q right) = omega arith
  members-light (expr.Not' p of) = omega arith
  members-light (expr.IsNull' p of) = omega arith

  members_in-light : {m : _} (of : Row_of-Expr m) → weight (members_in of) ≤ suc (parts_of of)
  members_in-light end_of-Expr = omega arith
  members_in-light (more_of-Expr e rest) = members-light e

all-light : (conds : List Expr) → are_small conds ≡ true → weight (flat_map members conds) ≤ 257 * length conds
all-light [] h = omega arith
all-light (e ∷ conds) h =
    let b : (nat_le (parts e) 256 ≡ true) × (are_small conds ≡ true) = both_true (nat_le (parts e) 256) _ h in
    let p : parts e ≤ 256 = most (parts e) b.0 in
    let a = weight-append (members e) (flat_map members conds) in
    let c = members-light e in
    let r = all-light conds b.1 in
    omega (arith, p, a, c, r)
  where
    most : (n : ℕ) → nat_le n 256 ≡ true → n ≤ 256
    most n h = grind arith

filter-light : (p : Expr → Bool) (es : List Expr) → weight (filter p es) ≤ weight es
filter-light p [] = omega arith
filter-light p (e ∷ es) = by (p e) (filter-light p es)
  where
    by : (c : Bool) → weight (filter p es) ≤ weight es → weight (cond c (e ∷ filter p es) (filter p es)) ≤ suc (parts e) + weight es
    by true r = omega (arith, r)
    by false r = omega (arith, r)

renamed-weight : (f : ℕ → ℕ) (es : List Expr) → weight (map (renamed f) es) ≡ weight es
renamed-weight f [] = refl
renamed-weight f (e ∷ es) = λ i. suc (parts-renamed f e i) + renamed-weight f es i

together-parts : (e : Expr) (es : List Expr) → suc (parts (all_of e es)) ≡ weight (e ∷ es)
unfolding hidden-the_row-Expr-0 hidden
together-parts e [] = omega arith
together-parts e (f ∷ es) = let r = together-parts f es in omega (arith, r)

-- the kind of a guard over the source's own columns
module _ (before kinds after : List Kind) (w : ℕ) (wide : length before ≡ w) where
  abbrev all_kinds : List Kind
  all_kinds = before ++ (kinds ++ after)

  lower-kind : (i : ℕ) → (nat_le w i && nat_lt i (w + length kinds)) ≡ true → slice_get kinds (i - w) ≡ slice_get all_kinds i
  lower-kind i h =
      let b : (w + (i - w) ≡ i) × (i - w < length kinds) = inside-place w (length kinds) i h in
      sym (ap (slice_get all_kinds) (sym b.0) ∙ ap (λ n. slice_get all_kinds (n + (i - w))) (sym wide) ∙ get-right before (kinds ++ after) (i - w) ∙ get-left kinds after (i - w) b.1)

  mutual
    same-kind : (e : Expr) → is_inside w (length kinds) e ≡ true → expr_kind kinds (renamed (λ i. i - w) e) ≡ expr_kind all_kinds e
    same-kind (expr.Column place) h = ap column_kind (lower-kind place h)
    same-kind (expr.Literal u) h = refl
    same-kind (expr.Arith' step p left q right) h = let b = both_true (inside_in w (length kinds) left) (inside_in w (length kinds) right) h in λ i. kind_if (is_of kind.Int (kinds-in left b.0 i) && is_of kind.Int (kinds-in right b.1 i)) kind.Int
    same-kind (expr.Compare' test p left q right) h = let b = both_true (inside_in w (length kinds) left) (inside_in w (length kinds) right) h in λ i. kind_if (are_alike (kinds-in left b.0 i) (kinds-in right b.1 i)) kind.Bool
    same-kind (expr.And' p left q right) h = let b = both_true (inside_in w (length kinds) left) (inside_in w (length kinds) right) h in λ i. kind_if (is_of kind.Bool (kinds-in left b.0 i) && is_of kind.Bool (kinds-in right b.1 i)) kind.Bool
    same-kind (expr.Or' p left q right) h = let b = both_true (inside_in w (length kinds) left) (inside_in w (length kinds) right) h in λ i. kind_if (is_of kind.Bool (kinds-in left b.0 i) && is_of kind.Bool (kinds-in right b.1 i)) kind.Bool
    same-kind (expr.Not' p of) h = λ i. kind_if (is_of kind.Bool (kinds-in of h i)) kind.Bool
    same-kind (expr.IsNull' p of) h = λ i. kind_if (has_kind (kinds-in of h i)) kind.Bool

    kinds-in : {m : _} (of : Row_of-Expr m) → inside_in w (length kinds) of ≡ true → kind_in kinds (renamed_in (λ i. i - w) of) ≡ kind_in all_kinds of
    kinds-in end_of-Expr h = refl
    kinds-in (more_of-Expr e rest) h = same-kind e h

  guards-are : (es : List Expr) → are_conditions all_kinds es ≡ true → are_conditions kinds (map (renamed (λ i. i - w)) (filter (is_guard kinds w) es)) ≡ true
  guards-are [] h = refl
  guards-are (e ∷ es) h =
      let b : (is_of kind.Bool (expr_kind all_kinds e) ≡ true) × (are_conditions all_kinds es ≡ true) = both_true (is_of kind.Bool (expr_kind all_kinds e)) _ h in
      by (is_guard kinds w e) refl b.0 (guards-are es b.1)
    where
      by : (c : Bool) → is_guard kinds w e ≡ c → is_of kind.Bool (expr_kind all_kinds e) ≡ true → are_conditions kinds (map (renamed (λ i. i - w)) (filter (is_guard kinds w) es)) ≡ true
          → are_conditions kinds (map (renamed (λ i. i - w)) (cond c (e ∷ filter (is_guard kinds w) es) (filter (is_guard kinds w) es))) ≡ true
      by true g f rest = λ i. (ap (is_of kind.Bool) (same-kind e (both_true (has_column e) _ g).1) ∙ f) i && rest i
      by false g f rest = rest

-- all of them as one condition
together-are : (kinds : List Kind) (e : Expr) (es : List Expr) → are_conditions kinds (e ∷ es) ≡ true → is_of kind.Bool (expr_kind kinds (all_of e es)) ≡ true
unfolding hidden-the_row-Expr-0 hidden
together-are kinds e [] h = (both_true (is_of kind.Bool (expr_kind kinds e)) true h).0
together-are kinds e (f ∷ es) h =
    let b : (is_of kind.Bool (expr_kind kinds e) ≡ true) × (are_conditions kinds (f ∷ es) ≡ true) = both_true (is_of kind.Bool (expr_kind kinds e)) _ h in
    λ i. is_of kind.Bool (kind_if (b.0 i && together-are kinds f es b.1 i) kind.Bool)

all-fit : (kinds : List Kind) (es : List Expr) → are_conditions kinds es ≡ true → cannot_fault es ≡ true → weight es ≤ 2056 → fits_filter kinds es ≡ true
all-fit kinds [] fit calm light = refl
all-fit kinds (e ∷ es) fit calm light = λ i. together-are kinds e es fit i && (not (together-calm e es calm i) && enough (parts (all_of e es)) (let p = together-parts e es in omega (arith, p, light)) i)
  where
    enough : (n : ℕ) → n ≤ 2055 → nat_le n 2100 ≡ true
    enough n h = grind arith

guards-light : (kinds : List Kind) (w : ℕ) (conds : List Expr) → are_small conds ≡ true → length conds ≤ 8 → weight (guards_of kinds w conds) ≤ 2056
guards-light kinds w conds small eight =
    let a = renamed-weight (λ i. i - w) (filter (is_guard kinds w) (flat_map members conds)) in
    let b = filter-light (is_guard kinds w) (flat_map members conds) in
    let c = all-light conds small in
    omega (arith, a, b, c, eight)

sources-fit : (kinds : ℕ → List Kind) (conds : List Expr) → are_small conds ≡ true → length conds ≤ 8 → cannot_fault conds ≡ true
    → (before : List Kind) (w : ℕ) → length before ≡ w → (ts : List ℕ) → are_conditions (before ++ flat_map kinds ts) conds ≡ true → fit_filters kinds (with_guards kinds conds w ts) ≡ true
sources-fit kinds conds small eight calm before w wide [] fit = refl
sources-fit kinds conds small eight calm before w wide (t ∷ ts) fit =
    λ i. all-fit (kinds t) (guards_of (kinds t) w conds)
    (guards-are before (kinds t) (flat_map kinds ts) w wide (flat_map members conds) (all-are (before ++ (kinds t ++ flat_map kinds ts)) conds fit))
    (guards-stand w (kinds t) conds calm).0 (guards-light (kinds t) w conds small eight) i
    && sources-fit kinds conds small eight calm (before ++ kinds t) (w + length (kinds t)) (length-append before (kinds t) ∙ ap (λ n. n + length (kinds t)) wide) ts (ap (λ l. are_conditions l conds) (append_assoc before (kinds t) (flat_map kinds ts)) ∙ fit) i

pub guards-fit : (kinds : ℕ → List Kind) (q : Query) → IsTrue (is_some (query_kinds kinds q)) → length q.conds ≤ 8 → IsTrue (fit_filters kinds (with_guards kinds q.conds 0 q.sources))
guards-fit kinds q fits eight = by (query_kinds kinds q) refl fits
  where
    by : (o : Option (List Kind)) → query_kinds kinds q ≡ o → is_some o ≡ true → fit_filters kinds (with_guards kinds q.conds 0 q.sources) ≡ true
    by None f h = cc
    by (Some out) f h = let seen : Seen (product_kinds kinds q) q out = seen-from kinds q out f in sources-fit kinds q.conds (small-parts q).0 eight q.conds_fault_never [] 0 refl q.sources seen.conds
