-- The Scans of a plan over columns that are taken stand under the guards of the query over all columns.
use Rattle.std.proofs.Common.{◌≡◌, ℕ, zero, suc, ◌+◌, ◌-◌, ◌<◌, ◌≤◌, nat_le, nat_lt, Bool, true, false, not, cond, ◌&&◌, List, [], ◌∷◌, ◌++◌, map, filter, flat_map, length, Option, Some, None, slice_get, count_by, refl, sym, ◌∙◌, ap, subst, arith, length-append, lt-ltb, IsTrue}
use Rattle.std.specs.List.{list_all, AllByRecursion}
use Rattle.std.proofs.lemmas.List.{map-append}
use Rattle.std.proofs.lemmas.List.Folds.{list_all-append}
use Rattle.std.proofs.lemmas.Option.{slice_get_within}
use Rattle.hq_value.specs.declared.kind.Kind.{Kind}
use Rattle.hq_value.specs.declared.kind.Kind.TheVariants as kind
use Rattle.hq_value.specs.Tables.{all_below}
use Rattle.hq_algebra.specs.declared.aggregate.Aggregate.{Aggregate}
use Rattle.hq_algebra.specs.declared.expr.Expr.{Expr, Row_of-Expr, end_of-Expr, more_of-Expr}
use Rattle.hq_algebra.specs.declared.expr.Expr.TheVariants as expr
use Rattle.hq_algebra.specs.declared.op.SortKey.{SortKey}
use Rattle.hq_algebra.specs.declared.op.Op.{Op, Row_of-Op, end_of-Op, more_of-Op}
use Rattle.hq_algebra.specs.declared.op.Op.TheVariants as op
use Rattle.hq_algebra.specs.declared.op.Op.TheBlock.{hidden-the_row-Op-0}
use Rattle.hq_algebra.specs.declared.plan.Slice.{Slice}
use Rattle.hq_algebra.specs.declared.plan.Plan.{Plan}
use Rattle.hq_algebra.specs.declared.query.Query.{Query}
use denote.Hole.Carrier.{hidden}
use Rattle.hq_algebra.specs.Shape.{has_column}
use Rattle.hq_algebra.specs.Kinds.{◌>>=◌, every, same_kind, same_kinds}
use Rattle.hq_algebra.specs.Operators.{keys_kinds}
use Rattle.hq_algebra.specs.Plans.{operators, operators_in, is_short}
use Rattle.hq_laws.specs.Guards.{is_inside, inside_in, is_guard, guards_of, with_guards, Guarded, guarded_scans, guarded_in, all_guarded, guarded, AreGuarded}
use Rattle.hq_laws.specs.Placed.{further}
use Rattle.hq_laws.specs.Sources.{Source}
use Rattle.hq_laws.specs.Tests.{members, members_in}
use Rattle.hq_laws.specs.Turned.{renamed, renamed_in, AreTurned, columns_in}
use Rattle.hq_laws.proofs.Lists.{both_true}
use Rattle.hq_laws.proofs.Equating.{below}
use Rattle.hq_laws.proofs.Renaming.{column-renamed}
use Rattle.hq_laws.proofs.Scanning.{count-map}
use Rattle.hq_laws.proofs.Typing.{length-every}
use Rattle.hq_narrow.specs.declared.taken.Taken.{Taken}
use Rattle.hq_narrow.specs.Narrow.{taken_at, place_from, places, are_there}
use Rattle.hq_narrow.specs.Widened.{are_all_from, columns_of, under, full, taken_op, widened, widened_in, widened_slice, widened_plan, are_kinds, scan_fits, scans_fit, full_source, HaveKinds}

-- the members of a renamed condition are its members, renamed
module _ (f : ℕ → ℕ) where
  mutual
    members-renamed : (e : Expr) → members (renamed f e) ≡ map (renamed f) (members e)
    members-renamed (expr.Column place) = refl
    members-renamed (expr.Literal v) = refl
    members-renamed (expr.Arith' step p left q right) = refl
    members-renamed (expr.Compare' test p left q right) = refl
    members-renamed (expr.And' p left q right) = (λ i. members_in-renamed left i ++ members_in-renamed right i) ∙ sym (map-append (renamed f) (members_in left) (members_in right))
    members-renamed (expr.Or' p left q right) = refl
    members-renamed (expr.Not' p of) = refl
    members-renamed (expr.IsNull' p of) = refl

    members_in-renamed : {m : _} (of : Row_of-Expr m) → members_in (renamed_in f of) ≡ map (renamed f) (members_in of)
    members_in-renamed end_of-Expr = refl
    members_in-renamed (more_of-Expr e rest) = members-renamed e

  all-renamed : (conds : List Expr) → flat_map members (map (renamed f) conds) ≡ map (renamed f) (flat_map members conds)
  all-renamed [] = refl
  all-renamed (e ∷ conds) = (λ i. members-renamed e i ++ all-renamed conds i) ∙ sym (map-append (renamed f) (members e) (flat_map members conds))

-- the kinds of the columns that are taken
abbrev no_kinds : List Kind
no_kinds = []

none-there : (i : ℕ) → slice_get no_kinds i ≡ None
none-there zero = refl
none-there (suc i) = refl

behind : (kinds : List Kind) → slice_get kinds (length kinds) ≡ None
behind [] = refl
behind (k ∷ kinds) = behind kinds

pub kind-taken : (kinds : List Kind) (columns : List ℕ) (found : List Kind) → keys_kinds kinds columns ≡ Some found → (i : ℕ) → slice_get kinds (place_from columns (length kinds) i) ≡ slice_get found i
kind-taken kinds [] found h i = let same : [] ≡ found = cc in behind kinds ∙ sym (none-there i) ∙ ap (λ (l : List Kind). slice_get l i) same
kind-taken kinds (c ∷ columns) found h i = by (λ ys f j. kind-taken kinds columns ys f j) (slice_get kinds c) refl (keys_kinds kinds columns) refl h i
  where
    by : ((ys : List Kind) → keys_kinds kinds columns ≡ Some ys → (j : ℕ) → slice_get kinds (place_from columns (length kinds) j) ≡ slice_get ys j)
        → (o : Option Kind) → slice_get kinds c ≡ o → (p : Option (List Kind)) → keys_kinds kinds columns ≡ p → (o >>= (λ y. p >>= (λ ys. Some (y ∷ ys)))) ≡ Some found
        → (i : ℕ) → slice_get kinds (place_from (c ∷ columns) (length kinds) i) ≡ slice_get found i
    by rest None e p f h i = cc
    by rest (Some y) e None f h i = cc
    by rest (Some y) e (Some ys) f h zero = let same : y ∷ ys ≡ found = cc in e ∙ ap (λ (l : List Kind). slice_get l 0) same
    by rest (Some y) e (Some ys) f h (suc i) = let same : y ∷ ys ≡ found = cc in rest ys f i ∙ ap (λ (l : List Kind). slice_get l (suc i)) same

-- columns that have kinds are there
pub below-found : (whole : List Kind) (columns : List ℕ) (found : List Kind) → keys_kinds whole columns ≡ Some found → all_below (length whole) columns ≡ true
below-found whole [] found h = refl
below-found whole (c ∷ columns) found h = by (slice_get whole c) (keys_kinds whole columns) refl refl h (below-found whole columns)
  where
    by : (o : Option Kind) (p : Option (List Kind)) → slice_get whole c ≡ o → keys_kinds whole columns ≡ p → (o >>= (λ y. p >>= (λ ys. Some (y ∷ ys)))) ≡ Some found
        → ((ys : List Kind) → keys_kinds whole columns ≡ Some ys → all_below (length whole) columns ≡ true) → (nat_lt c (length whole) && all_below (length whole) columns) ≡ true
    by None p e g h rest = cc
    by (Some y) None e g h rest = cc
    by (Some y) (Some ys) e g h rest = λ i. lt-ltb c (length whole) (slice_get_within whole c y e) i && rest ys g i

pub place-below : (columns : List ℕ) (n j : ℕ) → all_below n columns ≡ true → j < length columns → place_from columns n j < n
place-below [] n j there h = absurd (omega arith)
place-below (c ∷ columns) n zero there h = below c n (both_true (nat_lt c n) _ there).0
place-below (c ∷ columns) n (suc j) there h = place-below columns n j (both_true (nat_lt c n) _ there).1 (omega arith)

-- a place among n from w on
within-at : (w n j : ℕ) → j < n → (nat_le w (w + j) && nat_lt (w + j) (w + n)) ≡ true
within-at w n j h = λ i. from w j i && less w j n h i
  where
    from : (w j : ℕ) → nat_le w (w + j) ≡ true
    from w j = grind arith

    less : (w j n : ℕ) → j < n → nat_lt (w + j) (w + n) ≡ true
    less w j n h = grind (arith, h)

within-before : (w n i : ℕ) → i < w → (nat_le w i && nat_lt i (w + n)) ≡ false
within-before w n i h = ap (λ b. b && nat_lt i (w + n)) (not_from i w h)
  where
    not_from : (i w : ℕ) → i < w → nat_le w i ≡ false
    not_from i w h = grind (arith, h)

within-after : (w n i : ℕ) → w + n ≤ i → (nat_le w i && nat_lt i (w + n)) ≡ false
within-after w n i h = ap (λ b. nat_le w i && b) (not_less i (w + n) h) ∙ none (nat_le w i)
  where
    not_less : (i n : ℕ) → n ≤ i → nat_lt i n ≡ false
    not_less i n h = grind (arith, h)

    none : (b : Bool) → (b && false) ≡ false
    none true = refl
    none false = refl

-- where a column stands: before n columns from place w on, as the j-th of them, or behind them
data Stands (w n i : ℕ) : Type 0 where
  Before : i < w → Stands w n i
  Inside : (j : ℕ) → j < n → i ≡ w + j → Stands w n i
  After : w + n ≤ i → Stands w n i

stands : (w n i : ℕ) → Stands w n i
stands w n i = by (nat_lt i w) refl (nat_lt i (w + n)) refl
  where
    less : (m n : ℕ) → nat_lt m n ≡ true → m < n
    less m n h = grind arith

    not_less : (m n : ℕ) → nat_lt m n ≡ false → n ≤ m
    not_less m n h = grind arith

    by : (p : Bool) → nat_lt i w ≡ p → (q : Bool) → nat_lt i (w + n) ≡ q → Stands w n i
    by true e q f = Before (less i w e)
    by false e true f = let l = not_less i w e in let h = less i (w + n) f in Inside (i - w) (omega (arith, l, h)) (omega (arith, l))
    by false e false f = After (not_less i (w + n) f)

-- the columns of a source stand from place v on among those that are taken, and from place w on among all
record Lands (to : ℕ → ℕ) (v w : ℕ) (columns : List ℕ) (n : ℕ) : Type 0 where
  inside : (j : ℕ) → j < length columns → to (v + j) ≡ w + place_from columns n j
  low : (i : ℕ) → i < v → to i < w
  high : (i : ℕ) → v + length columns ≤ i → w + n ≤ to i

module _ (kinds found : List Kind) (columns : List ℕ) (taken : keys_kinds kinds columns ≡ Some found) (to : ℕ → ℕ) (v w : ℕ) (lands : Lands to v w columns (length kinds)) where
  abbrev own : ℕ → ℕ
  own = place_from columns (length kinds)

  as-many : length found ≡ length columns
  as-many = length-every (slice_get kinds) columns found taken

  within-taken : (i : ℕ) → (nat_le w (to i) && nat_lt (to i) (w + length kinds)) ≡ (nat_le v i && nat_lt i (v + length found))
  within-taken i = by (stands v (length columns) i)
    where
      by : Stands v (length columns) i → (nat_le w (to i) && nat_lt (to i) (w + length kinds)) ≡ (nat_le v i && nat_lt i (v + length found))
      by (Before l) = within-before w (length kinds) (to i) (lands.low i l) ∙ sym (within-before v (length found) i l)
      by (Inside j l e) =
          ap (λ p. nat_le w p && nat_lt p (w + length kinds)) (ap to e ∙ lands.inside j l) ∙ within-at w (length kinds) (own j) (place-below columns (length kinds) j (below-found kinds columns found taken) l)
          ∙ sym (within-at v (length found) j (subst (λ m. j < m) (sym as-many) l)) ∙ ap (λ p. nat_le v p && nat_lt p (v + length found)) (sym e)
      by (After l) = within-after w (length kinds) (to i) (lands.high i l) ∙ sym (within-after v (length found) i (subst (λ m. v + m ≤ i) (sym as-many) l))

  mutual
    inside-taken : (e : Expr) → is_inside w (length kinds) (renamed to e) ≡ is_inside v (length found) e
    inside-taken (expr.Column place) = within-taken place
    inside-taken (expr.Literal u) = refl
    inside-taken (expr.Arith' step p left q right) = λ t. in-taken left t && in-taken right t
    inside-taken (expr.Compare' test p left q right) = λ t. in-taken left t && in-taken right t
    inside-taken (expr.And' p left q right) = λ t. in-taken left t && in-taken right t
    inside-taken (expr.Or' p left q right) = λ t. in-taken left t && in-taken right t
    inside-taken (expr.Not' p of) = in-taken of
    inside-taken (expr.IsNull' p of) = in-taken of

    in-taken : {m : _} (of : Row_of-Expr m) → inside_in w (length kinds) (renamed_in to of) ≡ inside_in v (length found) of
    in-taken end_of-Expr = refl
    in-taken (more_of-Expr e rest) = inside-taken e

  guard-taken : (e : Expr) → is_guard kinds w (renamed to e) ≡ is_guard found v e
  guard-taken e = λ t. column-renamed to e t && inside-taken e t

  moved : (i : ℕ) → (nat_le v i && nat_lt i (v + length found)) ≡ true → to i - w ≡ own (i - v)
  moved i h = by (stands v (length columns) i)
    where
      back : (w m : ℕ) → w + m - w ≡ m
      back w m = omega arith

      by : Stands v (length columns) i → to i - w ≡ own (i - v)
      by (Before l) = let u : false ≡ true = sym (within-before v (length found) i l) ∙ h in cc
      by (Inside j l e) = ap (λ m. m - w) (ap to e ∙ lands.inside j l) ∙ back w (own j) ∙ ap own (sym (ap (λ m. m - v) e ∙ back v j))
      by (After l) = let u : false ≡ true = sym (within-after v (length found) i (subst (λ m. v + m ≤ i) (sym as-many) l)) ∙ h in cc

  rest-same : (rest : Row_of-Expr 0) → renamed_in (λ i. i - w) (renamed_in to rest) ≡ renamed_in own (renamed_in (λ i. i - v) rest)
  rest-same end_of-Expr = refl

  mutual
    guard-same : (e : Expr) → is_inside v (length found) e ≡ true → renamed (λ i. i - w) (renamed to e) ≡ renamed own (renamed (λ i. i - v) e)
    guard-same (expr.Column place) h = ap expr.Column (moved place h)
    guard-same (expr.Literal u) h = refl
    guard-same (expr.Arith' step p left q right) h = let b = both_true (inside_in v (length found) left) (inside_in v (length found) right) h in λ t. expr.Arith' step p (in-same left b.0 t) q (in-same right b.1 t)
    guard-same (expr.Compare' test p left q right) h = let b = both_true (inside_in v (length found) left) (inside_in v (length found) right) h in λ t. expr.Compare' test p (in-same left b.0 t) q (in-same right b.1 t)
    guard-same (expr.And' p left q right) h = let b = both_true (inside_in v (length found) left) (inside_in v (length found) right) h in λ t. expr.And' p (in-same left b.0 t) q (in-same right b.1 t)
    guard-same (expr.Or' p left q right) h = let b = both_true (inside_in v (length found) left) (inside_in v (length found) right) h in λ t. expr.Or' p (in-same left b.0 t) q (in-same right b.1 t)
    guard-same (expr.Not' p of) h = λ t. expr.Not' p (in-same of h t)
    guard-same (expr.IsNull' p of) h = λ t. expr.IsNull' p (in-same of h t)

    in-same : (of : Row_of-Expr 1) → inside_in v (length found) of ≡ true → renamed_in (λ i. i - w) (renamed_in to of) ≡ renamed_in own (renamed_in (λ i. i - v) of)
    in-same (more_of-Expr e rest) h = λ t. more_of-Expr (guard-same e h t) (rest-same rest t)

  kept-taken : (es : List Expr) → map (renamed (λ i. i - w)) (filter (is_guard kinds w) (map (renamed to) es)) ≡ map (renamed own) (map (renamed (λ i. i - v)) (filter (is_guard found v) es))
  kept-taken [] = refl
  kept-taken (e ∷ es) =
      ap (λ b. map (renamed (λ i. i - w)) (cond b (renamed to e ∷ filter (is_guard kinds w) (map (renamed to) es)) (filter (is_guard kinds w) (map (renamed to) es)))) (guard-taken e)
      ∙ by (is_guard found v e) refl (kept-taken es)
    where
      by : (b : Bool) → is_guard found v e ≡ b → map (renamed (λ i. i - w)) (filter (is_guard kinds w) (map (renamed to) es)) ≡ map (renamed own) (map (renamed (λ i. i - v)) (filter (is_guard found v) es))
          → map (renamed (λ i. i - w)) (cond b (renamed to e ∷ filter (is_guard kinds w) (map (renamed to) es)) (filter (is_guard kinds w) (map (renamed to) es)))
          ≡ map (renamed own) (map (renamed (λ i. i - v)) (cond b (e ∷ filter (is_guard found v) es) (filter (is_guard found v) es)))
      by true h rest = λ t. guard-same e (both_true (has_column e) _ h).1 t ∷ rest t
      by false h rest = rest

  guards-taken : (conds : List Expr) → guards_of kinds w (map (renamed to) conds) ≡ map (renamed own) (guards_of found v conds)
  guards-taken conds = ap (λ es. map (renamed (λ i. i - w)) (filter (is_guard kinds w) es)) (all-renamed to conds) ∙ kept-taken (flat_map members conds)

  filter-taken : (es : List Expr) → filter (is_guard kinds w) (map (renamed to) es) ≡ map (renamed to) (filter (is_guard found v) es)
  filter-taken [] = refl
  filter-taken (e ∷ es) = ap (λ b. cond b (renamed to e ∷ filter (is_guard kinds w) (map (renamed to) es)) (filter (is_guard kinds w) (map (renamed to) es))) (guard-taken e) ∙ by (is_guard found v e) (filter-taken es)
    where
      by : (b : Bool) → filter (is_guard kinds w) (map (renamed to) es) ≡ map (renamed to) (filter (is_guard found v) es)
          → cond b (renamed to e ∷ filter (is_guard kinds w) (map (renamed to) es)) (filter (is_guard kinds w) (map (renamed to) es)) ≡ map (renamed to) (cond b (e ∷ filter (is_guard found v) es) (filter (is_guard found v) es))
      by true rest = ap (λ l. renamed to e ∷ l) rest
      by false rest = rest

-- places in lists that are joined
pub place-first : (columns more : List ℕ) (n m j : ℕ) → j < length columns → place_from (columns ++ more) m j ≡ place_from columns n j
place-first [] more n m j h = absurd (omega arith)
place-first (c ∷ columns) more n m zero h = refl
place-first (c ∷ columns) more n m (suc j) h = place-first columns more n m j (omega arith)

pub place-further : (columns : List ℕ) (n m j : ℕ) → place_from (further n columns) (n + m) j ≡ n + place_from columns m j
place-further [] n m j = refl
place-further (c ∷ columns) n m zero = refl
place-further (c ∷ columns) n m (suc j) = place-further columns n m j

pub place-second : (columns more : List ℕ) (m j : ℕ) → place_from (columns ++ more) m (length columns + j) ≡ place_from more m j
place-second [] more m j = ap (place_from more m) (zero_add j)
  where
    zero_add : (j : ℕ) → 0 + j ≡ j
    zero_add j = omega arith
place-second (c ∷ columns) more m j = ap (place_from (c ∷ columns ++ more) m) (suc_add (length columns) j) ∙ place-second columns more m j
  where
    suc_add : (n j : ℕ) → suc n + j ≡ suc (n + j)
    suc_add n j = omega arith

place-behind : (n j : ℕ) → n ≤ place_from [] n j
place-behind n j = omega arith

-- the sources of the query, from one on: those before it have v columns that are taken, of w
module _ (kinds found : ℕ → List Kind) (ts : List Taken) (to : ℕ → ℕ) (conds : List Expr) where
  abbrev tables : List ℕ → List ℕ
  tables vs = map (λ v. (taken_at ts v).table) vs

  record Rest (v w : ℕ) (vs : List ℕ) : Type 0 where
    further_on : (j : ℕ) → to (v + j) ≡ w + place_from (places kinds (map (taken_at ts) vs)) (columns_in kinds (tables vs)) j
    low : (i : ℕ) → i < v → to i < w

  module _ (v w s : ℕ) (vs : List ℕ) (rest : Rest v w (s ∷ vs)) (taken : keys_kinds (kinds (taken_at ts s).table) (taken_at ts s).columns ≡ Some (found s)) (there : all_below (length (kinds (taken_at ts s).table)) (taken_at ts s).columns ≡ true) where
    abbrev n : ℕ
    n = length (kinds (taken_at ts s).table)

    abbrev columns : List ℕ
    columns = (taken_at ts s).columns

    abbrev others : List ℕ
    others = places kinds (map (taken_at ts) vs)

    abbrev m : ℕ
    m = columns_in kinds (tables vs)

    all-columns : columns_in kinds (tables (s ∷ vs)) ≡ n + m
    all-columns = length-append (kinds (taken_at ts s).table) (flat_map kinds (tables vs))

    to-first : (j : ℕ) → j < length columns → to (v + j) ≡ w + place_from columns n j
    to-first j h = rest.further_on j ∙ ap (λ p. w + p) (place-first columns (further n others) n (columns_in kinds (tables (s ∷ vs))) j h)

    to-next : (j : ℕ) → to (v + (length columns + j)) ≡ w + (n + place_from others m j)
    to-next j = rest.further_on (length columns + j) ∙ ap (λ p. w + p) (place-second columns (further n others) (columns_in kinds (tables (s ∷ vs))) j ∙ ap (λ c. place_from (further n others) c j) all-columns ∙ place-further others n m j)

    first-lands : Lands to v w columns n
    first-lands = record { inside = to-first; low = rest.low; high = λ i h. high i h }
      where
        high : (i : ℕ) → v + length columns ≤ i → w + n ≤ to i
        high i h =
            let e : v + (length columns + (i - (v + length columns))) ≡ i = omega (arith, h) in
            let t : to i ≡ w + (n + place_from others m (i - (v + length columns))) = ap to (sym e) ∙ to-next (i - (v + length columns)) in
            omega (arith, t)

    many : length (found s) ≡ length columns
    many = length-every (slice_get (kinds (taken_at ts s).table)) columns (found s) taken

    next-rest : Rest (v + length (found s)) (w + n) vs
    next-rest = record { further_on = λ j. on j; low = λ i h. low i (stands v (length columns) i) h }
      where
        on : (j : ℕ) → to (v + length (found s) + j) ≡ w + n + place_from others m j
        on j =
            let c = many in
            let e : v + length (found s) + j ≡ v + (length columns + j) = omega (arith, c) in
            let t : to (v + (length columns + j)) ≡ w + (n + place_from others m j) = to-next j in
            let u : to (v + length (found s) + j) ≡ to (v + (length columns + j)) = ap to e in
            omega (arith, t, u)

        low : (i : ℕ) → Stands v (length columns) i → i < v + length (found s) → to i < w + n
        low i (Before l) h = let t = rest.low i l in omega (arith, t)
        low i (Inside j l e) h = let t : to i ≡ w + place_from columns n j = ap to e ∙ to-first j l in let b = place-below columns n j there l in omega (arith, t, b)
        low i (After l) h = let c = many in absurd (omega (arith, c, l, h))

  with-taken : (v w : ℕ) (vs : List ℕ) → Rest v w vs → HaveKinds kinds found ts vs → are_there kinds (map (taken_at ts) vs) ≡ true
      → with_guards kinds (map (renamed to) conds) w (tables vs) ≡ map (full_source kinds ts) (with_guards found conds v vs)
  with-taken v w [] rest have there = refl
  with-taken v w (s ∷ vs) rest have there =
      let b : (all_below (length (kinds (taken_at ts s).table)) (taken_at ts s).columns ≡ true) × (are_there kinds (map (taken_at ts) vs) ≡ true) = both_true (all_below (length (kinds (taken_at ts s).table)) (taken_at ts s).columns) _ there in
      λ i. (record { table = (taken_at ts s).table; tests = guards-taken (kinds (taken_at ts s).table) (found s) (taken_at ts s).columns have.0 to v w (first-lands v w s vs rest have.0 b.0) conds i })
      ∷ with-taken (v + length (found s)) (w + length (kinds (taken_at ts s).table)) vs (next-rest v w s vs rest have.0 b.0) have.1 b.1 i

-- the Scans of an operator
same-kind : (a b : Kind) → same_kind a b ≡ true → a ≡ b
same-kind kind.Bool kind.Bool h = refl
same-kind kind.Bool kind.Int h = cc
same-kind kind.Bool kind.Text h = cc
same-kind kind.Int kind.Bool h = cc
same-kind kind.Int kind.Int h = refl
same-kind kind.Int kind.Text h = cc
same-kind kind.Text kind.Bool h = cc
same-kind kind.Text kind.Int h = cc
same-kind kind.Text kind.Text h = refl

pub same-lists : (xs ys : List Kind) → same_kinds xs ys ≡ true → xs ≡ ys
same-lists [] [] h = refl
same-lists [] (y ∷ ys) h = cc
same-lists (x ∷ xs) [] h = cc
same-lists (x ∷ xs) (y ∷ ys) h =
    let b : (same_kind x y ≡ true) × (same_kinds xs ys ≡ true) = both_true (same_kind x y) (same_kinds xs ys) h in
    λ i. same-kind x y b.0 i ∷ same-lists xs ys b.1 i

abbrev listed : Option Expr → List Expr
listed None = []
listed (Some c) = c ∷ []

map-append-scans : (f : Guarded → Guarded) (xs ys : List Guarded) → map f (xs ++ ys) ≡ map f xs ++ map f ys
map-append-scans f [] ys = refl
map-append-scans f (x ∷ xs) ys = ap (λ l. f x ∷ l) (map-append-scans f xs ys)

guarded-filter : (a : List Expr) (c : Expr) (x : Op) → guarded_scans a (op.Filter c x) ≡ guarded_scans (c ∷ []) x
unfolding hidden-the_row-Op-0 hidden
guarded-filter a c x = refl

guarded-receive : (a : List Expr) (above : Option Expr) (slice : ℕ) (ks : List Kind) → guarded_scans a (under above (op.Receive slice ks)) ≡ []
unfolding hidden-the_row-Op-0 hidden
guarded-receive a None slice ks = refl
guarded-receive a (Some c) slice ks = refl

guarded-project : (a : List Expr) (above : Option Expr) (items : List Expr) (x : Op) → guarded_scans a (under above (op.Project items x)) ≡ guarded_scans [] x
unfolding hidden-the_row-Op-0 hidden
guarded-project a None items x = refl
guarded-project a (Some c) items x = refl

guarded-join : (a : List Expr) (above : Option Expr) (lk rk : List ℕ) (x y : Op) → guarded_scans a (under above (op.Join lk rk x y)) ≡ guarded_scans [] x ++ guarded_scans [] y
unfolding hidden-the_row-Op-0 hidden
guarded-join a None lk rk x y = refl
guarded-join a (Some c) lk rk x y = refl

guarded-partial : (a : List Expr) (above : Option Expr) (keys : List ℕ) (aggs : List Aggregate) (x : Op) → guarded_scans a (under above (op.Partial keys aggs x)) ≡ guarded_scans [] x
unfolding hidden-the_row-Op-0 hidden
guarded-partial a None keys aggs x = refl
guarded-partial a (Some c) keys aggs x = refl

guarded-final : (a : List Expr) (above : Option Expr) (n : ℕ) (aggs : List Aggregate) (x : Op) → guarded_scans a (under above (op.Final n aggs x)) ≡ guarded_scans [] x
unfolding hidden-the_row-Op-0 hidden
guarded-final a None n aggs x = refl
guarded-final a (Some c) n aggs x = refl

guarded-distinct : (a : List Expr) (above : Option Expr) (x : Op) → guarded_scans a (under above (op.Distinct x)) ≡ guarded_scans [] x
unfolding hidden-the_row-Op-0 hidden
guarded-distinct a None x = refl
guarded-distinct a (Some c) x = refl

guarded-sort : (a : List Expr) (above : Option Expr) (order : List SortKey) (limit : Option ℕ) (x : Op) → guarded_scans a (under above (op.Sort order limit x)) ≡ guarded_scans [] x
unfolding hidden-the_row-Op-0 hidden
guarded-sort a None order limit x = refl
guarded-sort a (Some c) order limit x = refl

-- a Scan of the columns that are taken, as one of the table
abbrev full_guarded : (ℕ → List Kind) → List Taken → Guarded → Guarded
full_guarded kinds ts g = record { table = (taken_at ts g.table).table; kinds = kinds (taken_at ts g.table).table; guards = map (full kinds (taken_at ts g.table)) g.guards }

module _ (kinds : ℕ → List Kind) (ts : List Taken) where
  own-lands : (columns : List ℕ) (n : ℕ) → Lands (place_from columns n) 0 0 columns n
  own-lands columns n = record { inside = λ j h. inside columns j; low = λ i h. absurd (omega (arith, h)); high = λ i h. high columns i h }
    where
      inside : (columns : List ℕ) (j : ℕ) → place_from columns n (0 + j) ≡ 0 + place_from columns n j
      inside columns j = ap (place_from columns n) (zero_add j) ∙ sym (zero_add (place_from columns n j))
        where
          zero_add : (j : ℕ) → 0 + j ≡ j
          zero_add j = omega arith

      high : (columns : List ℕ) (i : ℕ) → 0 + length columns ≤ i → 0 + n ≤ place_from columns n i
      high [] i h = omega arith
      high (c ∷ columns) zero h = absurd (omega arith)
      high (c ∷ columns) (suc i) h = high columns i (omega arith)

  -- what stands above a Filter does not matter to a Scan under it
  abbrev IsFree : Option Expr → List Expr → Type 0
  IsFree None a = a ≡ []
  IsFree (Some c) a = Unit {0}

  columns-guarded : (b : Bool) (a : List Expr) (items : List Expr) (x : Op) → guarded_scans a x ≡ guarded_scans [] x → guarded_scans a (cond b x (op.Project items x)) ≡ guarded_scans [] x
  unfolding hidden-the_row-Op-0 hidden
  columns-guarded true a items x steady = steady
  columns-guarded false a items x steady = refl

  scan-guarded : (v : ℕ) (found : List Kind) (above : Option Expr) → scan_fits kinds ts (op.Scan v found) ≡ true → (a : List Expr) → IsFree above a
      → guarded_scans a (taken_op kinds (taken_at ts v) above) ≡ map (full_guarded kinds ts) (guarded_scans (listed above) (op.Scan v found))
  unfolding hidden-the_row-Op-0 hidden
  scan-guarded v found None fits a free =
      columns-guarded (are_all_from 0 (length (kinds (taken_at ts v).table)) (taken_at ts v).columns) a (map expr.Column (taken_at ts v).columns) (op.Scan (taken_at ts v).table (kinds (taken_at ts v).table))
      (ap (λ (l : List Expr). guarded_scans l (op.Scan (taken_at ts v).table (kinds (taken_at ts v).table))) free)
  scan-guarded v found (Some c) fits a free =
      columns-guarded (are_all_from 0 (length (kinds (taken_at ts v).table)) (taken_at ts v).columns) a (map expr.Column (taken_at ts v).columns) (op.Filter (full kinds (taken_at ts v) c) (op.Scan (taken_at ts v).table (kinds (taken_at ts v).table))) refl
      ∙ ap (λ (l : List Expr). (record { table = (taken_at ts v).table; kinds = kinds (taken_at ts v).table; guards = l }) ∷ []) guards
    where
      t : Taken
      t = taken_at ts v

      found-kinds : (o : Option (List Kind)) → keys_kinds (kinds (taken_at ts v).table) (taken_at ts v).columns ≡ o → are_kinds found o ≡ true → keys_kinds (kinds (taken_at ts v).table) (taken_at ts v).columns ≡ Some found
      found-kinds None e h = cc
      found-kinds (Some ks) e h = e ∙ ap Some (sym (same-lists found ks h))

      taken : keys_kinds (kinds (taken_at ts v).table) (taken_at ts v).columns ≡ Some found
      taken = found-kinds (keys_kinds (kinds (taken_at ts v).table) (taken_at ts v).columns) refl (both_true (is_short (kinds (taken_at ts v).table)) _ fits).1

      guards : filter (is_guard (kinds (taken_at ts v).table) 0) (flat_map members (full kinds (taken_at ts v) c ∷ [])) ≡ map (full kinds (taken_at ts v)) (filter (is_guard found 0) (flat_map members (c ∷ [])))
      guards =
          ap (filter (is_guard (kinds (taken_at ts v).table) 0)) (all-renamed (place_from (taken_at ts v).columns (length (kinds (taken_at ts v).table))) (c ∷ []))
          ∙ filter-taken (kinds (taken_at ts v).table) found (taken_at ts v).columns taken (place_from (taken_at ts v).columns (length (kinds (taken_at ts v).table))) 0 0 (own-lands (taken_at ts v).columns (length (kinds (taken_at ts v).table))) (flat_map members (c ∷ []))

  mutual
    widened-guarded : (o : Op) → scans_fit kinds ts o ≡ true → (above : Option Expr) (a : List Expr) → IsFree above a → guarded_scans a (widened kinds ts above o) ≡ map (full_guarded kinds ts) (guarded_scans (listed above) o)
    widened-guarded (op.Scan v found) fits above a free = scan-guarded v found above (both_true (scan_fits kinds ts (op.Scan v found)) true fits).0 a free
    widened-guarded (op.Receive slice found) fits above a free = guarded-receive a above slice found
    widened-guarded (op.Filter' c p input) fits None a free = in-guarded input fits (Some c) a tt
    widened-guarded (op.Filter' c p input) fits (Some d) a free = guarded-filter a d (widened_in kinds ts (Some c) input) ∙ in-guarded input fits (Some c) (d ∷ []) tt
    widened-guarded (op.Project' items p input) fits above a free = guarded-project a above items (widened_in kinds ts None input) ∙ in-guarded input fits None [] refl
    widened-guarded (op.Join' lk rk p left q right) fits above a free =
        let b : (list_all (scan_fits kinds ts) (operators_in left) ≡ true) × (list_all (scan_fits kinds ts) (operators_in right) ≡ true) =
        both_true _ _ (sym (list_all-append (scan_fits kinds ts) (operators_in left) (operators_in right)) ∙ fits) in
        guarded-join a above lk rk (widened_in kinds ts None left) (widened_in kinds ts None right) ∙ (λ i. in-guarded left b.0 None [] refl i ++ in-guarded right b.1 None [] refl i)
        ∙ sym (map-append-scans (full_guarded kinds ts) (guarded_in [] left) (guarded_in [] right))
    widened-guarded (op.Partial' keys aggs p input) fits above a free = guarded-partial a above keys aggs (widened_in kinds ts None input) ∙ in-guarded input fits None [] refl
    widened-guarded (op.Final' n aggs p input) fits above a free = guarded-final a above n aggs (widened_in kinds ts None input) ∙ in-guarded input fits None [] refl
    widened-guarded (op.Distinct' p input) fits above a free = guarded-distinct a above (widened_in kinds ts None input) ∙ in-guarded input fits None [] refl
    widened-guarded (op.Sort' order limit p input) fits above a free = guarded-sort a above order limit (widened_in kinds ts None input) ∙ in-guarded input fits None [] refl

    in-guarded : (input : Row_of-Op 1) → list_all (scan_fits kinds ts) (operators_in input) ≡ true → (above : Option Expr) (a : List Expr) → IsFree above a → guarded_scans a (widened_in kinds ts above input) ≡ map (full_guarded kinds ts) (guarded_in (listed above) input)
    in-guarded (more_of-Op child rest) fits above a free = widened-guarded child fits above a free

  all-guarded : (slices : List Slice) → list_all (λ (s : Slice). scans_fit kinds ts s.root) slices ≡ true → all_guarded (map (widened_slice kinds ts) slices) ≡ map (full_guarded kinds ts) (all_guarded slices)
  all-guarded [] fits = refl
  all-guarded (s ∷ slices) fits =
      let b : (scans_fit kinds ts s.root ≡ true) × (list_all (λ (s : Slice). scans_fit kinds ts s.root) slices ≡ true) = both_true (scans_fit kinds ts s.root) _ fits in
      (λ i. widened-guarded s.root b.0 None [] refl i ++ all-guarded slices b.1 i) ∙ sym (map-append-scans (full_guarded kinds ts) (guarded_scans [] s.root) (all_guarded slices))

pub map-map-tables : (ts : List Taken) (vs : List ℕ) → map (λ (t : Taken). t.table) (map (taken_at ts) vs) ≡ map (λ v. (taken_at ts v).table) vs
map-map-tables ts [] = refl
map-map-tables ts (v ∷ vs) = ap (λ l. (taken_at ts v).table ∷ l) (map-map-tables ts vs)

full-guarded : (kinds found : ℕ → List Kind) (ts : List Taken) (ss : List Source) → map (full_guarded kinds ts) (map (guarded found) ss) ≡ map (guarded kinds) (map (full_source kinds ts) ss)
full-guarded kinds found ts [] = refl
full-guarded kinds found ts (s ∷ ss) = ap (λ l. guarded kinds (full_source kinds ts s) ∷ l) (full-guarded kinds found ts ss)

pub scans-guarded : (kinds found : ℕ → List Kind) (q r : Query) (ts : List Taken) (plan : Plan) → q.sources ≡ map (λ (t : Taken). t.table) ts → map (taken_at ts) r.sources ≡ ts → IsTrue (are_there kinds ts)
    → HaveKinds kinds found ts r.sources → AreTurned (place_from (places kinds ts) (columns_in kinds q.sources)) r q → IsTrue (list_all (λ (s : Slice). scans_fit kinds ts s.root) plan.slices)
    → AreGuarded found plan.slices (with_guards found r.conds 0 r.sources) → AreGuarded kinds (widened_plan kinds ts plan).slices (with_guards kinds q.conds 0 q.sources)
scans-guarded kinds found q r ts plan from to there have turn fits guards p =
    ap (count_by p) (all-guarded kinds ts plan.slices fits)
    ∙ count-map p (full_guarded kinds ts) (all_guarded plan.slices)
    ∙ guards (λ g. p (full_guarded kinds ts g))
    ∙ sym (count-map p (full_guarded kinds ts) (map (guarded found) (with_guards found r.conds 0 r.sources)))
    ∙ ap (count_by p) (full-guarded kinds found ts (with_guards found r.conds 0 r.sources) ∙ ap (map (guarded kinds)) (sym same))
  where
    place : ℕ → ℕ
    place = place_from (places kinds ts) (columns_in kinds q.sources)

    sources : q.sources ≡ map (λ v. (taken_at ts v).table) r.sources
    sources = from ∙ ap (map (λ (t : Taken). t.table)) (sym to) ∙ map-map-tables ts r.sources

    zero_add : (j : ℕ) → 0 + j ≡ j
    zero_add j = omega arith

    rest : Rest kinds found ts place r.conds 0 0 r.sources
    rest = record {
      further_on = λ j. ap place (zero_add j) ∙ (λ i. place_from (places kinds (sym to i)) (columns_in kinds (sources i)) j) ∙ sym (zero_add _);
      low = λ i h. absurd (omega (arith, h));
    }

    same : with_guards kinds q.conds 0 q.sources ≡ map (full_source kinds ts) (with_guards found r.conds 0 r.sources)
    same = (λ i. with_guards kinds (turn.conds i) 0 (sources i)) ∙ with-taken kinds found ts place r.conds 0 0 r.sources rest have (ap (are_there kinds) to ∙ there)
