-- A query means the same with its sources in another order and its columns renamed.
use Rattle.std.proofs.Common.{◌≡◌, ℕ, zero, suc, ◌+◌, ◌-◌, ◌<◌, ◌≤◌, nat_lt, Bool, true, false, cond, ◌&&◌, ◌||◌, List, [], ◌∷◌, ◌++◌, length, map, filter, flat_map, refl, sym, ◌∙◌, ap, subst, arith, length-append}
use Rattle.std.specs.List.{list_any, list_all, range_with_len, AllByRecursion}
use Rattle.std.proofs.lemmas.List.{map-append, length-map}
use Rattle.hq_value.specs.declared.value.Value.{Value}
use Rattle.hq_value.specs.declared.kind.Kind.{Kind}
use Rattle.hq_value.specs.Sorting.{times}
use Rattle.hq_value.specs.Order.{row_cmp, SameBag}
use Rattle.hq_value.proofs.Sorting.{times-append}
use Rattle.hq_algebra.specs.declared.expr.Expr.{Expr, Row_of-Expr, end_of-Expr, more_of-Expr}
use Rattle.hq_algebra.specs.declared.expr.Expr.TheVariants as expr
use Rattle.hq_algebra.specs.declared.aggregate.Aggregate.{Aggregate}
use Rattle.hq_algebra.specs.declared.aggregate.Aggregate.TheVariants as agg
use Rattle.hq_algebra.specs.declared.query.Query.{Query}
use Rattle.hq_algebra.specs.Rules.{is_empty}
use Rattle.hq_algebra.specs.Steps.{arith_of, compare_of, and_of, or_of, not_of, is_null_of}
use Rattle.hq_algebra.specs.Outcome.{Is, of_one, of_two, of_two_values}
use Rattle.hq_algebra.specs.Eval.{eval, only, column, or_null, is_fault, is_true, value_at, faults_at, is_true_at}
use Rattle.hq_meaning.specs.Rows.{Row, pairs, kept, listed, faults_in, firsts, same_row, ordered, limited}
use Rattle.hq_meaning.specs.Aggregates.{added, one_for, together, over, exact, aggregate_of, leaves_64, argument_faults, arguments_fault}
use Rattle.hq_meaning.specs.Groups.{key_of, keys_found, group_keys, members, group_row, grouped, some_leaves_64}
use Rattle.hq_meaning.specs.Mean.{Database, product, item_rows, finished, faults, answer_of, mean}
use Rattle.hq_meaning.specs.Plans.{Parts, all_rows}
use Rattle.hq_meaning.proofs.Bags.{SameBag-trans, SameBag-equal, SameBag-filter}
use Rattle.hq_meaning.proofs.MeanLaw.{finished-SameBag, faults-SameBag}
use Rattle.hq_laws.specs.Turned.{turned, renamed, renamed_in, renamed_aggregate, AreTurned, columns_in, FitTables}
use Rattle.hq_laws.specs.Spread.{FitKinds}
use Rattle.hq_laws.proofs.Lists.{AllByRecursion-All, All-from, both_true}
use Rattle.hq_laws.proofs.Products.{one-pairs, pairs-assoc, join-pairs, filter-all}
use Rattle.hq_laws.proofs.Regroup.{flat_map-nil}
use Rattle.hq_laws.proofs.Chains.{IsWide, AllByRecursion-flat_map, joined-wide}
use Rattle.hq_laws.proofs.Equating.{column-left, column-right}

map-cong : {A B : Type 0} (f g : A → B) → ((x : A) → f x ≡ g x) → (xs : List A) → map f xs ≡ map g xs
map-cong f g same xs = λ i. map (λ x. same x i) xs

any-cong : {A : Type 0} (f g : A → Bool) → ((x : A) → f x ≡ g x) → (xs : List A) → list_any f xs ≡ list_any g xs
any-cong f g same xs = λ i. list_any (λ x. same x i) xs

map-map : {A B C : Type 0} (f : B → C) (g : A → B) (xs : List A) → map f (map g xs) ≡ map (λ x. f (g x)) xs
map-map f g [] = refl
map-map f g (x ∷ xs) = ap (λ l. f (g x) ∷ l) (map-map f g xs)

any-map : {A B : Type 0} (p : B → Bool) (g : A → B) (xs : List A) → list_any p (map g xs) ≡ list_any (λ x. p (g x)) xs
any-map p g [] = refl
any-map p g (x ∷ xs) = ap (λ b. p (g x) || b) (any-map p g xs)

pub all-map : {A B : Type 0} (p : B → Bool) (g : A → B) (xs : List A) → list_all p (map g xs) ≡ list_all (λ x. p (g x)) xs
all-map p g [] = refl
all-map p g (x ∷ xs) = ap (λ b. p (g x) && b) (all-map p g xs)

filter-map : {A B : Type 0} (p : B → Bool) (g : A → B) (xs : List A) → filter p (map g xs) ≡ map g (filter (λ x. p (g x)) xs)
filter-map p g [] = refl
filter-map p g (x ∷ xs) = by (p (g x)) (filter-map p g xs)
  where
    by : (b : Bool) → filter p (map g xs) ≡ map g (filter (λ x. p (g x)) xs) → cond b (g x ∷ filter p (map g xs)) (filter p (map g xs)) ≡ map g (cond b (x ∷ filter (λ x. p (g x)) xs) (filter (λ x. p (g x)) xs))
    by true rest = ap (λ l. g x ∷ l) rest
    by false rest = rest

map-flat_map : {A B C : Type 0} (f : B → C) (g : A → List B) (xs : List A) → map f (flat_map g xs) ≡ flat_map (λ x. map f (g x)) xs
map-flat_map f g [] = refl
map-flat_map f g (x ∷ xs) = map-append f (g x) (flat_map g xs) ∙ ap (λ l. map f (g x) ++ l) (map-flat_map f g xs)

flat_map-map : {A B C : Type 0} (g : B → List C) (f : A → B) (xs : List A) → flat_map g (map f xs) ≡ flat_map (λ x. g (f x)) xs
flat_map-map g f [] = refl
flat_map-map g f (x ∷ xs) = ap (λ l. g (f x) ++ l) (flat_map-map g f xs)

-- Each thing of a list stands for two rows. The columns of one are those of the other, renamed.
module _ {X : Type 0} (f g : X → Row) (to : ℕ → ℕ) (same : (x : X) (i : ℕ) → column (g x) (to i) ≡ column (f x) i) where
  mutual
    eval-renamed : (e : Expr) (x : X) → eval (renamed to e) (g x) ≡ eval e (f x)
    eval-renamed (expr.Column place) x = ap Is (same x place)
    eval-renamed (expr.Literal v) x = refl
    eval-renamed (expr.Arith' step p left q right) x = λ i. of_two (arith_of step) (only-renamed left x i) (only-renamed right x i)
    eval-renamed (expr.Compare' test p left q right) x = λ i. of_two_values (compare_of test) (only-renamed left x i) (only-renamed right x i)
    eval-renamed (expr.And' p left q right) x = λ i. of_two_values and_of (only-renamed left x i) (only-renamed right x i)
    eval-renamed (expr.Or' p left q right) x = λ i. of_two_values or_of (only-renamed left x i) (only-renamed right x i)
    eval-renamed (expr.Not' p of) x = λ i. of_one not_of (only-renamed of x i)
    eval-renamed (expr.IsNull' p of) x = λ i. of_one is_null_of (only-renamed of x i)

    only-renamed : {m : _} (of : Row_of-Expr m) (x : X) → only (renamed_in to of) (g x) ≡ only of (f x)
    only-renamed end_of-Expr x = refl
    only-renamed (more_of-Expr e rest) x = eval-renamed e x

  passes-renamed : (conds : List Expr) (x : X) → list_all (λ e. is_true_at e (g x)) (map (renamed to) conds) ≡ list_all (λ e. is_true_at e (f x)) conds
  passes-renamed conds x = all-map (λ e. is_true_at e (g x)) (renamed to) conds ∙ (λ i. list_all (λ e. is_true (or_null (eval-renamed e x i))) conds)

  -- the things whose rows pass
  abbrev passing : List Expr → List X → List X
  passing conds xs = filter (λ x. list_all (λ e. is_true_at e (f x)) conds) xs

  kept-renamed : (conds : List Expr) (xs : List X) → kept (map (renamed to) conds) (map g xs) ≡ map g (passing conds xs)
  kept-renamed conds xs = filter-map (λ row. list_all (λ e. is_true_at e row) (map (renamed to) conds)) g xs ∙ (λ i. map g (filter (λ x. passes-renamed conds x i) xs))

  kept-plain : (conds : List Expr) (xs : List X) → kept conds (map f xs) ≡ map f (passing conds xs)
  kept-plain conds xs = filter-map (λ row. list_all (λ e. is_true_at e row) conds) f xs

  listed-renamed : (items : List Expr) (xs : List X) → listed (map (renamed to) items) (map g xs) ≡ listed items (map f xs)
  listed-renamed items xs =
      map-map (λ row. map (λ e. value_at e row) (map (renamed to) items)) g xs
      ∙ (λ i. map (λ x. (map-map (λ e. value_at e (g x)) (renamed to) items ∙ (λ j. map (λ e. or_null (eval-renamed e x j)) items)) i) xs)
      ∙ sym (map-map (λ row. map (λ e. value_at e row) items) f xs)

  faults-renamed : (items : List Expr) (xs : List X) → faults_in (map (renamed to) items) (map g xs) ≡ faults_in items (map f xs)
  faults-renamed items xs =
      any-map (λ row. list_any (λ e. faults_at e row) (map (renamed to) items)) g xs
      ∙ (λ i. list_any (λ x. (any-map (λ e. faults_at e (g x)) (renamed to) items ∙ (λ j. list_any (λ e. is_fault (eval-renamed e x j)) items)) i) xs)
      ∙ sym (any-map (λ row. list_any (λ e. faults_at e row) items) f xs)

  -- groups
  key-renamed : (keys : List ℕ) (x : X) → key_of (map to keys) (g x) ≡ key_of keys (f x)
  key-renamed keys x = map-map (column (g x)) to keys ∙ (λ i. map (λ k. same x k i) keys)

  keys-renamed : (keys : List ℕ) (xs : List X) → group_keys (map to keys) (map g xs) ≡ group_keys keys (map f xs)
  keys-renamed keys xs = ap (λ n. keys_found n (key_of (map to keys)) (map g xs)) (length-map keys to) ∙ by (length keys)
    where
      by : (n : ℕ) → keys_found n (key_of (map to keys)) (map g xs) ≡ keys_found n (key_of keys) (map f xs)
      by zero = refl
      by (suc n) = ap firsts (map-map (key_of (map to keys)) g xs ∙ (λ i. map (λ x. key-renamed keys x i) xs) ∙ sym (map-map (key_of keys) f xs))

  added-renamed : (a : Aggregate) (x : X) → added (renamed_aggregate to a) (g x) ≡ added a (f x)
  added-renamed agg.CountAll x = refl
  added-renamed (agg.Count e) x = λ i. one_for (or_null (eval-renamed e x i))
  added-renamed (agg.Sum e) x = λ i. or_null (eval-renamed e x i)
  added-renamed (agg.Min e) x = λ i. or_null (eval-renamed e x i)
  added-renamed (agg.Max e) x = λ i. or_null (eval-renamed e x i)

  over-renamed : (a : Aggregate) (vs : List Value) → over (renamed_aggregate to a) vs ≡ over a vs
  over-renamed a [] = refl
  over-renamed a (v ∷ vs) = by a ∙ ap (together a v) (over-renamed a vs)
    where
      by : (a : Aggregate) → together (renamed_aggregate to a) v (over (renamed_aggregate to a) vs) ≡ together a v (over (renamed_aggregate to a) vs)
      by agg.CountAll = refl
      by (agg.Count e) = refl
      by (agg.Sum e) = refl
      by (agg.Min e) = refl
      by (agg.Max e) = refl

  exact-renamed : (a : Aggregate) (v : Value) → exact (renamed_aggregate to a) v ≡ exact a v
  exact-renamed agg.CountAll v = refl
  exact-renamed (agg.Count e) v = refl
  exact-renamed (agg.Sum e) v = refl
  exact-renamed (agg.Min e) v = refl
  exact-renamed (agg.Max e) v = refl

  leaves-renamed : (a : Aggregate) (v : Value) → leaves_64 (renamed_aggregate to a) v ≡ leaves_64 a v
  leaves-renamed agg.CountAll v = refl
  leaves-renamed (agg.Count e) v = refl
  leaves-renamed (agg.Sum e) v = refl
  leaves-renamed (agg.Min e) v = refl
  leaves-renamed (agg.Max e) v = refl

  argument-renamed : (a : Aggregate) (x : X) → argument_faults (renamed_aggregate to a) (g x) ≡ argument_faults a (f x)
  argument-renamed agg.CountAll x = refl
  argument-renamed (agg.Count e) x = λ i. is_fault (eval-renamed e x i)
  argument-renamed (agg.Sum e) x = λ i. is_fault (eval-renamed e x i)
  argument-renamed (agg.Min e) x = λ i. is_fault (eval-renamed e x i)
  argument-renamed (agg.Max e) x = λ i. is_fault (eval-renamed e x i)

  aggregate-renamed : (a : Aggregate) (xs : List X) → aggregate_of (renamed_aggregate to a) (map g xs) ≡ aggregate_of a (map f xs)
  aggregate-renamed a xs =
      exact-renamed a _ ∙ ap (exact a) (over-renamed a _ ∙ ap (over a) (map-map (added (renamed_aggregate to a)) g xs ∙ (λ i. map (λ x. added-renamed a x i) xs) ∙ sym (map-map (added a) f xs)))

  member-renamed : (a : Aggregate) (keys : List ℕ) (k : Row) (xs : List X) → aggregate_of (renamed_aggregate to a) (members (key_of (map to keys)) k (map g xs)) ≡ aggregate_of a (members (key_of keys) k (map f xs))
  member-renamed a keys k xs =
      ap (aggregate_of (renamed_aggregate to a)) (filter-map (λ row. same_row k (key_of (map to keys) row)) g xs ∙ (λ i. map g (filter (λ x. same_row k (key-renamed keys x i)) xs)))
      ∙ aggregate-renamed a (filter (λ x. same_row k (key_of keys (f x))) xs)
      ∙ ap (aggregate_of a) (sym (filter-map (λ row. same_row k (key_of keys row)) f xs))

  grouped-renamed : (keys : List ℕ) (aggs : List Aggregate) (xs : List X) → grouped (map to keys) (map (renamed_aggregate to) aggs) (map g xs) ≡ grouped keys aggs (map f xs)
  grouped-renamed keys aggs xs =
      ap (map (group_row (map to keys) (map (renamed_aggregate to) aggs) (map g xs))) (keys-renamed keys xs)
      ∙ (λ i. map (λ k. k ++ (map-map (λ a. aggregate_of a (members (key_of (map to keys)) k (map g xs))) (renamed_aggregate to) aggs ∙ (λ j. map (λ a. member-renamed a keys k xs j) aggs)) i) (group_keys keys (map f xs)))

  leave-renamed : (keys : List ℕ) (aggs : List Aggregate) (xs : List X) → some_leaves_64 (map to keys) (map (renamed_aggregate to) aggs) (map g xs) ≡ some_leaves_64 keys aggs (map f xs)
  leave-renamed keys aggs xs =
      ap (list_any (λ k. list_any (λ a. leaves_64 a (aggregate_of a (members (key_of (map to keys)) k (map g xs)))) (map (renamed_aggregate to) aggs))) (keys-renamed keys xs)
      ∙ (λ i. list_any (λ k. (any-map (λ a. leaves_64 a (aggregate_of a (members (key_of (map to keys)) k (map g xs)))) (renamed_aggregate to) aggs
      ∙ (λ j. list_any (λ a. (leaves-renamed a (aggregate_of (renamed_aggregate to a) (members (key_of (map to keys)) k (map g xs))) ∙ ap (leaves_64 a) (member-renamed a keys k xs)) j) aggs)) i) (group_keys keys (map f xs)))

  arguments-renamed : (aggs : List Aggregate) (xs : List X) → arguments_fault (map (renamed_aggregate to) aggs) (map g xs) ≡ arguments_fault aggs (map f xs)
  arguments-renamed aggs xs =
      any-map (λ row. list_any (λ a. argument_faults a row) (map (renamed_aggregate to) aggs)) g xs
      ∙ (λ i. list_any (λ x. (any-map (λ a. argument_faults a (g x)) (renamed_aggregate to) aggs ∙ (λ j. list_any (λ a. argument-renamed a x j) aggs)) i) xs)
      ∙ sym (any-map (λ row. list_any (λ a. argument_faults a row) aggs) f xs)

  -- the steps of two queries
  module _ (q r : Query) (turn : AreTurned to q r) (xs : List X) where
    -- the steps from the select list on depend on its rows alone
    abbrev last_steps : List Row → List Row
    last_steps rows = limited q.limit (ordered q.order (cond q.distinct (firsts rows) rows))

    last-same : (rows : List Row) → limited r.limit (ordered r.order (cond r.distinct (firsts rows) rows)) ≡ last_steps rows
    last-same rows = λ i. limited (turn.limit i) (ordered (turn.order i) (cond (turn.distinct i) (firsts rows) rows))

    no-having : q.grouped ≡ false → q.having ≡ []
    no-having e = empty q.having (both_true (is_empty q.groups && is_empty q.aggregates) (is_empty q.having) (by q.grouped e q.plain))
      where
        by : (b : Bool) → b ≡ false → (b || (is_empty q.groups && is_empty q.aggregates && is_empty q.having)) ≡ true → (is_empty q.groups && is_empty q.aggregates && is_empty q.having) ≡ true
        by true e h = cc
        by false e h = h

        empty : (es : List Expr) → (((is_empty q.groups && is_empty q.aggregates) ≡ true) × (is_empty es ≡ true)) → es ≡ []
        empty [] h = refl
        empty (x ∷ es) h = let u : false ≡ true = h.1 in cc

    rows-when : (b : Bool) → q.grouped ≡ b → item_rows r (map g xs) ≡ item_rows q (map f xs)
    rows-when true e =
        (λ i. listed ((turn.items ∙ ap (λ c. cond c q.items (map (renamed to) q.items)) e) i) (kept (turn.having i) (cond ((turn.grouped ∙ e) i) (grouped (turn.groups i) (turn.aggregates i) (map g xs)) (map g xs))))
        ∙ ap (λ rows. listed q.items (kept q.having rows)) (grouped-renamed q.groups q.aggregates xs)
        ∙ ap (λ c. listed q.items (kept q.having (cond c (grouped q.groups q.aggregates (map f xs)) (map f xs)))) (sym e)
    rows-when false e =
        (λ i. listed ((turn.items ∙ ap (λ c. cond c q.items (map (renamed to) q.items)) e) i) (kept ((turn.having ∙ no-having e) i) (cond ((turn.grouped ∙ e) i) (grouped r.groups r.aggregates (map g xs)) (map g xs))))
        ∙ ap (listed (map (renamed to) q.items)) (filter-all (map g xs))
        ∙ listed-renamed q.items xs
        ∙ ap (listed q.items) (sym (filter-all (map f xs)))
        ∙ (λ i. listed q.items (kept (sym (no-having e) i) (cond (sym e i) (grouped q.groups q.aggregates (map f xs)) (map f xs))))

    faults-when : (b : Bool) → q.grouped ≡ b → faults r (map g xs) ≡ faults q (map f xs)
    faults-when true e =
        (λ i. (cond ((turn.grouped ∙ e) i) (arguments_fault (turn.aggregates i) (map g xs) || some_leaves_64 (turn.groups i) (turn.aggregates i) (map g xs)) false
        || faults_in (turn.having i) (cond ((turn.grouped ∙ e) i) (grouped (turn.groups i) (turn.aggregates i) (map g xs)) (map g xs)))
        || faults_in ((turn.items ∙ ap (λ c. cond c q.items (map (renamed to) q.items)) e) i) (kept (turn.having i) (cond ((turn.grouped ∙ e) i) (grouped (turn.groups i) (turn.aggregates i) (map g xs)) (map g xs))))
        ∙ (λ i. ((arguments-renamed q.aggregates xs i || leave-renamed q.groups q.aggregates xs i) || faults_in q.having (grouped-renamed q.groups q.aggregates xs i)) || faults_in q.items (kept q.having (grouped-renamed q.groups q.aggregates xs i)))
        ∙ (λ i. (cond (sym e i) (arguments_fault q.aggregates (map f xs) || some_leaves_64 q.groups q.aggregates (map f xs)) false
        || faults_in q.having (cond (sym e i) (grouped q.groups q.aggregates (map f xs)) (map f xs)))
        || faults_in q.items (kept q.having (cond (sym e i) (grouped q.groups q.aggregates (map f xs)) (map f xs))))
    faults-when false e =
        (λ i. (cond ((turn.grouped ∙ e) i) (arguments_fault r.aggregates (map g xs) || some_leaves_64 r.groups r.aggregates (map g xs)) false
        || faults_in ((turn.having ∙ no-having e) i) (cond ((turn.grouped ∙ e) i) (grouped r.groups r.aggregates (map g xs)) (map g xs)))
        || faults_in ((turn.items ∙ ap (λ c. cond c q.items (map (renamed to) q.items)) e) i) (kept ((turn.having ∙ no-having e) i) (cond ((turn.grouped ∙ e) i) (grouped r.groups r.aggregates (map g xs)) (map g xs))))
        ∙ (λ i. none (map g xs) i || faults_in (map (renamed to) q.items) (filter-all (map g xs) i))
        ∙ ap (λ b. false || b) (faults-renamed q.items xs)
        ∙ (λ i. sym (none (map f xs)) i || faults_in q.items (sym (filter-all (map f xs)) i))
        ∙ (λ i. (cond (sym e i) (arguments_fault q.aggregates (map f xs) || some_leaves_64 q.groups q.aggregates (map f xs)) false
        || faults_in (sym (no-having e) i) (cond (sym e i) (grouped q.groups q.aggregates (map f xs)) (map f xs)))
        || faults_in q.items (kept (sym (no-having e) i) (cond (sym e i) (grouped q.groups q.aggregates (map f xs)) (map f xs))))
      where
        none : (rows : List Row) → (false || faults_in [] rows) ≡ false
        none [] = refl
        none (row ∷ rows) = none rows

    pub steps-same : answer_of (faults r (map g xs)) (finished r (map g xs)) ≡ answer_of (faults q (map f xs)) (finished q (map f xs))
    steps-same = λ i. answer_of (faults-when q.grouped refl i) ((last-same (item_rows r (map g xs)) ∙ ap last_steps (rows-when q.grouped refl)) i)

  -- queries over rows that the things stand for
  pub answers-same : (q r : Query) → AreTurned to q r → (xs : List X) (left right : List Row) → left ≡ map f xs → SameBag right (map g xs)
      → answer_of (faults r (kept r.conds right)) (finished r (kept r.conds right)) ≡ answer_of (faults q (kept q.conds left)) (finished q (kept q.conds left))
  answers-same q r turn xs left right e bag =
      (let s : SameBag (kept r.conds right) (map g (passing q.conds xs)) = SameBag-trans _ (kept r.conds (map g xs)) _ (SameBag-filter (λ row. list_all (λ e. is_true_at e row) r.conds) _ _ bag) (SameBag-equal _ _ (ap (λ cs. kept cs (map g xs)) turn.conds ∙ kept-renamed q.conds xs)) in
      λ i. answer_of (faults-SameBag r _ _ s i) (finished-SameBag r _ _ s i))
      ∙ steps-same q r turn (passing q.conds xs)
      ∙ ap (λ l. answer_of (faults q l) (finished q l)) (sym (ap (kept q.conds) e ∙ kept-plain q.conds xs))

-- Rows of n columns.
record Wide (n : ℕ) : Type 0 where
  row : Row
  size : length row ≡ n

abbrev packed : (n : ℕ) (xs : List Row) → AllByRecursion (IsWide n) xs → List (Wide n)
packed n [] all = []
packed n (x ∷ xs) all = record { row = x; size = all.0 } ∷ packed n xs all.1

packed-rows : (n : ℕ) (xs : List Row) (all : AllByRecursion (IsWide n) xs) → map (λ (p : Wide n). p.row) (packed n xs all) ≡ xs
packed-rows n [] all = refl
packed-rows n (x ∷ xs) all = ap (λ l. x ∷ l) (packed-rows n xs all.1)

wide-left : {n : ℕ} (p : Wide n) (rest : Row) (i : ℕ) → i < n → column (p.row ++ rest) i ≡ column p.row i
wide-left p rest i h = column-left p.row rest i (subst (λ n. i < n) (sym p.size) h)

wide-right : {n : ℕ} (p : Wide n) (rest : Row) (j : ℕ) → column (p.row ++ rest) (n + j) ≡ column rest j
wide-right p rest j = ap (λ n. column (p.row ++ rest) (n + j)) (sym p.size) ∙ column-right p.row rest j

-- four rows beside each other
record Four (a b c : ℕ) : Type 0 where
  x : Wide a
  y : Wide b
  z : Wide c
  u : Row

module _ (a b c : ℕ) where
  in_order : Four a b c → Row
  in_order t = t.x.row ++ (t.y.row ++ (t.z.row ++ t.u))

  out_of_order : Four a b c → Row
  out_of_order t = t.x.row ++ (t.z.row ++ (t.y.row ++ t.u))

  less : (i n : ℕ) → nat_lt i n ≡ true → i < n
  less i n h = grind arith

  not_less : (i n : ℕ) → nat_lt i n ≡ false → n ≤ i
  not_less i n h = grind arith

  column-turned : (t : Four a b c) (i : ℕ) → column (out_of_order t) (turned a b c i) ≡ column (in_order t) i
  unfolding in_order out_of_order
  column-turned t i = by (nat_lt i a) refl (nat_lt i (a + b)) refl (nat_lt i (a + b + c)) refl
    where
      yu : Row
      yu = t.y.row ++ t.u

      zu : Row
      zu = t.z.row ++ t.u

      second : (j : ℕ) → j < b → column (t.x.row ++ (t.z.row ++ (t.y.row ++ t.u))) (a + (c + j)) ≡ column (t.x.row ++ (t.y.row ++ (t.z.row ++ t.u))) (a + j)
      second j h = wide-right t.x (t.z.row ++ (t.y.row ++ t.u)) (c + j) ∙ wide-right t.z (t.y.row ++ t.u) j ∙ wide-left t.y t.u j h
          ∙ sym (wide-left t.y (t.z.row ++ t.u) j h) ∙ sym (wide-right t.x (t.y.row ++ (t.z.row ++ t.u)) j)

      third : (j : ℕ) → j < c → column (t.x.row ++ (t.z.row ++ (t.y.row ++ t.u))) (a + j) ≡ column (t.x.row ++ (t.y.row ++ (t.z.row ++ t.u))) (a + (b + j))
      third j h = wide-right t.x (t.z.row ++ (t.y.row ++ t.u)) j ∙ wide-left t.z (t.y.row ++ t.u) j h
          ∙ sym (wide-left t.z t.u j h) ∙ sym (wide-right t.y (t.z.row ++ t.u) j) ∙ sym (wide-right t.x (t.y.row ++ (t.z.row ++ t.u)) (b + j))

      fourth : (j : ℕ) → column (t.x.row ++ (t.z.row ++ (t.y.row ++ t.u))) (a + (c + (b + j))) ≡ column (t.x.row ++ (t.y.row ++ (t.z.row ++ t.u))) (a + (b + (c + j)))
      fourth j = wide-right t.x (t.z.row ++ (t.y.row ++ t.u)) (c + (b + j)) ∙ wide-right t.z (t.y.row ++ t.u) (b + j) ∙ wide-right t.y t.u j
          ∙ sym (wide-right t.z t.u j) ∙ sym (wide-right t.y (t.z.row ++ t.u) (c + j)) ∙ sym (wide-right t.x (t.y.row ++ (t.z.row ++ t.u)) (b + (c + j)))

      by : (p : Bool) → nat_lt i a ≡ p → (q : Bool) → nat_lt i (a + b) ≡ q → (r : Bool) → nat_lt i (a + b + c) ≡ r
          → column (t.x.row ++ (t.z.row ++ (t.y.row ++ t.u))) (cond p i (cond q (c + i) (cond r (i - b) i))) ≡ column (t.x.row ++ (t.y.row ++ (t.z.row ++ t.u))) i
      by true e q g r h = wide-left t.x (t.z.row ++ (t.y.row ++ t.u)) i (less i a e) ∙ sym (wide-left t.x (t.y.row ++ (t.z.row ++ t.u)) i (less i a e))
      by false e true g r h =
          let low : a ≤ i = not_less i a e in
          let high : i < a + b = less i (a + b) g in
          let there : c + i ≡ a + (c + (i - a)) = omega (arith, low) in
          let here : a + (i - a) ≡ i = omega (arith, low) in
          ap (column (t.x.row ++ (t.z.row ++ (t.y.row ++ t.u)))) there ∙ second (i - a) (omega (arith, low, high)) ∙ ap (column (t.x.row ++ (t.y.row ++ (t.z.row ++ t.u)))) here
      by false e false g true h =
          let low : a + b ≤ i = not_less i (a + b) g in
          let high : i < a + b + c = less i (a + b + c) h in
          let there : i - b ≡ a + (i - (a + b)) = omega (arith, low) in
          let here : a + (b + (i - (a + b))) ≡ i = omega (arith, low) in
          ap (column (t.x.row ++ (t.z.row ++ (t.y.row ++ t.u)))) there ∙ third (i - (a + b)) (omega (arith, low, high)) ∙ ap (column (t.x.row ++ (t.y.row ++ (t.z.row ++ t.u)))) here
      by false e false g false h =
          let low : a + b + c ≤ i = not_less i (a + b + c) h in
          let there : i ≡ a + (c + (b + (i - (a + b + c)))) = omega (arith, low) in
          let here : a + (b + (c + (i - (a + b + c)))) ≡ i = omega (arith, low) in
          ap (column (t.x.row ++ (t.z.row ++ (t.y.row ++ t.u)))) there ∙ fourth (i - (a + b + c)) ∙ ap (column (t.x.row ++ (t.y.row ++ (t.z.row ++ t.u)))) here

-- products of packed rows
pairs-packed : {n : ℕ} (k : Row → Row) (ps : List (Wide n)) (rows : List Row) → map k (pairs (map (λ (p : Wide n). p.row) ps) rows) ≡ flat_map (λ (p : Wide n). map (λ r. k (p.row ++ r)) rows) ps
pairs-packed {n} k ps rows =
    ap (map k) (flat_map-map (λ l. map (λ r. l ++ r) rows) (λ (p : Wide n). p.row) ps)
    ∙ map-flat_map k (λ (p : Wide n). map (λ r. p.row ++ r) rows) ps
    ∙ (λ i. flat_map (λ (p : Wide n). map-map k (λ r. p.row ++ r) rows i) ps)

bag-each : {A : Type 0} (g k : A → List Row) → ((x : A) → SameBag (g x) (k x)) → (xs : List A) → SameBag (flat_map g xs) (flat_map k xs)
bag-each g k same [] z = refl
bag-each g k same (x ∷ xs) z = times-append row_cmp z (g x) _ ∙ omega (arith, same x z, bag-each g k same xs z) ∙ sym (times-append row_cmp z (k x) _)

bag-both : {A : Type 0} (f g : A → List Row) (xs : List A) (z : Row) → times row_cmp z (flat_map (λ x. f x ++ g x) xs) ≡ times row_cmp z (flat_map f xs) + times row_cmp z (flat_map g xs)
bag-both f g [] z = omega arith
bag-both f g (n ∷ ns) z =
    let a = times-append row_cmp z (f n ++ g n) (flat_map (λ n. f n ++ g n) ns) in
    let b = times-append row_cmp z (f n) (g n) in
    let c = times-append row_cmp z (f n) (flat_map f ns) in
    let d = times-append row_cmp z (g n) (flat_map g ns) in
    omega (arith, a, b, c, d, bag-both f g ns z)

bag-swap : {A B : Type 0} (h : A → B → List Row) (ys : List A) (zs : List B) → SameBag (flat_map (λ z. flat_map (λ y. h y z) ys) zs) (flat_map (λ y. flat_map (λ z. h y z) zs) ys)
bag-swap h [] zs r = ap (times row_cmp r) (flat_map-nil {B = Row} zs)
bag-swap h (y ∷ ys) zs r =
    let a = bag-both (λ z. h y z) (λ z. flat_map (λ y. h y z) ys) zs r in
    let b = times-append row_cmp r (flat_map (λ z. h y z) zs) (flat_map (λ y. flat_map (λ z. h y z) zs) ys) in
    omega (arith, a, b, bag-swap h ys zs r)

module _ (a b c : ℕ) (xs : List (Wide a)) (ys : List (Wide b)) (zs : List (Wide c)) (us : List Row) where
  fours : List (Four a b c)
  fours = flat_map (λ x. flat_map (λ y. flat_map (λ z. map (λ u. record { x = x; y = y; z = z; u = u }) us) zs) ys) xs

  map-fours : (h : Four a b c → Row) → map h fours ≡ flat_map (λ x. flat_map (λ y. flat_map (λ z. map (λ u. h (record { x = x; y = y; z = z; u = u })) us) zs) ys) xs
  unfolding fours
  map-fours h =
      map-flat_map h (λ x. flat_map (λ y. flat_map (λ z. map (λ u. record { x = x; y = y; z = z; u = u }) us) zs) ys) xs
      ∙ (λ i. flat_map (λ x. (map-flat_map h (λ y. flat_map (λ z. map (λ u. record { x = x; y = y; z = z; u = u }) us) zs) ys
      ∙ (λ j. flat_map (λ y. (map-flat_map h (λ z. map (λ u. record { x = x; y = y; z = z; u = u }) us) zs
      ∙ (λ k. flat_map (λ z. map-map h (λ u. record { x = x; y = y; z = z; u = u }) us k) zs)) j) ys)) i) xs)

-- the product of four lists, as it stands
product-four : (a b c : ℕ) (xs : List (Wide a)) (ys : List (Wide b)) (zs : List (Wide c)) (us : List Row)
    → pairs (map (λ (p : Wide a). p.row) xs) (pairs (map (λ (p : Wide b). p.row) ys) (pairs (map (λ (p : Wide c). p.row) zs) us))
    ≡ flat_map (λ x. flat_map (λ y. flat_map (λ z. map (λ u. x.row ++ (y.row ++ (z.row ++ u))) us) zs) ys) xs
product-four a b c xs ys zs us =
    flat_map-map (λ l. map (λ r. l ++ r) (pairs (map (λ (p : Wide b). p.row) ys) (pairs (map (λ (p : Wide c). p.row) zs) us))) (λ (p : Wide a). p.row) xs
    ∙ (λ i. flat_map (λ x. (pairs-packed (λ r. x.row ++ r) ys (pairs (map (λ (p : Wide c). p.row) zs) us)
    ∙ (λ j. flat_map (λ y. pairs-packed (λ r. x.row ++ (y.row ++ r)) zs us j) ys)) i) xs)

module _ (a b c : ℕ) (xs : List (Wide a)) (ys : List (Wide b)) (zs : List (Wide c)) (us : List Row) where
  fours-left : pairs (map (λ (p : Wide a). p.row) xs) (pairs (map (λ (p : Wide b). p.row) ys) (pairs (map (λ (p : Wide c). p.row) zs) us)) ≡ map (in_order a b c) (fours a b c xs ys zs us)
  unfolding in_order
  fours-left = product-four a b c xs ys zs us ∙ sym (map-fours a b c xs ys zs us (in_order a b c))

  fours-right : SameBag (pairs (map (λ (p : Wide a). p.row) xs) (pairs (map (λ (p : Wide c). p.row) zs) (pairs (map (λ (p : Wide b). p.row) ys) us))) (map (out_of_order a b c) (fours a b c xs ys zs us))
  unfolding out_of_order
  fours-right = SameBag-trans _ _ _ (SameBag-equal _ _ (product-four a c b xs zs ys us))
      (SameBag-trans _ _ _ (bag-each _ _ (λ x. bag-swap (λ y z. map (λ u. x.row ++ (z.row ++ (y.row ++ u))) us) ys zs) xs)
      (SameBag-equal _ _ (sym (map-fours a b c xs ys zs us (out_of_order a b c)))))

-- products of sources
product-append : (db : Database) (xs ys : List ℕ) → product (map db (xs ++ ys)) ≡ pairs (product (map db xs)) (product (map db ys))
product-append db [] ys = sym (one-pairs (product (map db ys)))
product-append db (x ∷ xs) ys = ap (pairs (db x)) (product-append db xs ys) ∙ sym (pairs-assoc (db x) (product (map db xs)) (product (map db ys)))

product-wide : (kinds : ℕ → List Kind) (db : Database) → FitTables kinds db → (ts : List ℕ) → AllByRecursion (IsWide (columns_in kinds ts)) (product (map db ts))
product-wide kinds db fit [] = (refl, tt)
product-wide kinds db fit (t ∷ ts) = subst (λ n. AllByRecursion (IsWide n) (pairs (db t) (product (map db ts)))) (sym (length-append (kinds t) (flat_map kinds ts)))
    (subst (AllByRecursion (IsWide (length (kinds t) + columns_in kinds ts))) (join-pairs (db t) (product (map db ts)))
    (joined-wide (length (kinds t)) (columns_in kinds ts) [] [] (db t) (product (map db ts)) (AllByRecursion-All (IsWide (length (kinds t))) (db t) (fit t)) (product-wide kinds db fit ts)))

product-blocks : (db : Database) (ts bs cs ds : List ℕ) → product (map db (ts ++ (bs ++ (cs ++ ds)))) ≡ pairs (product (map db ts)) (pairs (product (map db bs)) (pairs (product (map db cs)) (product (map db ds))))
product-blocks db ts bs cs ds =
    product-append db ts (bs ++ (cs ++ ds))
    ∙ ap (pairs (product (map db ts))) (product-append db bs (cs ++ ds) ∙ ap (pairs (product (map db bs))) (product-append db cs ds))

pub mean-turned : (kinds : ℕ → List Kind) (q r : Query) (before first second after : List ℕ) (db : Database) → q.sources ≡ before ++ (first ++ (second ++ after)) → r.sources ≡ before ++ (second ++ (first ++ after))
    → AreTurned (turned (columns_in kinds before) (columns_in kinds first) (columns_in kinds second)) q r → FitTables kinds db → mean r db ≡ mean q db
mean-turned kinds q r before first second after db from to turn fit =
    answers-same (in_order a b c) (out_of_order a b c) (turned a b c) (column-turned a b c) q r turn (fours a b c xs ys zs us) (product (map db q.sources)) (product (map db r.sources)) left right
  where
    a : ℕ
    a = columns_in kinds before

    b : ℕ
    b = columns_in kinds first

    c : ℕ
    c = columns_in kinds second

    xs : List (Wide a)
    xs = packed a (product (map db before)) (product-wide kinds db fit before)

    ys : List (Wide b)
    ys = packed b (product (map db first)) (product-wide kinds db fit first)

    zs : List (Wide c)
    zs = packed c (product (map db second)) (product-wide kinds db fit second)

    us : List Row
    us = product (map db after)

    left : product (map db q.sources) ≡ map (in_order a b c) (fours a b c xs ys zs us)
    left = ap (λ l. product (map db l)) from ∙ product-blocks db before first second after
        ∙ (λ i. pairs (sym (packed-rows a (product (map db before)) (product-wide kinds db fit before)) i) (pairs (sym (packed-rows b (product (map db first)) (product-wide kinds db fit first)) i) (pairs (sym (packed-rows c (product (map db second)) (product-wide kinds db fit second)) i) us)))
        ∙ fours-left a b c xs ys zs us

    right : SameBag (product (map db r.sources)) (map (out_of_order a b c) (fours a b c xs ys zs us))
    right = SameBag-trans _ _ _ (SameBag-equal _ _ (ap (λ l. product (map db l)) to ∙ product-blocks db before second first after
        ∙ (λ i. pairs (sym (packed-rows a (product (map db before)) (product-wide kinds db fit before)) i) (pairs (sym (packed-rows c (product (map db second)) (product-wide kinds db fit second)) i) (pairs (sym (packed-rows b (product (map db first)) (product-wide kinds db fit first)) i) us)))))
        (fours-right a b c xs ys zs us)

-- the rows of all buckets of a table
pub tables-fit : (kinds : ℕ → List Kind) (parts : Parts) (owner : List ℕ) → FitKinds kinds parts → FitTables kinds (all_rows parts owner)
tables-fit kinds parts owner fit t = All-from (IsWide (length (kinds t))) (all_rows parts owner t) (AllByRecursion-flat_map (IsWide (length (kinds t))) (parts t) (λ b. AllByRecursion-All (IsWide (length (kinds t))) (parts t b) (fit t b)) (range_with_len 0 (length owner)))
