-- What operators give fits their kinds.
use Rattle.std.proofs.Common.{◌≡◌, ℕ, zero, suc, Bool, true, false, ◌&&◌, List, [], ◌∷◌, ◌++◌, map, filter, flat_map, take, drop, length, nat_le, Option, Some, None, slice_get, refl, sym, ◌∙◌, ap, subst, arith}
use Rattle.std.specs.List.{AllByRecursion, list_all}
use Rattle.std.proofs.lemmas.List.{take-append-drop}
use Rattle.hq_value.specs.declared.value.Value.{Value}
use Rattle.hq_value.specs.declared.kind.Kind.{Kind}
use Rattle.hq_value.specs.declared.kind.Kind.TheVariants as kind
use Rattle.hq_algebra.specs.declared.expr.Expr.{Expr}
use Rattle.hq_algebra.specs.declared.aggregate.Aggregate.{Aggregate}
use Rattle.hq_algebra.specs.declared.op.Op.{Op, Row_of-Op, end_of-Op, more_of-Op}
use Rattle.hq_algebra.specs.declared.op.Op.TheVariants as op
use Rattle.hq_algebra.specs.Rules.{are_within}
use Rattle.hq_algebra.specs.Eval.{column, value_at, is_true_at}
use Rattle.hq_algebra.specs.Kinds.{◌>>=◌, every, same_kind, same_kinds, is_of, expr_kind, item_kind, column_kind, some_if, layout}
use Rattle.hq_algebra.specs.Operators.{keys_kinds, items_kinds, values_kinds, tells_its_kind, filter_kinds, join_kinds, partial_kinds, are_finals, final_kinds, sort_kinds, op_kinds, kinds_of_input}
use Rattle.hq_algebra.specs.Plans.{operators_in}
use Rattle.hq_value.specs.Kinds.{IsOfKind, Fits}
use Rattle.hq_meaning.specs.Rows.{Row, order_cmp}
use Rattle.hq_meaning.specs.Aggregates.{added, over}
use Rattle.hq_meaning.specs.Groups.{key_of, keys_found, group_keys, members}
use Rattle.hq_meaning.specs.Operators.{projected, matches, beside, joined, columns_of, partial_row, partial, final_values, final_row, final}
use Rattle.hq_meaning.specs.Slices.{Here, rows_of, input_rows}
use Rattle.hq_fits.specs.Supplied.{AreFit, IsFed, IsSupplied}
use Rattle.hq_fits.proofs.Values.{IsTyped, value-typed, item-typed, column-typed}
use Rattle.hq_fits.proofs.Lists.{fits-append, fits-take, all-filter, all-firsts, all-sorted, all-limited, all-flat_map, all-map}
use Rattle.hq_fits.proofs.Aggregates.{layout-fit, finals-fit}

pub both_true : (a b : Bool) → (a && b) ≡ true → (a ≡ true) × (b ≡ true)
both_true true b h = (refl, h)
both_true false b h = cc

-- what is found of each item
module _ {A : Type 0} (f : A → Option Kind) (g : A → Value) (own : (x : A) (k : Kind) → f x ≡ Some k → IsOfKind k (g x)) where
  pub every-fits : (xs : List A) (ks : List Kind) → every f xs ≡ Some ks → Fits ks (map g xs)
  every-fits [] [] h = tt
  every-fits [] (k ∷ ks) h = cc
  every-fits (x ∷ xs) ks h = by (f x) (every f xs) refl h (λ zs e. every-fits xs zs e)
    where
      by : (o : Option Kind) (p : Option (List Kind)) → f x ≡ o → (o >>= (λ z. p >>= (λ zs. Some (z ∷ zs)))) ≡ Some ks → ((zs : List Kind) → p ≡ Some zs → Fits zs (map g xs)) → Fits ks (g x ∷ map g xs)
      by None p e h rest = cc
      by (Some z) None e h rest = cc
      by (Some z) (Some zs) e h rest = let same : z ∷ zs ≡ ks = cc in subst (λ l. Fits l (g x ∷ map g xs)) same (own x z e, rest zs refl)

key-kind : (kinds : List Kind) (row : Row) → Fits kinds row → (i : ℕ) (k : Kind) → slice_get kinds i ≡ Some k → IsOfKind k (column row i)
key-kind kinds row fit i k h = subst (λ o. IsTyped (column_kind o) (column row i)) h (column-typed kinds row fit i)

key-fits : (kinds : List Kind) (keys : List ℕ) (ks : List Kind) → keys_kinds kinds keys ≡ Some ks → (row : Row) → Fits kinds row → Fits ks (key_of keys row)
key-fits kinds keys ks h row fit = every-fits (slice_get kinds) (column row) (key-kind kinds row fit) keys ks h

pub group-keys-fit : (kinds : List Kind) (keys : List ℕ) (ks : List Kind) → keys_kinds kinds keys ≡ Some ks → (rows : List Row) → AreFit kinds rows → AreFit ks (group_keys keys rows)
group-keys-fit kinds [] [] h rows fit = (tt, tt)
group-keys-fit kinds [] (k ∷ ks) h rows fit = cc
group-keys-fit kinds (key ∷ keys) ks h rows fit = all-firsts (Fits ks) (map (key_of (key ∷ keys)) rows) (all-map (Fits ks) (Fits kinds) (key_of (key ∷ keys)) (key-fits kinds (key ∷ keys) ks h) rows fit)

-- the operators over lists that fit
if-some : (b : Bool) (xs ys : List Kind) → some_if b xs ≡ Some ys → xs ≡ ys
if-some true xs ys h = cc
if-some false xs ys h = cc

projected-fit : (kinds : List Kind) (items : List Expr) (out : List Kind) → items_kinds kinds items ≡ Some out → (rows : List Row) → AreFit kinds rows → AreFit out (projected items rows)
projected-fit kinds items out h rows fit = all-map (Fits out) (Fits kinds) (λ row. map (λ e. value_at e row) items)
    (λ row f. every-fits (λ e. item_kind (expr_kind kinds e)) (λ e. value_at e row) (λ e k g. item-typed (expr_kind kinds e) k (value_at e row) g (value-typed kinds row f e)) items out h) rows fit

joined-fit : (lk rk : List ℕ) (ls rs : List Kind) (left right : List Row) → AreFit ls left → AreFit rs right → AreFit (ls ++ rs) (joined lk rk left right)
joined-fit lk rk ls rs left right a b = all-flat_map (Fits (ls ++ rs)) (beside lk rk right) (Fits ls)
    (λ l f. all-map (Fits (ls ++ rs)) (Fits rs) (λ r. l ++ r) (λ r g. fits-append ls rs l r f g) (filter (matches lk rk l) right) (all-filter (Fits rs) (matches lk rk l) right b)) left a

partial-fit : (kinds : List Kind) (keys : List ℕ) (aggs : List Aggregate) (out : List Kind) → partial_kinds keys aggs kinds ≡ Some out → (rows : List Row) → AreFit kinds rows → AreFit out (partial keys aggs rows)
partial-fit kinds keys aggs out h rows fit = by (keys_kinds kinds keys) (layout kinds aggs) refl refl h
  where
    by : (o p : Option (List Kind)) → keys_kinds kinds keys ≡ o → layout kinds aggs ≡ p → (o >>= (λ ks. p >>= (λ columns. Some (ks ++ columns)))) ≡ Some out → AreFit out (partial keys aggs rows)
    by None p e g h = cc
    by (Some ks) None e g h = cc
    by (Some ks) (Some columns) e g h =
        let same : ks ++ columns ≡ out = cc in
        subst (λ l. AreFit l (partial keys aggs rows)) same
        (all-map (Fits (ks ++ columns)) (Fits ks) (partial_row keys aggs rows)
        (λ k f. fits-append ks columns k (flat_map (λ a. columns_of a (over a (map (added a) (members (key_of keys) k rows)))) aggs) f
        (layout-fit kinds aggs columns g (members (key_of keys) k rows) (all-filter (Fits kinds) _ rows fit)))
        (group_keys keys rows) (group-keys-fit kinds keys ks e rows fit))

pub same-lists : (xs ys : List Kind) → same_kinds xs ys ≡ true → xs ≡ ys
same-lists [] [] h = refl
same-lists [] (y ∷ ys) h = cc
same-lists (x ∷ xs) [] h = cc
same-lists (x ∷ xs) (y ∷ ys) h =
    let b : (same_kind x y ≡ true) × (same_kinds xs ys ≡ true) = both_true (same_kind x y) (same_kinds xs ys) h in
    λ i. one x y b.0 i ∷ same-lists xs ys b.1 i
  where
    one : (j k : Kind) → same_kind j k ≡ true → j ≡ k
    one kind.Bool kind.Bool h = refl
    one kind.Bool kind.Int h = cc
    one kind.Bool kind.Text h = cc
    one kind.Int kind.Bool h = cc
    one kind.Int kind.Int h = refl
    one kind.Int kind.Text h = cc
    one kind.Text kind.Bool h = cc
    one kind.Text kind.Int h = cc
    one kind.Text kind.Text h = refl

final-keys-fit : (kinds : List Kind) (n : ℕ) (rows : List Row) → AreFit kinds rows → AreFit (take n kinds) (keys_found n (take n) rows)
final-keys-fit kinds zero rows fit = (tt, tt)
final-keys-fit kinds (suc n) rows fit = all-firsts (Fits (take (suc n) kinds)) (map (take (suc n)) rows) (all-map (Fits (take (suc n) kinds)) (Fits kinds) (take (suc n)) (λ row f. fits-take (suc n) kinds row f) rows fit)

length-taken : (n : ℕ) (xs : List Kind) → nat_le n (length xs) ≡ true → length (take n xs) ≡ n
length-taken zero xs h = refl
length-taken (suc n) [] h = absurd (none n h)
  where
    none : (n : ℕ) → nat_le (suc n) 0 ≡ true → ⊥
    none n h = grind arith
length-taken (suc n) (x ∷ xs) h = ap suc (length-taken n xs (less n (length xs) h))
  where
    less : (m n : ℕ) → nat_le (suc m) (suc n) ≡ true → nat_le m n ≡ true
    less m n h = grind arith

final-fit : (kinds : List Kind) (n : ℕ) (aggs : List Aggregate) (out : List Kind) → final_kinds n aggs kinds ≡ Some out → (rows : List Row) → AreFit kinds rows → AreFit out (final n aggs rows)
final-fit kinds n aggs out h rows fit = by (values_kinds kinds aggs) (layout kinds aggs) refl refl h
  where
    fitting : (values columns : List Kind) → values_kinds kinds aggs ≡ Some values → layout kinds aggs ≡ Some columns → (b : Bool) → are_finals kinds n aggs columns ≡ b → some_if b (take n kinds ++ values) ≡ Some out → AreFit out (final n aggs rows)
    fitting values columns e g false s h = cc
    fitting values columns e g true s h =
        let same : take n kinds ++ values ≡ out = cc in
        let c : (list_all tells_its_kind aggs ≡ true) × ((nat_le n (length kinds) && same_kinds columns (drop n kinds)) ≡ true) = both_true (list_all tells_its_kind aggs) _ s in
        let d : (nat_le n (length kinds) ≡ true) × (same_kinds columns (drop n kinds) ≡ true) = both_true (nat_le n (length kinds)) _ c.1 in
        let whole : kinds ≡ take n kinds ++ columns = sym (take-append-drop n kinds) ∙ ap (λ l. take n kinds ++ l) (sym (same-lists columns (drop n kinds) d.1)) in
        subst (λ l. AreFit l (final n aggs rows)) same
        (all-map (Fits (take n kinds ++ values)) (Fits (take n kinds)) (final_row n aggs rows)
        (λ k f. fits-append (take n kinds) values k (final_values aggs n (members (take n) k rows)) f
        (subst (λ m. Fits values (final_values aggs m (members (take n) k rows))) (length-taken n kinds d.0)
        (finals-fit kinds aggs values columns (take n kinds) e g whole (members (take n) k rows) (all-filter (Fits kinds) _ rows fit))))
        (keys_found n (take n) rows) (final-keys-fit kinds n rows fit))

    by : (o p : Option (List Kind)) → values_kinds kinds aggs ≡ o → layout kinds aggs ≡ p → (o >>= (λ values. p >>= (λ columns. some_if (are_finals kinds n aggs columns) (take n kinds ++ values)))) ≡ Some out → AreFit out (final n aggs rows)
    by None p e g h = cc
    by (Some values) None e g h = cc
    by (Some values) (Some columns) e g h = fitting values columns e g (are_finals kinds n aggs columns) refl h

joined-kinds : (lk rk : List ℕ) (ls rs kinds : List Kind) → join_kinds lk rk ls rs ≡ Some kinds → ls ++ rs ≡ kinds
joined-kinds lk rk ls rs kinds h = by (keys_kinds ls lk) (keys_kinds rs rk) h
  where
    by : (o p : Option (List Kind)) → (o >>= (λ l. p >>= (λ r. some_if (same_kinds l r) (ls ++ rs)))) ≡ Some kinds → ls ++ rs ≡ kinds
    by None p h = cc
    by (Some l) None h = cc
    by (Some l) (Some r) h = if-some (same_kinds l r) (ls ++ rs) kinds h

-- an input's kinds, and what comes of them
from-input : (o : Option (List Kind)) (f : List Kind → Option (List Kind)) (out : List Kind) → (o >>= f) ≡ Some out → (ks : List Kind) × (o ≡ Some ks) × (f ks ≡ Some out)
from-input None f out h = cc
from-input (Some ks) f out h = (ks, refl, h)

split : (here : Here) (xs ys : List Op) → AllByRecursion (IsFed here) (xs ++ ys) → AllByRecursion (IsFed here) xs × AllByRecursion (IsFed here) ys
split here [] ys a = (tt, a)
split here (x ∷ xs) ys a = let rest : AllByRecursion (IsFed here) xs × AllByRecursion (IsFed here) ys = split here xs ys a.1 in ((a.0, rest.0), rest.1)

module _ (here : Here) where
  mutual
    pub rows-fit : (root : Op) (kinds : List Kind) → op_kinds root ≡ Some kinds → IsSupplied here root → AreFit kinds (rows_of root here)
    rows-fit (op.Scan table ks) kinds h fed = let same : ks ≡ kinds = cc in subst (λ l. AreFit l (here.tables table)) same fed.0
    rows-fit (op.Receive slice ks) kinds h fed = let same : ks ≡ kinds = cc in subst (λ l. AreFit l (here.sent slice)) same fed.0
    rows-fit (op.Filter' c p input) kinds h fed =
        let f : (ks : List Kind) × (kinds_of_input input ≡ Some ks) × (filter_kinds c ks ≡ Some kinds) = from-input (kinds_of_input input) (filter_kinds c) kinds h in
        let same : f.0 ≡ kinds = if-some (is_of kind.Bool (expr_kind f.0 c)) f.0 kinds f.2 in
        all-filter (Fits kinds) (is_true_at c) (input_rows input here) (input-fit input kinds (f.1 ∙ ap Some same) fed.1)
    rows-fit (op.Project' items p input) kinds h fed =
        let f : (ks : List Kind) × (kinds_of_input input ≡ Some ks) × (items_kinds ks items ≡ Some kinds) = from-input (kinds_of_input input) (λ ks. items_kinds ks items) kinds h in
        projected-fit f.0 items kinds f.2 (input_rows input here) (input-fit input f.0 f.1 fed.1)
    rows-fit (op.Join' lk rk p left q right) kinds h fed =
        let f : (ls : List Kind) × (kinds_of_input left ≡ Some ls) × ((kinds_of_input right >>= join_kinds lk rk ls) ≡ Some kinds) = from-input (kinds_of_input left) (λ ls. kinds_of_input right >>= join_kinds lk rk ls) kinds h in
        let g : (rs : List Kind) × (kinds_of_input right ≡ Some rs) × (join_kinds lk rk f.0 rs ≡ Some kinds) = from-input (kinds_of_input right) (join_kinds lk rk f.0) kinds f.2 in
        let a : AllByRecursion (IsFed here) (operators_in left) × AllByRecursion (IsFed here) (operators_in right) = split here (operators_in left) (operators_in right) fed.1 in
        subst (λ l. AreFit l (joined lk rk (input_rows left here) (input_rows right here))) (joined-kinds lk rk f.0 g.0 kinds g.2)
        (joined-fit lk rk f.0 g.0 (input_rows left here) (input_rows right here) (input-fit left f.0 f.1 a.0) (input-fit right g.0 g.1 a.1))
    rows-fit (op.Partial' keys aggs p input) kinds h fed =
        let f : (ks : List Kind) × (kinds_of_input input ≡ Some ks) × (partial_kinds keys aggs ks ≡ Some kinds) = from-input (kinds_of_input input) (partial_kinds keys aggs) kinds h in
        partial-fit f.0 keys aggs kinds f.2 (input_rows input here) (input-fit input f.0 f.1 fed.1)
    rows-fit (op.Final' n aggs p input) kinds h fed =
        let f : (ks : List Kind) × (kinds_of_input input ≡ Some ks) × (final_kinds n aggs ks ≡ Some kinds) = from-input (kinds_of_input input) (final_kinds n aggs) kinds h in
        final-fit f.0 n aggs kinds f.2 (input_rows input here) (input-fit input f.0 f.1 fed.1)
    rows-fit (op.Distinct' p input) kinds h fed = all-firsts (Fits kinds) (input_rows input here) (input-fit input kinds h fed.1)
    rows-fit (op.Sort' order limit p input) kinds h fed =
        let f : (ks : List Kind) × (kinds_of_input input ≡ Some ks) × (sort_kinds order ks ≡ Some kinds) = from-input (kinds_of_input input) (sort_kinds order) kinds h in
        let same : f.0 ≡ kinds = if-some (are_within order (length f.0)) f.0 kinds f.2 in
        all-limited (Fits kinds) limit _ (all-sorted (Fits kinds) (order_cmp order) (input_rows input here) (input-fit input kinds (f.1 ∙ ap Some same) fed.1))

    input-fit : {m : _} (input : Row_of-Op m) (kinds : List Kind) → kinds_of_input input ≡ Some kinds → AllByRecursion (IsFed here) (operators_in input) → AreFit kinds (input_rows input here)
    input-fit end_of-Op kinds h fed = cc
    input-fit (more_of-Op child rest) kinds h fed = rows-fit child kinds h fed
