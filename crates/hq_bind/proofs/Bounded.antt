-- A bound SELECT is a query that has a plan.
use Rattle.std.proofs.Common.{◌≡◌, ℕ, zero, suc, ◌+◌, ◌*◌, ◌<◌, ◌≤◌, ◌==◌, Bool, true, false, not, ◌||◌, ◌&&◌, cond, eqb, nat_eq, nat_le, nat_lt, List, [], ◌∷◌, ◌++◌, length, map, take, slice_get, Option, Some, None, refl, sym, ap, subst, ◌∙◌, append_assoc, length-append, le-leb, lt-ltb, arith}
use Rattle.std.specs.Prelude.{position, unwrap_or, flat_map, is_some, is_none, fold}
use Rattle.std.specs.List.{list_any, list_all, position_or_len, AllByRecursion, IsDistinct}
use Rattle.std.specs.Option.{option_map_or}
use Rattle.std.proofs.lemmas.Bool.{leb-true, ltb-false, ltb-true, eqb-true}
use Rattle.std.proofs.lemmas.List.{length-map, take_all, append-nil, map-append}
use Rattle.std.proofs.lemmas.List.Folds.{list_all-append}
use Rattle.std.proofs.lemmas.Map.Steps.{length-le_from_distinct_below}
use Rattle.hq_value.specs.Tables.{Definition, IsDefinition, same_names}
use Rattle.hq_value.specs.Kinds.{kinds_of}
use Rattle.hq_value.specs.declared.kind.Kind.{Kind}
use Rattle.hq_value.specs.declared.kind.Kind.TheVariants as kind
use Rattle.hq_value.specs.declared.table.Column.{Column}
use Rattle.hq_expr.specs.declared.tree.ColumnRef.{ColumnRef}
use Rattle.hq_expr.specs.declared.tree.SqlExpr.{SqlExpr}
use Rattle.hq_expr.specs.Shape.{weight, is_sum, is_cond, is_condition}
use Rattle.hq_sql.specs.Grammar.{given, counts_one_source}
use Rattle.hq_sql.specs.Fits.{select_fits, item_fits, sources_fit}
use Rattle.hq_sql.specs.declared.tree.Item.{Item}
use Rattle.hq_sql.specs.declared.tree.SourceName.{SourceName}
use Rattle.hq_sql.specs.declared.tree.SelectStatement.{SelectStatement}
use Rattle.hq_sql.specs.declared.tree.OrderKey.{OrderKey}
use Rattle.hq_algebra.specs.declared.expr.Expr.{Expr}
use Rattle.hq_algebra.specs.declared.aggregate.Aggregate.{Aggregate}
use Rattle.hq_algebra.specs.declared.op.SortKey.{SortKey}
use Rattle.hq_algebra.specs.declared.query.Query.{Query}
use Rattle.hq_algebra.specs.declared.kinds.ExprKind.{ExprKind}
use Rattle.hq_algebra.specs.declared.kinds.ExprKind.TheVariants as typed
use Rattle.hq_algebra.specs.Kinds.{◌>>=◌, every, is_of, has_kind, item_kind, expr_kind, aggregate_kind}
use Rattle.hq_algebra.specs.Operators.{keys_kinds, items_kinds, values_kinds}
use Rattle.hq_algebra.specs.Queries.{seen_kinds, are_conditions, query_kinds}
use Rattle.hq_algebra.specs.Bound.{is_table, has_room, has_places, is_bound}
use Rattle.hq_bind.specs.declared.scope.SourceColumn.{SourceColumn}
use Rattle.hq_bind.specs.declared.findings.Findings.{Findings}
use Rattle.hq_bind.specs.declared.bound.Outputs.{Outputs}
use Rattle.hq_bind.specs.Scope.{Name, Defs, table_named, called, column_of, columns_of, source_columns, scope, place_of, fits}
use Rattle.hq_bind.specs.Findings.{findings}
use Rattle.hq_bind.specs.Reading.{read_columns, read_items, read_groups, item_exprs, item_findings, all_findings, has_aggregate, is_grouped, group_places, with_place, is_there}
use Rattle.hq_bind.specs.Faults.{first_of, query_faults, is_no_table, is_wrong, is_no_condition, has_ungrouped}
use Rattle.hq_bind.specs.Bound.{placed, placed_item, over_groups, all_over, all_aggregates, aggregates_in, number_of, sort_key, with_key, is_ordered, order_of, outputs, plain_outputs, grouped_outputs, QueryParts, parts_of, query_parts, bound_query}
use Rattle.hq_bind.specs.Planned.{HasKinds, AreTables}
use Rattle.hq_bind.specs.Ready.{starts_with_columns}
use Rattle.hq_bind.proofs.Faultless.{faultless}
use Rattle.hq_bind.proofs.Ready.{Sound, sound, order_within, items_light, conds_light, over_length}
use Rattle.hq_bind.proofs.OverSources.{both_true}
use Rattle.hq_bind.proofs.Grouped.{or_parts, not_false, few_aggregates}
use Rattle.hq_bind.proofs.Kinded.{kinds_in, of_has, placed_kind, cond_without}
use Rattle.hq_bind.proofs.GroupKinds.{key_kind, agg_kind, seen, has_value, sum_typed, cond_typed, left_part, right_part}

-- ---- the tables of the sources

kinds_source : (name : Name) (columns : List Column) → kinds_in (columns_of name columns) ≡ kinds_of columns
kinds_source name [] = refl
kinds_source name (c ∷ columns) = ap (λ (z : List Kind). c.kind ∷ z) (kinds_source name columns)

table_has : (kinds : ℕ → List Kind) (defs : Defs) (name : Name) (d : ℕ × Definition) → AreTables kinds defs → table_named defs name ≡ Some d → HasKinds kinds d
table_has kinds [] name d a h = cc
table_has kinds (x ∷ defs) name d a h = go (same_names x.1.name name) h (table_has kinds defs name d a.1)
  where
    go : (b : Bool) → cond b (Some x) (table_named defs name) ≡ Some d → (table_named defs name ≡ Some d → HasKinds kinds d) → HasKinds kinds d
    go true h again = let e : x ≡ d = cc in subst (HasKinds kinds) e a.0
    go false h again = again h

source_kinds : (kinds : ℕ → List Kind) (defs : Defs) (s : SourceName) (rest : List ℕ) (o : Option (ℕ × Definition)) → AreTables kinds defs → table_named defs s.table ≡ o → is_none o ≡ false
    → flat_map kinds (option_map_or (λ (d : ℕ × Definition). d.0 ∷ []) o [] ++ rest) ≡ kinds_in (option_map_or (λ (d : ℕ × Definition). columns_of (called s) d.1.columns) o []) ++ flat_map kinds rest
source_kinds kinds defs s rest None a e h = cc
source_kinds kinds defs s rest (Some d) a e h =
    let t = table_has kinds defs s.table d a e in
    ap (λ (z : List Kind). z ++ flat_map kinds rest) (t.its_kinds ∙ sym (kinds_source (called s) d.1.columns))

pub product : (kinds : ℕ → List Kind) (defs : Defs) (sources : List SourceName) → AreTables kinds defs → list_any (is_no_table defs) sources ≡ false
    → flat_map kinds (flat_map (number_of defs) sources) ≡ kinds_in (scope defs sources)
product kinds defs [] a h = refl
product kinds defs (s ∷ sources) a h =
    let p = or_parts (is_no_table defs s) (list_any (is_no_table defs) sources) h in
    source_kinds kinds defs s (flat_map (number_of defs) sources) (table_named defs s.table) a refl p.0
    ∙ ap (λ (z : List Kind). kinds_in (source_columns defs s) ++ z) (product kinds defs sources a p.1)
    ∙ sym (map-append (λ (c : SourceColumn). c.kind) (source_columns defs s) (scope defs sources))

table_counts : (kinds : ℕ → List Kind) (d : ℕ × Definition) → HasKinds kinds d → is_table (kinds d.0) ≡ true
table_counts kinds d t =
    let e : length (kinds d.0) ≡ length d.1.columns = ap length t.its_kinds ∙ length-map d.1.columns (λ (c : Column). c.kind) in
    rw (le-leb 1 (length (kinds d.0)) (omega (arith, e, t.rules.some)), le-leb (length (kinds d.0)) 64 (omega (arith, e, t.rules.few))) refl

source_table : (kinds : ℕ → List Kind) (defs : Defs) (s : SourceName) (o : Option (ℕ × Definition)) → AreTables kinds defs → table_named defs s.table ≡ o
    → (list_all (λ t. is_table (kinds t)) (option_map_or (λ (d : ℕ × Definition). d.0 ∷ []) o []) ≡ true) × (length (option_map_or (λ (d : ℕ × Definition). columns_of (called s) d.1.columns) o []) ≤ 64)
source_table kinds defs s None a e = (refl, omega arith)
source_table kinds defs s (Some d) a e =
    let t = table_has kinds defs s.table d a e in
    let few = t.rules.few in
    (rw (table_counts kinds d t) refl, omega (arith, few, length-map d.1.columns (column_of (called s))))

pub tables : (kinds : ℕ → List Kind) (defs : Defs) (sources : List SourceName) → AreTables kinds defs
    → (list_all (λ t. is_table (kinds t)) (flat_map (number_of defs) sources) ≡ true) × (length (scope defs sources) ≤ 64 * length sources)
tables kinds defs [] a = (refl, omega arith)
tables kinds defs (s ∷ sources) a =
    let one = source_table kinds defs s (table_named defs s.table) a refl in
    let more = tables kinds defs sources a in (
      list_all-append (λ t. is_table (kinds t)) (number_of defs s) (flat_map (number_of defs) sources) ∙ rw (one.0, more.0) refl,
      omega (arith, one.1, more.1, length-append (source_columns defs s) (scope defs sources)),
    )

-- ---- lists of options

some_is : {B : Type 0} (o : Option B) (d : B) → is_some o ≡ true → o ≡ Some (unwrap_or o d)
some_is None d h = cc
some_is (Some y) d h = refl

every_next : {B : Type 0} (d : B) (o : Option B) → is_some o ≡ true → (r : Option (List B)) (ys : List B) → r ≡ Some ys → (o >>= (λ y. r >>= (λ zs. Some (y ∷ zs)))) ≡ Some (unwrap_or o d ∷ ys)
every_next d None h r ys e = cc
every_next d (Some y) h r ys e = rw e refl

pub every_total : {A B : Type 0} (f : A → Option B) (d : B) (xs : List A) → list_all (λ (x : A). is_some (f x)) xs ≡ true → every f xs ≡ Some (map (λ (x : A). unwrap_or (f x) d) xs)
every_total f d [] h = refl
every_total {A} {B} f d (x ∷ xs) h =
    let t = both_true (is_some (f x)) (list_all (λ (z : A). is_some (f z)) xs) h in
    every_next d (f x) t.0 (every f xs) (map (λ (z : A). unwrap_or (f z) d) xs) (every_total f d xs t.1)

item_some : (k : ExprKind) → has_kind k ≡ true → is_some (item_kind k) ≡ true
item_some (typed.Of j) h = refl
item_some typed.Null h = refl
item_some typed.Wrong h = cc

pub items_total : (ks : List Kind) (es : List Expr) → list_all (λ x. has_kind (expr_kind ks x)) es ≡ true → list_all (λ x. is_some (item_kind (expr_kind ks x))) es ≡ true
items_total ks [] h = refl
items_total ks (x ∷ es) h = let t = both_true (has_kind (expr_kind ks x)) (list_all (λ x. has_kind (expr_kind ks x)) es) h in rw (item_some (expr_kind ks x) t.0, items_total ks es t.1) refl

-- ---- places that are kept once

all_push : {X : Type 0} (P : X → Type 0) (xs : List X) (y : X) → AllByRecursion P xs → P y → AllByRecursion P (xs ++ y ∷ [])
all_push P [] y a p = (p, tt)
all_push P (x ∷ xs) y a p = (a.0, all_push P xs y a.1 p)

distinct_push : (xs : List ℕ) (y : ℕ) → IsDistinct eqb xs → list_any (λ p. p == y) xs ≡ false → IsDistinct eqb (xs ++ y ∷ [])
unfolding IsDistinct
distinct_push [] y d h = (tt, tt)
distinct_push (x ∷ xs) y d h =
    let t = or_parts (x == y) (list_any (λ p. p == y) xs) h in
    (all_push (λ (z : ℕ). eqb x z ≡ false) xs y d.0 t.0, distinct_push xs y d.1 t.1)

below_found : (n : ℕ) (xs : List ℕ) (q : ℕ) → AllByRecursion (λ (p : ℕ). p < n) xs → list_any (eqb q) xs ≡ true → q < n
below_found n [] q a h = cc
below_found n (x ∷ xs) q a h = go (eqb q x) refl h (below_found n xs q a.1)
  where
    go : (b : Bool) → eqb q x ≡ b → (b || list_any (eqb q) xs) ≡ true → (list_any (eqb q) xs ≡ true → q < n) → q < n
    go true e h again = let same : q ≡ x = eqb-true q x e in let l = a.0 in omega (arith, same, l)
    go false e h again = again h

pub few_places : (n : ℕ) (xs : List ℕ) → IsDistinct eqb xs → AllByRecursion (λ (p : ℕ). p < n) xs → length xs ≤ n
few_places n xs d a = length-le_from_distinct_below xs n d (λ q h. below_found n xs q a h)

-- places that are kept once and are below n
pub record Kept (n : ℕ) (xs : List ℕ) : Type 0 where
  pub once : IsDistinct eqb xs
  pub below : AllByRecursion (λ (p : ℕ). p < n) xs

position_within : {X : Type 0} (f : X → Bool) (xs : List X) (p : ℕ) → position f xs ≡ Some p → p < length xs
position_within f xs p h = go (nat_lt (position_or_len f xs) (length xs)) refl h
  where
    go : (b : Bool) → nat_lt (position_or_len f xs) (length xs) ≡ b → cond b (Some (position_or_len f xs)) None ≡ Some p → p < length xs
    go true e h = let l = ltb-true (position_or_len f xs) (length xs) e in let same : position_or_len f xs ≡ p = cc in omega (arith, l, same)
    go false e h = cc

place_kept : (n : ℕ) (places : List ℕ) (place : ℕ) → Kept n places → place < n → Kept n (with_place places (Some place))
place_kept n places place k l = go (is_there places place) refl
  where
    go : (b : Bool) → is_there places place ≡ b → Kept n (cond b places (places ++ place ∷ []))
    go true e = k
    go false e = record { once = distinct_push places place k.once e; below = all_push (λ (p : ℕ). p < n) places place k.below l }

option_kept : (n : ℕ) (places : List ℕ) (o : Option ℕ) → ((p : ℕ) → o ≡ Some p → p < n) → Kept n places → Kept n (with_place places o)
option_kept n places None l k = k
option_kept n places (Some p) l k = place_kept n places p k (l p refl)

groups_kept_from : (cs : List SourceColumn) (places : List ℕ) (rs : List ColumnRef) → Kept (length cs) places → Kept (length cs) (fold (λ places r. with_place places (place_of cs r)) places rs)
groups_kept_from cs places [] k = k
groups_kept_from cs places (r ∷ rs) k = groups_kept_from cs (with_place places (place_of cs r)) rs (option_kept (length cs) places (place_of cs r) (λ p h. position_within (fits r) cs p h) k)

pub groups_kept : (cs : List SourceColumn) (rs : List ColumnRef) → Kept (length cs) (group_places cs rs)
unfolding IsDistinct
groups_kept cs rs = groups_kept_from cs [] rs (record { once = tt; below = tt })

-- a place below the number of columns has a kind
place_some : (cs : List SourceColumn) (place : ℕ) → place < length cs → is_some (slice_get (kinds_in cs) place) ≡ true
place_some [] place h = absurd (omega (arith, h))
place_some (c ∷ cs) zero h = refl
place_some (c ∷ cs) (suc place) h = place_some cs place (omega (arith, h))

pub keys_some : (cs : List SourceColumn) (gs : List ℕ) → AllByRecursion (λ (p : ℕ). p < length cs) gs → list_all (λ p. is_some (slice_get (kinds_in cs) p)) gs ≡ true
keys_some cs [] a = refl
keys_some cs (g ∷ gs) a = rw (place_some cs g a.0, keys_some cs gs a.1) refl

-- ---- the columns to sort by

ordered_same : (keys : List SortKey) (column : ℕ) → is_ordered keys column ≡ list_any (λ p. p == column) (map (λ (k : SortKey). k.column) keys)
ordered_same [] column = refl
ordered_same (k ∷ keys) column = ap (λ (b : Bool). (k.column == column) || b) (ordered_same keys column)

order_once_from : (items : List Item) (done : List SortKey) (key : SortKey) → IsDistinct eqb (map (λ (k : SortKey). k.column) done) → IsDistinct eqb (map (λ (k : SortKey). k.column) (with_key done key))
order_once_from items done key d = go (is_ordered done key.column) refl
  where
    go : (b : Bool) → is_ordered done key.column ≡ b → IsDistinct eqb (map (λ (k : SortKey). k.column) (cond b done (done ++ key ∷ [])))
    go true e = d
    go false e = subst (IsDistinct eqb) (sym (map-append (λ (k : SortKey). k.column) done (key ∷ []))) (distinct_push (map (λ (k : SortKey). k.column) done) key.column d (sym (ordered_same done key.column) ∙ e))

pub within_below : (n : ℕ) (keys : List SortKey) → list_all (λ key. nat_lt key.column n) keys ≡ true → AllByRecursion (λ (p : ℕ). p < n) (map (λ (k : SortKey). k.column) keys)
within_below n [] h = tt
within_below n (k ∷ keys) h = let t = both_true (nat_lt k.column n) (list_all (λ key. nat_lt key.column n) keys) h in (ltb-true k.column n t.0, within_below n keys t.1)

order_once : (items : List Item) (done : List SortKey) (keys : List OrderKey) → IsDistinct eqb (map (λ (k : SortKey). k.column) done)
    → IsDistinct eqb (map (λ (k : SortKey). k.column) (fold (λ kept key. with_key kept (sort_key items key)) done keys))
order_once items done [] d = d
order_once items done (key ∷ keys) d = order_once items (with_key done (sort_key items key)) keys (order_once_from items done (sort_key items key) d)

few_keys : (items : List Item) (keys : List OrderKey) (n : ℕ) → list_all (λ key. nat_lt key.column n) (order_of items keys) ≡ true → length (order_of items keys) ≤ n
unfolding IsDistinct
few_keys items keys n h =
    let columns = map (λ (k : SortKey). k.column) (order_of items keys) in
    let l = few_places n columns (order_once items [] keys tt) (within_below n (order_of items keys) h) in
    omega (arith, l, length-map (order_of items keys) (λ (k : SortKey). k.column))

-- ---- kinds that are found

few_all : (cs : List SourceColumn) (xs : List SqlExpr) → list_all (λ x. nat_le (weight x) 256) xs ≡ true → length (all_aggregates cs xs) ≤ 256 * length xs
few_all cs [] h = omega arith
few_all cs (x ∷ xs) h =
    let t = both_true (nat_le (weight x) 256) (list_all (λ x. nat_le (weight x) 256) xs) h in
    let w = leb-true (weight x) 256 t.0 in
    omega (arith, w, few_aggregates cs x, few_all cs xs t.1, length-append (aggregates_in cs x) (all_aggregates cs xs))

plain_items : (cs : List SourceColumn) (gs : List ℕ) (items : List Item) → list_any has_aggregate (item_findings cs gs items) ≡ false → list_any is_wrong (item_findings cs gs items) ≡ false
    → list_all (λ x. has_kind (expr_kind (kinds_in cs) x)) (map (placed_item cs) items) ≡ true
plain_items cs gs [] a w = refl
plain_items cs gs (i ∷ items) a w =
    let p = or_parts (findings cs gs i.expr).aggregate (list_any has_aggregate (item_findings cs gs items)) a in
    let q = or_parts (is_wrong (findings cs gs i.expr)) (list_any is_wrong (item_findings cs gs items)) w in
    let has = not_false (has_kind (findings cs gs i.expr).kind) q.0 in
    let here : has_kind (expr_kind (kinds_in cs) (placed cs i.expr)) ≡ true = ap has_kind (placed_kind cs gs i.expr p.0 has) ∙ has in
    rw (here, plain_items cs gs items p.1 q.1) refl

conds_typed : (cs : List SourceColumn) (gs : List ℕ) (xs : List SqlExpr) → list_all (is_condition false) xs ≡ true → list_any is_no_condition (all_findings cs gs xs) ≡ false
    → are_conditions (kinds_in cs) (map (placed cs) xs) ≡ true
conds_typed cs gs [] f w = refl
conds_typed cs gs (x ∷ xs) f w =
    let t = both_true (is_condition false x) (list_all (is_condition false) xs) f in
    let u = both_true (is_cond false x) (nat_le (weight x) 256) t.0 in
    let q = or_parts (is_no_condition (findings cs gs x)) (list_any is_no_condition (all_findings cs gs xs)) w in
    let bool = not_false (is_of kind.Bool (findings cs gs x).kind) q.0 in
    let same = placed_kind cs gs x (cond_without cs gs x u.0) (of_has kind.Bool (findings cs gs x).kind bool) in
    let here : is_of kind.Bool (expr_kind (kinds_in cs) (placed cs x)) ≡ true = ap (is_of kind.Bool) same ∙ bool in
    rw (here, conds_typed cs gs xs t.1 q.1) refl

items_typed : (cs : List SourceColumn) (gs : List ℕ) (before after all : List Aggregate) (items : List Item) → list_all item_fits items ≡ true → list_any has_ungrouped (item_findings cs gs items) ≡ false
    → list_any is_wrong (item_findings cs gs items) ≡ false → all ≡ before ++ (all_aggregates cs (item_exprs items) ++ after)
    → (list_all (λ x. has_kind (expr_kind (seen (kinds_in cs) gs all) x)) (all_over cs gs before (item_exprs items)) ≡ true) × (list_all (has_value (kinds_in cs)) (all_aggregates cs (item_exprs items)) ≡ true)
items_typed cs gs before after all [] f g w e = (refl, refl)
items_typed cs gs before after all (i ∷ items) f g w e =
    let t = both_true (item_fits i) (list_all item_fits items) f in
    let u = both_true (is_sum true i.expr) (nat_le (weight i.expr) 256) t.0 in
    let p = or_parts (findings cs gs i.expr).ungrouped (list_any has_ungrouped (item_findings cs gs items)) g in
    let q = or_parts (is_wrong (findings cs gs i.expr)) (list_any is_wrong (item_findings cs gs items)) w in
    let has = not_false (has_kind (findings cs gs i.expr).kind) q.0 in
    let own = aggregates_in cs i.expr in
    let rest = all_aggregates cs (item_exprs items) in
    let one = sum_typed cs gs before (rest ++ after) all i.expr u.0 p.0 has (left_part all before own rest after e) in
    let more = items_typed cs gs (before ++ own) after all items t.1 p.1 q.1 (right_part all before own rest after e) in
    let here : has_kind (expr_kind (seen (kinds_in cs) gs all) (over_groups cs gs before i.expr)) ≡ true = ap has_kind one.0 ∙ has in
    (rw (here, more.0) refl, list_all-append (has_value (kinds_in cs)) own rest ∙ rw (one.1, more.1) refl)

having_typed : (cs : List SourceColumn) (gs : List ℕ) (before after all : List Aggregate) (xs : List SqlExpr) → list_all (is_condition true) xs ≡ true → list_any has_ungrouped (all_findings cs gs xs) ≡ false
    → list_any is_no_condition (all_findings cs gs xs) ≡ false → all ≡ before ++ (all_aggregates cs xs ++ after)
    → (are_conditions (seen (kinds_in cs) gs all) (all_over cs gs before xs) ≡ true) × (list_all (has_value (kinds_in cs)) (all_aggregates cs xs) ≡ true)
having_typed cs gs before after all [] f g w e = (refl, refl)
having_typed cs gs before after all (x ∷ xs) f g w e =
    let t = both_true (is_condition true x) (list_all (is_condition true) xs) f in
    let u = both_true (is_cond true x) (nat_le (weight x) 256) t.0 in
    let p = or_parts (findings cs gs x).ungrouped (list_any has_ungrouped (all_findings cs gs xs)) g in
    let q = or_parts (is_no_condition (findings cs gs x)) (list_any is_no_condition (all_findings cs gs xs)) w in
    let bool = not_false (is_of kind.Bool (findings cs gs x).kind) q.0 in
    let own = aggregates_in cs x in
    let rest = all_aggregates cs xs in
    let one = cond_typed cs gs before (rest ++ after) all x u.0 p.0 (of_has kind.Bool (findings cs gs x).kind bool) (left_part all before own rest after e) in
    let more = having_typed cs gs (before ++ own) after all xs t.1 p.1 q.1 (right_part all before own rest after e) in
    let here : is_of kind.Bool (expr_kind (seen (kinds_in cs) gs all) (over_groups cs gs before x)) ≡ true = ap (is_of kind.Bool) one.0 ∙ bool in
    (rw (here, more.0) refl, list_all-append (has_value (kinds_in cs)) own rest ∙ rw (one.1, more.1) refl)

-- ---- queries

typed_query : (kinds : ℕ → List Kind) (q : Query) (ks sk : List Kind) → flat_map kinds q.sources ≡ ks → seen_kinds ks q ≡ Some sk → list_all (λ x. is_some (item_kind (expr_kind sk x))) q.items ≡ true
    → are_conditions ks q.conds ≡ true → are_conditions sk q.having ≡ true → is_some (query_kinds kinds q) ≡ true
typed_query kinds q ks sk p s i c h = rw (p, s, every_total (λ (x : Expr). item_kind (expr_kind sk x)) kind.Text q.items i, c, h) refl

roomy : (kinds : ℕ → List Kind) (q : Query) → list_all (λ t. is_table (kinds t)) q.sources ≡ true → length q.conds ≤ 8 → length q.having ≤ 1 → length q.groups ≤ 512 → length q.aggregates ≤ 16640 → length q.order ≤ 64
    → (has_room kinds q && (has_places q && nat_le (length q.conds) 8)) ≡ true
roomy kinds q t c h g a o =
    rw (
      t,
      le-leb (length q.conds + length q.having) 40 (omega (arith, c, h)),
      le-leb (length q.groups) 65535 (omega (arith, g)),
      le-leb (length q.aggregates) 65535 (omega (arith, a)),
      le-leb (length q.order) 65535 (omega (arith, o)),
      le-leb (length q.groups + (length q.aggregates + length q.aggregates)) 65535 (omega (arith, g, a)),
      le-leb (length q.conds) 8 c,
    ) refl

one_given : (o : Option SqlExpr) → length (given o) ≤ 1
one_given None = omega arith
one_given (Some x) = omega arith

-- what a query without faults keeps besides
pub record Typed (kinds : ℕ → List Kind) (defs : Defs) (s : SelectStatement) (cs : List SourceColumn) (items : List Item) (groups : List ℕ) (grouped : Bool) : Type 0 where
  pub sound : Sound defs s cs items groups grouped
  pub tables : AreTables kinds defs
  pub columns : cs ≡ scope defs s.sources
  pub conds_few : length s.conds ≤ length s.sources
  pub kept : Kept (length cs) groups
  pub of_items : list_any is_wrong (item_findings cs groups items) ≡ false
  pub of_conds : list_any is_no_condition (all_findings cs groups s.conds) ≡ false
  pub of_having : list_any is_no_condition (all_findings cs groups (given s.having)) ≡ false
  pub single : grouped ≡ false → list_any has_aggregate (item_findings cs groups items) ≡ false

abbrev parts_over : Defs → SelectStatement → List SourceColumn → List Item → List ℕ → Bool → Outputs → QueryParts
parts_over defs s cs items groups grouped made = query_parts s (flat_map (number_of defs) s.sources) (map (placed cs) s.conds) grouped groups made (order_of items s.keys)

columns_few : (kinds : ℕ → List Kind) (defs : Defs) (sources : List SourceName) (cs : List SourceColumn) → AreTables kinds defs → cs ≡ scope defs sources → length sources ≤ 8 → length cs ≤ 512
columns_few kinds defs sources cs a e l = let t = (tables kinds defs sources a).1 in let same : length cs ≡ length (scope defs sources) = ap length e in omega (arith, t, same, l)

plain_bound : (kinds : ℕ → List Kind) (defs : Defs) (s : SelectStatement) (cs : List SourceColumn) (items : List Item) (groups : List ℕ) (q : Query) → Typed kinds defs s cs items groups false
    → parts_of q ≡ parts_over defs s cs items groups false (plain_outputs cs items) → is_bound kinds q ≡ true
plain_bound kinds defs s cs items groups q k e =
    let sources : q.sources ≡ flat_map (number_of defs) s.sources = ap (λ (p : QueryParts). p.sources) e in
    let conds : q.conds ≡ map (placed cs) s.conds = ap (λ (p : QueryParts). p.conds) e in
    let grouped : q.grouped ≡ false = ap (λ (p : QueryParts). p.grouped) e in
    let groups_are : q.groups ≡ groups = ap (λ (p : QueryParts). p.groups) e in
    let aggregates : q.aggregates ≡ [] = ap (λ (p : QueryParts). p.aggregates) e in
    let having : q.having ≡ [] = ap (λ (p : QueryParts). p.having) e in
    let items_are : q.items ≡ map (placed_item cs) items = ap (λ (p : QueryParts). p.items) e in
    let order : q.order ≡ order_of items s.keys = ap (λ (p : QueryParts). p.order) e in
    let ks = kinds_in cs in
    let few = columns_few kinds defs s.sources cs k.tables k.columns k.sound.few_sources in
    let product_is : flat_map kinds q.sources ≡ ks = ap (flat_map kinds) sources ∙ product kinds defs s.sources k.tables k.sound.tables ∙ ap kinds_in (sym k.columns) in
    let seen_is : seen_kinds ks q ≡ Some ks = rw grouped refl in
    let typed = typed_query kinds q ks ks product_is seen_is
    (rw items_are (items_total ks (map (placed_item cs) items) (plain_items cs groups items (k.single refl) k.of_items)))
    (rw conds (conds_typed cs groups s.conds k.sound.conds k.of_conds)) (rw having refl) in
    let within = few_places (length cs) groups k.kept.once k.kept.below in
    let sorted = few_keys items s.keys (length items) (order_within items [] s.keys refl k.sound.keys) in
    let room = roomy kinds q (rw sources (tables kinds defs s.sources k.tables).0)
    (rw conds (omega (arith, length-map s.conds (placed cs), k.conds_few, k.sound.few_sources)))
    (rw having (omega arith)) (rw groups_are (omega (arith, within, few))) (rw aggregates (omega arith)) (rw order (omega (arith, sorted, k.sound.few_items))) in
    rw (typed, room) refl

grouped_bound : (kinds : ℕ → List Kind) (defs : Defs) (s : SelectStatement) (cs : List SourceColumn) (items : List Item) (groups : List ℕ) (q : Query) → Typed kinds defs s cs items groups true
    → parts_of q ≡ parts_over defs s cs items groups true (grouped_outputs cs groups items (given s.having)) → is_bound kinds q ≡ true
grouped_bound kinds defs s cs items groups q k e =
    let es = item_exprs items in
    let of_items = all_aggregates cs es in
    let of_having = all_aggregates cs (given s.having) in
    let all = of_items ++ of_having in
    let sources : q.sources ≡ flat_map (number_of defs) s.sources = ap (λ (p : QueryParts). p.sources) e in
    let conds : q.conds ≡ map (placed cs) s.conds = ap (λ (p : QueryParts). p.conds) e in
    let grouped : q.grouped ≡ true = ap (λ (p : QueryParts). p.grouped) e in
    let groups_are : q.groups ≡ groups = ap (λ (p : QueryParts). p.groups) e in
    let aggregates : q.aggregates ≡ all = ap (λ (p : QueryParts). p.aggregates) e in
    let having : q.having ≡ all_over cs groups of_items (given s.having) = ap (λ (p : QueryParts). p.having) e in
    let items_are : q.items ≡ all_over cs groups [] es = ap (λ (p : QueryParts). p.items) e in
    let order : q.order ≡ order_of items s.keys = ap (λ (p : QueryParts). p.order) e in
    let ks = kinds_in cs in
    let sk = seen ks groups all in
    let few = columns_few kinds defs s.sources cs k.tables k.columns k.sound.few_sources in
    let product_is : flat_map kinds q.sources ≡ ks = ap (flat_map kinds) sources ∙ product kinds defs s.sources k.tables k.sound.tables ∙ ap kinds_in (sym k.columns) in
    let its_items = items_typed cs groups [] of_having all items k.sound.items_fit (k.sound.in_items refl) k.of_items refl in
    let its_having = having_typed cs groups of_items [] all (given s.having) k.sound.having (k.sound.in_having refl) k.of_having (ap (λ (z : List Aggregate). of_items ++ z) (sym (append-nil of_having))) in
    let values : list_all (has_value ks) all ≡ true = list_all-append (has_value ks) of_items of_having ∙ rw (its_items.1, its_having.1) refl in
    let keys_are : keys_kinds ks groups ≡ Some (map (key_kind ks) groups) = every_total (slice_get ks) kind.Text groups (keys_some cs groups k.kept.below) in
    let values_are : values_kinds ks all ≡ Some (map (agg_kind ks) all) = every_total (aggregate_kind ks) kind.Text all values in
    let seen_is : seen_kinds ks q ≡ Some sk = rw (grouped, groups_are, aggregates, keys_are, values_are) refl in
    let typed = typed_query kinds q ks sk product_is seen_is
    (rw items_are (items_total sk (all_over cs groups [] es) its_items.0))
    (rw conds (conds_typed cs groups s.conds k.sound.conds k.of_conds)) (rw having its_having.0) in
    let within = few_places (length cs) groups k.kept.once k.kept.below in
    let sorted = few_keys items s.keys (length items) (order_within items [] s.keys refl k.sound.keys) in
    let some = few_all cs es (items_light items k.sound.items_fit) in
    let others = few_all cs (given s.having) (conds_light (given s.having) k.sound.having) in
    let room = roomy kinds q (rw sources (tables kinds defs s.sources k.tables).0)
    (rw conds (omega (arith, length-map s.conds (placed cs), k.conds_few, k.sound.few_sources)))
    (rw having (omega (arith, over_length cs groups of_items (given s.having), one_given s.having))) (rw groups_are (omega (arith, within, few)))
    (rw aggregates (omega (arith, length-append of_items of_having, some, others, length-map items (λ (i : Item). i.expr), k.sound.few_items, one_given s.having)))
    (rw order (omega (arith, sorted, k.sound.few_items))) in
    rw (typed, room) refl

over_bound : (kinds : ℕ → List Kind) (defs : Defs) (s : SelectStatement) (cs : List SourceColumn) (items : List Item) (groups : List ℕ) (grouped : Bool) (q : Query) → Typed kinds defs s cs items groups grouped
    → parts_of q ≡ parts_over defs s cs items groups grouped (outputs cs groups grouped items (given s.having)) → is_bound kinds q ≡ true
over_bound kinds defs s cs items groups false q k e = plain_bound kinds defs s cs items groups q k e
over_bound kinds defs s cs items groups true q k e = grouped_bound kinds defs s cs items groups q k e

starts_some : (defs : Defs) (kinds : ℕ → List Kind) (s : SourceName) (o : Option (ℕ × Definition)) → AreTables kinds defs → table_named defs s.table ≡ o → is_none o ≡ false
    → nat_lt 0 (length (option_map_or (λ (d : ℕ × Definition). columns_of (called s) d.1.columns) o [])) ≡ true
starts_some defs kinds s None a e h = cc
starts_some defs kinds s (Some d) a e h =
    let some = (table_has kinds defs s.table d a e).rules.some in
    lt-ltb 0 (length (columns_of (called s) d.1.columns)) (omega (arith, some, length-map d.1.columns (column_of (called s))))

starts : (kinds : ℕ → List Kind) (defs : Defs) (sources : List SourceName) → AreTables kinds defs → nat_le 1 (length sources) ≡ true → list_any (is_no_table defs) sources ≡ false → starts_with_columns defs sources ≡ true
starts kinds defs [] a n h = cc
starts kinds defs (s ∷ sources) a n h = starts_some defs kinds s (table_named defs s.table) a refl (or_parts (is_no_table defs s) (list_any (is_no_table defs) sources) h).0

pub bounded : (kinds : ℕ → List Kind) (defs : Defs) (s : SelectStatement) (q : Query) → select_fits s ≡ true → first_of (query_faults defs s) ≡ None → AreTables kinds defs → parts_of q ≡ bound_query defs s → is_bound kinds q ≡ true
bounded kinds defs s q fits none a e =
    let cs = read_columns defs s in
    let items = read_items cs s in
    let groups = read_groups cs s in
    let of_items = item_findings cs groups items in
    let of_conds = all_findings cs groups s.conds in
    let of_having = all_findings cs groups (given s.having) in
    let f = faultless (query_faults defs s) none in
    let u = both_true (list_all item_fits s.items) (list_all (is_condition false) s.conds && (list_all (is_condition true) (given s.having) && (sources_fit s && counts_one_source s))) fits in
    let v = both_true (list_all (is_condition false) s.conds) (list_all (is_condition true) (given s.having) && (sources_fit s && counts_one_source s)) u.1 in
    let w = both_true (list_all (is_condition true) (given s.having)) (sources_fit s && counts_one_source s) v.1 in
    let x = both_true (sources_fit s) (counts_one_source s) w.1 in
    let y = both_true (nat_le 1 (length s.sources)) (nat_le (length s.conds) (length s.sources)) x.0 in
    let k = sound defs s fits none (starts kinds defs s.sources a y.0 f.undefined_table) in
    let m = or_parts (list_any is_wrong of_items) (list_any is_no_condition of_conds || list_any is_no_condition of_having) f.type_mismatch in
    let n = or_parts (list_any is_no_condition of_conds) (list_any is_no_condition of_having) m.1 in
    over_bound kinds defs s cs items groups (is_grouped of_items s) q (record {
      sound = k;
      tables = a;
      columns = ap (scope defs) (take_all 8 s.sources k.few_sources);
      conds_few = leb-true (length s.conds) (length s.sources) y.1;
      kept = groups_kept cs s.groups;
      of_items = m.0;
      of_conds = n.0;
      of_having = n.1;
      single = λ h. (or_parts (is_some s.having) (list_any has_aggregate of_items) (or_parts (not (length s.groups == 0)) (is_some s.having || list_any has_aggregate of_items) h).1).1;
    }) e
