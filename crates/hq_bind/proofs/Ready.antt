-- What a SELECT without faults is bound to keeps a query's own rules.
use Rattle.std.proofs.Common.{◌≡◌, ℕ, zero, suc, ◌+◌, ◌-◌, ◌<◌, ◌≤◌, ◌==◌, Bool, true, false, not, ◌||◌, ◌&&◌, cond, nat_le, nat_lt, List, [], ◌∷◌, ◌++◌, length, map, take, Option, Some, None, refl, sym, ap, subst, ◌∙◌, append_assoc, length-append, le-leb, lt-ltb, arith}
use Rattle.std.specs.Prelude.{position, unwrap_or, flat_map, count_by, is_none, is_some, fold}
use Rattle.std.specs.List.{list_any, list_all}
use Rattle.std.specs.Option.{option_map_or}
use Rattle.std.proofs.lemmas.Bool.{leb-true, ltb-false, ltb-true, eqb-true}
use Rattle.std.proofs.lemmas.List.{length-map, append-nil}
use Rattle.std.proofs.lemmas.List.Folds.{list_all-append}
use Rattle.hq_value.specs.Tables.{Definition}
use Rattle.hq_expr.specs.declared.tree.ColumnRef.{ColumnRef}
use Rattle.hq_expr.specs.declared.tree.SqlExpr.{SqlExpr}
use Rattle.hq_expr.specs.Shape.{weight, is_sum, is_cond, is_item, is_condition}
use Rattle.hq_expr.specs.Uses.{uses, counts_rows}
use Rattle.hq_sql.specs.Grammar.{given, counts_one_source, item_counts}
use Rattle.hq_sql.specs.Fits.{select_fits, item_fits, sources_fit}
use Rattle.hq_sql.specs.declared.tree.Item.{Item}
use Rattle.hq_sql.specs.declared.tree.SourceName.{SourceName}
use Rattle.hq_sql.specs.declared.tree.SelectStatement.{SelectStatement}
use Rattle.hq_sql.specs.declared.tree.OrderKey.{OrderKey}
use Rattle.hq_sql.specs.declared.tree.OrderBy.{OrderBy}
use Rattle.hq_sql.specs.declared.tree.OrderBy.TheVariants as by
use Rattle.hq_algebra.specs.declared.expr.Expr.{Expr}
use Rattle.hq_algebra.specs.declared.aggregate.Aggregate.{Aggregate}
use Rattle.hq_algebra.specs.declared.op.SortKey.{SortKey}
use Rattle.hq_algebra.specs.Shape.{parts, has_arith}
use Rattle.hq_algebra.specs.Rules.{is_empty, cannot_fault, are_small, arguments, fit_sources, are_below, are_within, is_below, stands_over_pairs}
use Rattle.hq_bind.specs.declared.scope.SourceColumn.{SourceColumn}
use Rattle.hq_bind.specs.declared.findings.Findings.{Findings}
use Rattle.hq_bind.specs.declared.bound.Outputs.{Outputs}
use Rattle.hq_bind.specs.Scope.{Name, Defs, table_named, source_columns, scope, place_of}
use Rattle.hq_bind.specs.Findings.{findings}
use Rattle.hq_bind.specs.Reading.{read_columns, read_items, read_groups, written_out, items_read, item_of, item_exprs, item_findings, all_findings, is_grouped, group_places, with_place}
use Rattle.hq_bind.specs.Faults.{first_of, query_faults, is_no_table, has_name, key_count, is_no_key, has_ungrouped, leaves_groups, has_long, has_unknown, fits_none, passes_limit, lacks}
use Rattle.hq_bind.specs.Bound.{placed, placed_item, over_groups, all_over, all_aggregates, aggregates_in, number_of, key_column, sort_key, with_key, is_ordered, order_of, outputs, plain_outputs, grouped_outputs, query_parts, bound_query}
use Rattle.hq_bind.specs.Ready.{IsReady, starts_with_columns}
use Rattle.hq_bind.proofs.Faultless.{Faultless, faultless, or_left}
use Rattle.hq_bind.proofs.OverSources.{both_true, placed_parts, cond_plain}
use Rattle.hq_bind.proofs.Grouped.{cond_over, over_parts, small_arguments, small_append, pairs_append, or_parts, sum_pairs, cond_pairs, over_below, found_within, not_false}

-- ---- lists

all_map : {X Y : Type 0} (p : Y → Bool) (q : X → Bool) (f : X → Y) → ((x : X) → q x ≡ true → p (f x) ≡ true) → (xs : List X) → list_all q xs ≡ true → list_all p (map f xs) ≡ true
all_map p q f h [] a = refl
all_map p q f h (x ∷ xs) a = let t = both_true (q x) (list_all q xs) a in rw (h x t.0, all_map p q f h xs t.1) refl

pub both : (a b : Bool) → a ≡ true → b ≡ true → (a && b) ≡ true
both a b h k = rw (h, k) refl

-- ---- its sources

number_one : (o : Option (ℕ × Definition)) → is_none o ≡ false → length (option_map_or (λ (d : ℕ × Definition). d.0 ∷ []) o []) ≡ 1
number_one None h = cc
number_one (Some d) h = refl

pub numbers_length : (defs : Defs) (sources : List SourceName) → list_any (is_no_table defs) sources ≡ false → length (flat_map (number_of defs) sources) ≡ length sources
numbers_length defs [] h = refl
numbers_length defs (s ∷ sources) h =
    let p = or_parts (is_no_table defs s) (list_any (is_no_table defs) sources) h in
    let len = length-append (number_of defs s) (flat_map (number_of defs) sources) in
    let one = number_one (table_named defs s.table) p.0 in
    let more = numbers_length defs sources p.1 in
    omega (arith, len, one, more)

-- ---- its conditions

conds_safe : (cs : List SourceColumn) (x : SqlExpr) → is_condition false x ≡ true → not (has_arith (placed cs x)) ≡ true
conds_safe cs x h = let t = both_true (is_cond false x) (nat_le (weight x) 256) h in rw (cond_plain cs x t.0) refl

conds_small : (cs : List SourceColumn) (x : SqlExpr) → is_condition false x ≡ true → nat_le (parts (placed cs x)) 256 ≡ true
conds_small cs x h =
    let t = both_true (is_cond false x) (nat_le (weight x) 256) h in
    let w : weight x ≤ 256 = leb-true (weight x) 256 t.1 in
    le-leb (parts (placed cs x)) 256 (omega (arith, w, placed_parts cs x))

item_weight : (i : Item) → item_fits i ≡ true → weight i.expr ≤ 256
item_weight i h = let t = both_true (is_sum true i.expr) (nat_le (weight i.expr) 256) h in leb-true (weight i.expr) 256 t.1

item_small : (cs : List SourceColumn) (i : Item) → item_fits i ≡ true → nat_le (parts (placed_item cs i)) 256 ≡ true
item_small cs i h = let w = item_weight i h in le-leb (parts (placed cs i.expr)) 256 (omega (arith, w, placed_parts cs i.expr))

-- ---- expressions over groups

pub over_length : (cs : List SourceColumn) (gs : List ℕ) (before : List Aggregate) (xs : List SqlExpr) → length (all_over cs gs before xs) ≡ length xs
over_length cs gs before [] = refl
over_length cs gs before (x ∷ xs) = ap suc (over_length cs gs (before ++ aggregates_in cs x) xs)

over_safe : (cs : List SourceColumn) (gs : List ℕ) (before : List Aggregate) (xs : List SqlExpr) → list_all (is_condition true) xs ≡ true → cannot_fault (all_over cs gs before xs) ≡ true
over_safe cs gs before [] h = refl
over_safe cs gs before (x ∷ xs) h =
    let t = both_true (is_condition true x) (list_all (is_condition true) xs) h in
    let u = both_true (is_cond true x) (nat_le (weight x) 256) t.0 in
    rw (cond_over cs gs before x u.0, over_safe cs gs (before ++ aggregates_in cs x) xs t.1) refl

over_small : (cs : List SourceColumn) (gs : List ℕ) (before : List Aggregate) (xs : List SqlExpr) → list_all (λ x. nat_le (weight x) 256) xs ≡ true → are_small (all_over cs gs before xs) ≡ true
over_small cs gs before [] h = refl
over_small cs gs before (x ∷ xs) h =
    let t = both_true (nat_le (weight x) 256) (list_all (λ x. nat_le (weight x) 256) xs) h in
    let w : weight x ≤ 256 = leb-true (weight x) 256 t.0 in
    rw (le-leb (parts (over_groups cs gs before x)) 256 (omega (arith, w, over_parts cs gs before x)), over_small cs gs (before ++ aggregates_in cs x) xs t.1) refl

arguments_small : (cs : List SourceColumn) (xs : List SqlExpr) → list_all (λ x. nat_le (weight x) 256) xs ≡ true → are_small (arguments (all_aggregates cs xs)) ≡ true
arguments_small cs [] h = refl
arguments_small cs (x ∷ xs) h =
    let t = both_true (nat_le (weight x) 256) (list_all (λ x. nat_le (weight x) 256) xs) h in
    small_append (aggregates_in cs x) (all_aggregates cs xs) (small_arguments cs x (leb-true (weight x) 256 t.0)) (arguments_small cs xs t.1)

all_below_over : (cs : List SourceColumn) (gs : List ℕ) (before : List Aggregate) (n : ℕ) (xs : List SqlExpr) → list_any has_ungrouped (map (findings cs gs) xs) ≡ false → length gs ≤ n
    → length gs + (length before + length (all_aggregates cs xs)) ≤ n → are_below n (all_over cs gs before xs) ≡ true
all_below_over cs gs before n [] h g l = refl
all_below_over cs gs before n (x ∷ xs) h g l =
    let p = or_parts (findings cs gs x).ungrouped (list_any has_ungrouped (map (findings cs gs) xs)) h in
    let len = length-append (aggregates_in cs x) (all_aggregates cs xs) in
    let front = length-append before (aggregates_in cs x) in
    rw (over_below cs gs before n x p.0 g (omega (arith, l, len)), all_below_over cs gs (before ++ aggregates_in cs x) n xs p.1 g (omega (arith, l, len, front))) refl

-- ---- nothing counts over several sources

items_pairs : (cs : List SourceColumn) (items : List Item) → list_all item_fits items ≡ true → list_any item_counts items ≡ false → list_all stands_over_pairs (all_aggregates cs (item_exprs items)) ≡ true
items_pairs cs [] f h = refl
items_pairs cs (i ∷ items) f h =
    let t = both_true (item_fits i) (list_all item_fits items) f in
    let u = both_true (is_sum true i.expr) (nat_le (weight i.expr) 256) t.0 in
    let p = or_parts (item_counts i) (list_any item_counts items) h in
    pairs_append (aggregates_in cs i.expr) (all_aggregates cs (item_exprs items)) (sum_pairs cs i.expr u.0 p.0) (items_pairs cs items t.1 p.1)

conds_pairs : (cs : List SourceColumn) (xs : List SqlExpr) → list_all (is_condition true) xs ≡ true → list_any counts_rows xs ≡ false → list_all stands_over_pairs (all_aggregates cs xs) ≡ true
conds_pairs cs [] f h = refl
conds_pairs cs (x ∷ xs) f h =
    let t = both_true (is_condition true x) (list_all (is_condition true) xs) f in
    let u = both_true (is_cond true x) (nat_le (weight x) 256) t.0 in
    let p = or_parts (counts_rows x) (list_any counts_rows xs) h in
    pairs_append (aggregates_in cs x) (all_aggregates cs xs) (cond_pairs cs x u.0 p.0) (conds_pairs cs xs t.1 p.1)

two_not : (n : ℕ) → nat_le (suc (suc n)) 1 ≡ false
two_not n = go (nat_le (suc (suc n)) 1) refl
  where
    go : (b : Bool) → nat_le (suc (suc n)) 1 ≡ b → b ≡ false
    go true e = let l = leb-true (suc (suc n)) 1 e in absurd (omega (arith, l))
    go false e = refl

one_or_pairs : (numbers : List ℕ) (aggs : List Aggregate) → (nat_le (length numbers) 1 ≡ false → list_all stands_over_pairs aggs ≡ true) → fit_sources numbers aggs ≡ true
one_or_pairs [] aggs h = refl
one_or_pairs (n ∷ []) aggs h = refl
one_or_pairs (n ∷ m ∷ ns) aggs h = h (two_not (length ns))

-- ---- the columns to sort by

count_none : {X : Type 0} (p : X → Bool) (n : ℕ) (xs : List X) → list_any p xs ≡ false → fold (λ (a : ℕ) (x : X). a + cond (p x) 1 0) n xs ≡ n
count_none p n [] h = refl
count_none p n (x ∷ xs) h =
    let t = or_parts (p x) (list_any p xs) h in
    let z : n + cond (p x) 1 0 ≡ n = rw t.0 (omega arith) in
    rw z (count_none p n xs t.1)

counted : {X : Type 0} (p : X → Bool) (xs : List X) → (count_by p xs == 0) ≡ false → list_any p xs ≡ true
counted {X} p xs h = go (list_any p xs) refl
  where
    go : (b : Bool) → list_any p xs ≡ b → list_any p xs ≡ true
    go true e = e
    go false e = let z : count_by p xs ≡ 0 = count_none p 0 xs e in let k : (0 == 0) ≡ false = subst (λ (n : ℕ). (n == 0) ≡ false) z h in cc

place_there : (place n : ℕ) → (cond (nat_lt 0 place && nat_le place n) 1 0 == 0) ≡ false → place - 1 < n
place_there place n h = go (nat_lt 0 place) (nat_le place n) refl refl h
  where
    go : (a b : Bool) → nat_lt 0 place ≡ a → nat_le place n ≡ b → (cond (a && b) 1 0 == 0) ≡ false → place - 1 < n
    go true true ea eb h = let x = ltb-true 0 place ea in let y = leb-true place n eb in omega (arith, x, y)
    go true false ea eb h = cc
    go false b ea eb h = cc

key_within : (items : List Item) (by : OrderBy) → (key_count items by == 0) ≡ false → key_column items by < length items
key_within items (by.Column name) h = found_within (has_name name) items (counted (has_name name) items h)
key_within items (by.Place place) h = place_there place (length items) h

with_key_within : (n : ℕ) (keys : List SortKey) (key : SortKey) → are_within keys n ≡ true → key.column < n → are_within (with_key keys key) n ≡ true
with_key_within n keys key h l = go (is_ordered keys key.column)
  where
    go : (b : Bool) → are_within (cond b keys (keys ++ key ∷ [])) n ≡ true
    go true = h
    go false = rw (list_all-append (λ (k : SortKey). nat_lt k.column n) keys (key ∷ []), h, lt-ltb key.column n l) refl

pub order_within : (items : List Item) (done : List SortKey) (keys : List OrderKey) → are_within done (length items) ≡ true → list_any (is_no_key items) keys ≡ false
    → are_within (fold (λ kept key. with_key kept (sort_key items key)) done keys) (length items) ≡ true
order_within items done [] h k = h
order_within items done (key ∷ keys) h k =
    let t = or_parts (is_no_key items key) (list_any (is_no_key items) keys) k in
    order_within items (with_key done (sort_key items key)) keys (with_key_within (length items) done (sort_key items key) h (key_within items key.by t.0)) t.1

-- ---- together

small_four : (a b c d : List Expr) → are_small a ≡ true → are_small b ≡ true → are_small c ≡ true → are_small d ≡ true → are_small (a ++ b ++ c ++ d) ≡ true
small_four a b c d ha hb hc hd =
    let small = λ (x : Expr). nat_le (parts x) 256 in
    list_all-append small (a ++ b ++ c) d ∙ both (list_all small (a ++ b ++ c)) (list_all small d)
    (list_all-append small (a ++ b) c ∙ both (list_all small (a ++ b)) (list_all small c) (list_all-append small a b ∙ both (list_all small a) (list_all small b) ha hb) hc) hd

same_found : (cs : List SourceColumn) (gs : List ℕ) (items : List Item) → map (findings cs gs) (item_exprs items) ≡ item_findings cs gs items
same_found cs gs [] = refl
same_found cs gs (i ∷ items) = ap (λ (z : List Findings). findings cs gs i.expr ∷ z) (same_found cs gs items)

pub items_light : (items : List Item) → list_all item_fits items ≡ true → list_all (λ x. nat_le (weight x) 256) (item_exprs items) ≡ true
items_light [] h = refl
items_light (i ∷ items) h =
    let t = both_true (item_fits i) (list_all item_fits items) h in
    let u = both_true (is_sum true i.expr) (nat_le (weight i.expr) 256) t.0 in
    rw (u.1, items_light items t.1) refl

pub conds_light : (xs : List SqlExpr) → list_all (is_condition true) xs ≡ true → list_all (λ x. nat_le (weight x) 256) xs ≡ true
conds_light [] h = refl
conds_light (x ∷ xs) h =
    let t = both_true (is_condition true x) (list_all (is_condition true) xs) h in
    let u = both_true (is_cond true x) (nat_le (weight x) 256) t.0 in
    rw (u.1, conds_light xs t.1) refl

-- what a SELECT without faults keeps, over its columns and its select list
pub record Sound (defs : Defs) (s : SelectStatement) (cs : List SourceColumn) (items : List Item) (groups : List ℕ) (grouped : Bool) : Type 0 where
  pub tables : list_any (is_no_table defs) s.sources ≡ false
  pub some_sources : 1 ≤ length s.sources
  pub few_sources : length s.sources ≤ 8
  pub some_items : 0 < length items
  pub few_items : length items ≤ 64
  pub items_fit : list_all item_fits items ≡ true
  pub conds : list_all (is_condition false) s.conds ≡ true
  pub having : list_all (is_condition true) (given s.having) ≡ true
  pub counts : nat_le (length s.sources) 1 ≡ false → (list_any item_counts items ≡ false) × (list_any counts_rows (given s.having) ≡ false)
  pub ungrouped : grouped ≡ false → groups ≡ []
  pub in_items : grouped ≡ true → list_any has_ungrouped (item_findings cs groups items) ≡ false
  pub in_having : grouped ≡ true → list_any has_ungrouped (all_findings cs groups (given s.having)) ≡ false
  pub keys : list_any (is_no_key items) s.keys ≡ false

ready_plain : (defs : Defs) (s : SelectStatement) (cs : List SourceColumn) (items : List Item) (groups : List ℕ) → Sound defs s cs items groups false
    → IsReady (query_parts s (flat_map (number_of defs) s.sources) (map (placed cs) s.conds) false groups (plain_outputs cs items) (order_of items s.keys))
ready_plain defs s cs items groups k =
    let numbers = numbers_length defs s.sources k.tables in
    let count : length (map (placed_item cs) items) ≡ length items = length-map items (placed_item cs) in
    let small_conds = all_map (λ (x : Expr). nat_le (parts x) 256) (is_condition false) (placed cs) (conds_small cs) s.conds k.conds in
    let small_items = all_map (λ (x : Expr). nat_le (parts x) 256) item_fits (placed_item cs) (item_small cs) items k.items_fit in
    record {
      some_sources = omega (arith, numbers, k.some_sources);
      few_sources = omega (arith, numbers, k.few_sources);
      some_items = omega (arith, count, k.some_items);
      few_items = omega (arith, count, k.few_items);
      conds_fault_never = all_map (λ (x : Expr). not (has_arith x)) (is_condition false) (placed cs) (conds_safe cs) s.conds k.conds;
      having_faults_never = refl;
      small = small_four (map (placed cs) s.conds) [] (map (placed_item cs) items) [] small_conds refl small_items refl;
      plain = rw (k.ungrouped refl) refl;
      counts_of_one = one_or_pairs (flat_map (number_of defs) s.sources) [] (λ _. refl);
      group_columns = refl;
      order_columns = subst (λ (n : ℕ). are_within (order_of items s.keys) n ≡ true) (sym count) (order_within items [] s.keys refl k.keys);
    }

ready_grouped : (defs : Defs) (s : SelectStatement) (cs : List SourceColumn) (items : List Item) (groups : List ℕ) → Sound defs s cs items groups true
    → IsReady (query_parts s (flat_map (number_of defs) s.sources) (map (placed cs) s.conds) true groups (grouped_outputs cs groups items (given s.having)) (order_of items s.keys))
ready_grouped defs s cs items groups k =
    let es = item_exprs items in
    let having = given s.having in
    let of_items = all_aggregates cs es in
    let of_having = all_aggregates cs having in
    let numbers = numbers_length defs s.sources k.tables in
    let count : length (all_over cs groups [] es) ≡ length items = over_length cs groups [] es ∙ length-map items (λ (i : Item). i.expr) in
    let len : length (of_items ++ of_having) ≡ length of_items + length of_having = length-append of_items of_having in
    let n = length groups + length (of_items ++ of_having) in
    let clear_items : list_any has_ungrouped (map (findings cs groups) es) ≡ false = subst (λ (z : List Findings). list_any has_ungrouped z ≡ false) (sym (same_found cs groups items)) (k.in_items refl) in
    let small_conds = all_map (λ (x : Expr). nat_le (parts x) 256) (is_condition false) (placed cs) (conds_small cs) s.conds k.conds in
    let light_items = items_light items k.items_fit in
    let light_having = conds_light having k.having in
    let pairs = λ (h : nat_le (length s.sources) 1 ≡ false). pairs_append of_items of_having (items_pairs cs items k.items_fit (k.counts h).0) (conds_pairs cs having k.having (k.counts h).1) in
    record {
      some_sources = omega (arith, numbers, k.some_sources);
      few_sources = omega (arith, numbers, k.few_sources);
      some_items = omega (arith, count, k.some_items);
      few_items = omega (arith, count, k.few_items);
      conds_fault_never = all_map (λ (x : Expr). not (has_arith x)) (is_condition false) (placed cs) (conds_safe cs) s.conds k.conds;
      having_faults_never = over_safe cs groups of_items having k.having;
      small = small_four (map (placed cs) s.conds) (all_over cs groups of_items having) (all_over cs groups [] es) (arguments (of_items ++ of_having)) small_conds
          (over_small cs groups of_items having light_having) (over_small cs groups [] es light_items)
          (small_append of_items of_having (arguments_small cs es light_items) (arguments_small cs having light_having));
      plain = refl;
      counts_of_one = one_or_pairs (flat_map (number_of defs) s.sources) (of_items ++ of_having)
          (subst (λ (m : ℕ). nat_le m 1 ≡ false → list_all stands_over_pairs (of_items ++ of_having) ≡ true) (sym numbers) pairs);
      group_columns = rw (
        list_all-append (is_below n) (all_over cs groups of_items having) (all_over cs groups [] es),
        all_below_over cs groups of_items n having (k.in_having refl) (omega arith) (omega (arith, len)),
        all_below_over cs groups [] n es clear_items (omega arith) (omega (arith, len)),
      ) refl;
      order_columns = subst (λ (m : ℕ). are_within (order_of items s.keys) m ≡ true) (sym count) (order_within items [] s.keys refl k.keys);
    }

ready_over : (defs : Defs) (s : SelectStatement) (cs : List SourceColumn) (items : List Item) (groups : List ℕ) (grouped : Bool) → Sound defs s cs items groups grouped
    → IsReady (query_parts s (flat_map (number_of defs) s.sources) (map (placed cs) s.conds) grouped groups (outputs cs groups grouped items (given s.having)) (order_of items s.keys))
ready_over defs s cs items groups false k = ready_plain defs s cs items groups k
ready_over defs s cs items groups true k = ready_grouped defs s cs items groups k

-- ---- the select list as it is read

written_fit : (cs : List SourceColumn) → list_all item_fits (map item_of cs) ≡ true
written_fit [] = refl
written_fit (c ∷ cs) = written_fit cs

written_count : (cs : List SourceColumn) → list_any item_counts (map item_of cs) ≡ false
written_count [] = refl
written_count (c ∷ cs) = written_count cs

read_fit : (cs : List SourceColumn) (s : SelectStatement) → list_all item_fits s.items ≡ true → list_all item_fits (read_items cs s) ≡ true
read_fit cs s h = go (length s.items == 0)
  where
    go : (b : Bool) → list_all item_fits (cond b (cond b (map item_of cs) []) s.items) ≡ true
    go true = written_fit cs
    go false = h

read_count : (cs : List SourceColumn) (s : SelectStatement) → list_any item_counts s.items ≡ false → list_any item_counts (read_items cs s) ≡ false
read_count cs s h = go (length s.items == 0)
  where
    go : (b : Bool) → list_any item_counts (cond b (cond b (map item_of cs) []) s.items) ≡ false
    go true = written_count cs
    go false = h

some_item : (items : List Item) → (length items == 0) ≡ false → 0 < length items
some_item [] e = cc
some_item (i ∷ items) e = omega arith

read_some : (cs : List SourceColumn) (s : SelectStatement) → 0 < length cs → 0 < length (read_items cs s)
read_some cs s h = go (length s.items == 0) refl
  where
    go : (b : Bool) → (length s.items == 0) ≡ b → 0 < length (cond b (cond b (map item_of cs) []) s.items)
    go true e = omega (arith, length-map cs item_of, h)
    go false e = some_item s.items e

columns_some : (defs : Defs) (sources : List SourceName) → starts_with_columns defs sources ≡ true → 0 < length (scope defs (take 8 sources))
columns_some defs [] h = cc
columns_some defs (s ∷ sources) h =
    let w = ltb-true 0 (length (source_columns defs s)) h in
    omega (arith, w, length-append (source_columns defs s) (scope defs (take 7 sources)))

pub not_zero : (n : ℕ) → (suc n == 0) ≡ false
not_zero n = go (suc n == 0) refl
  where
    go : (b : Bool) → (suc n == 0) ≡ b → b ≡ false
    go true e = let l : suc n ≡ 0 = eqb-true (suc n) 0 e in absurd (omega (arith, l))
    go false e = refl

no_groups : (cs : List SourceColumn) (rs : List ColumnRef) → not (length rs == 0) ≡ false → group_places cs rs ≡ []
no_groups cs [] h = refl
no_groups cs (r ∷ rs) h = let k : true ≡ false = sym (ap not (not_zero (length rs))) ∙ h in cc

and_false : (a b : Bool) → (a && b) ≡ false → a ≡ true → b ≡ false
and_false true b h e = h
and_false false b h e = cc

count_parts : (a b c : Bool) → (a || not (b || c)) ≡ true → a ≡ false → (b ≡ false) × (c ≡ false)
count_parts true b c h e = cc
count_parts false true c h e = cc
count_parts false false true h e = cc
count_parts false false false h e = (refl, refl)

last_false : (p q r v k : Bool) → (p || (q || (r || (v || k)))) ≡ false → k ≡ false
last_false true q r v k h = cc
last_false false true r v k h = cc
last_false false false true v k h = cc
last_false false false false true k h = cc
last_false false false false false k h = h

pub sound : (defs : Defs) (s : SelectStatement) → select_fits s ≡ true → first_of (query_faults defs s) ≡ None → starts_with_columns defs s.sources ≡ true
    → Sound defs s (read_columns defs s) (read_items (read_columns defs s) s) (read_groups (read_columns defs s) s) (is_grouped (item_findings (read_columns defs s) (read_groups (read_columns defs s) s) (read_items (read_columns defs s) s)) s)
sound defs s fits none starts =
    let cs = read_columns defs s in
    let items = read_items cs s in
    let groups = read_groups cs s in
    let of_items = item_findings cs groups items in
    let of_conds = all_findings cs groups s.conds in
    let of_having = all_findings cs groups (given s.having) in
    let grouped = is_grouped of_items s in
    let f = faultless (query_faults defs s) none in
    let t = both_true (list_all item_fits s.items) (list_all (is_condition false) s.conds && (list_all (is_condition true) (given s.having) && (sources_fit s && counts_one_source s))) fits in
    let u = both_true (list_all (is_condition false) s.conds) (list_all (is_condition true) (given s.having) && (sources_fit s && counts_one_source s)) t.1 in
    let v = both_true (list_all (is_condition true) (given s.having)) (sources_fit s && counts_one_source s) u.1 in
    let w = both_true (sources_fit s) (counts_one_source s) v.1 in
    let x = both_true (nat_le 1 (length s.sources)) (nat_le (length s.conds) (length s.sources)) w.0 in
    let limits = or_parts (nat_lt 8 (length s.sources)) (nat_lt 64 (length items) || (list_any has_long of_items || (list_any has_long of_conds || list_any has_long of_having))) f.limit in
    let widths = or_parts (nat_lt 64 (length items)) (list_any has_long of_items || (list_any has_long of_conds || list_any has_long of_having)) limits.1 in
    record {
      tables = f.undefined_table;
      some_sources = leb-true 1 (length s.sources) x.0;
      few_sources = ltb-false 8 (length s.sources) limits.0;
      some_items = read_some cs s (columns_some defs s.sources starts);
      few_items = ltb-false 64 (length items) widths.0;
      items_fit = read_fit cs s t.0;
      conds = u.0;
      having = v.0;
      counts = λ h. let p = count_parts (nat_le (length s.sources) 1) (list_any item_counts s.items) (list_any counts_rows (given s.having)) w.1 h in (read_count cs s p.0, p.1);
      ungrouped = λ h. no_groups cs s.groups (or_left (not (length s.groups == 0)) (is_some s.having || list_any (λ (g : Findings). g.aggregate) of_items) h);
      in_items = λ h. (or_parts (list_any has_ungrouped of_items) (list_any has_ungrouped of_having) (and_false grouped (leaves_groups of_items of_having) f.not_grouped h)).0;
      in_having = λ h. (or_parts (list_any has_ungrouped of_items) (list_any has_ungrouped of_having) (and_false grouped (leaves_groups of_items of_having) f.not_grouped h)).1;
      keys = last_false (list_any has_unknown of_items) (list_any has_unknown of_conds) (list_any has_unknown of_having) (list_any (fits_none cs) s.groups) (list_any (is_no_key items) s.keys) f.undefined_column;
    }

pub ready : (defs : Defs) (s : SelectStatement) → select_fits s ≡ true → first_of (query_faults defs s) ≡ None → starts_with_columns defs s.sources ≡ true → IsReady (bound_query defs s)
ready defs s fits none starts =
    let cs = read_columns defs s in
    let items = read_items cs s in
    let groups = read_groups cs s in
    ready_over defs s cs items groups (is_grouped (item_findings cs groups items) s) (sound defs s fits none starts)
