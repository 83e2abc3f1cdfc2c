-- Groups by what partial and final aggregates read are the rows of those operators, with equal faults.
use Rattle.std.proofs.Common.{◌≡◌, ℕ, ◌+◌, Bool, false, ◌||◌, List, [], ◌∷◌, ◌++◌, map, take, refl, ◌∙◌, ap}
use Rattle.std.specs.Prelude.{flat_map}
use Rattle.std.specs.Borrow.{Bor}
use Rattle.std.specs.List.{list_any}
use Rattle.hq_value.specs.Order.{value_cmp}
use Rattle.hq_value.specs.declared.value.Value.{Value}
use Rattle.hq_algebra.specs.declared.expr.Expr.{Expr}
use Rattle.hq_algebra.specs.declared.aggregate.Aggregate.{Aggregate}
use Rattle.hq_algebra.specs.declared.aggregate.Aggregate.TheVariants as agg
use Rattle.hq_algebra.specs.Eval.{column}
use Rattle.hq_meaning.specs.Rows.{Row}
use Rattle.hq_meaning.specs.Aggregates.{added, over, plus, leaves_64, or_zero, is_out, argument_faults, sooner, falling_cmp}
use Rattle.hq_meaning.specs.Groups.{key_of, members}
use Rattle.hq_meaning.specs.Halves.{halves, whole}
use Rattle.hq_meaning.specs.Operators as spec
use Rattle.hq_ops.specs.declared.best.Extreme.TheVariants as extreme
use Rattle.hq_ops.specs.declared.column.Column.{Column}
use Rattle.hq_ops.specs.declared.column.Column.TheVariants as reads_of
use Rattle.hq_ops.specs.declared.groups.GroupBy.TheVariants as by
use Rattle.hq_ops.specs.Columns.{reads, reads_fault, seeks}
use Rattle.hq_ops.specs.Gathering.{row_faults, given_over, leaves_over, group_rows, group_leaves, group_keys_by}
use Rattle.hq_ops.specs.Grouped.{IsPartial, ArePartial, final_column, final_columns}

-- sums of any aggregate are alike
over-count : (e : Expr) (vs : List Value) → over agg.CountAll vs ≡ over (agg.Count e) vs
over-count e [] = refl
over-count e (v ∷ vs) = ap (plus v) (over-count e vs)

over-sum : (e : Expr) (vs : List Value) → over agg.CountAll vs ≡ over (agg.Sum e) vs
over-sum e [] = refl
over-sum e (v ∷ vs) = ap (plus v) (over-sum e vs)

over-least : (e : Expr) (vs : List Value) → over (seeks extreme.Least) vs ≡ over (agg.Min e) vs
over-least e [] = refl
over-least e (v ∷ vs) = ap (sooner value_cmp v) (over-least e vs)

over-greatest : (e : Expr) (vs : List Value) → over (seeks extreme.Greatest) vs ≡ over (agg.Max e) vs
over-greatest e [] = refl
over-greatest e (v ∷ vs) = ap (sooner falling_cmp v) (over-greatest e vs)

pub partial-rows-column : IsPartial agg.CountAll reads_of.Rows
partial-rows-column = record { gives = λ rows. refl; faults = λ row. refl; never_leaves = λ rows. refl }

pub partial-count : (f : Bor Expr) → IsPartial (agg.Count f.now) (reads_of.Present f)
partial-count f = record { gives = λ rows. ap (λ v. or_zero v ∷ []) (over-count f.now (map (reads (reads_of.Present f)) rows)); faults = λ row. refl; never_leaves = λ rows. refl }

pub partial-sum : (f : Bor Expr) → IsPartial (agg.Sum f.now) (reads_of.Sum f)
partial-sum f = record { gives = λ rows. ap halves (over-sum f.now (map (reads (reads_of.Sum f)) rows)); faults = λ row. refl; never_leaves = λ rows. refl }

pub partial-least : (f : Bor Expr) → IsPartial (agg.Min f.now) (reads_of.Best extreme.Least f)
partial-least f = record { gives = λ rows. ap (λ v. v ∷ []) (over-least f.now (map (reads (reads_of.Best extreme.Least f)) rows)); faults = λ row. refl; never_leaves = λ rows. refl }

pub partial-greatest : (f : Bor Expr) → IsPartial (agg.Max f.now) (reads_of.Best extreme.Greatest f)
partial-greatest f = record { gives = λ rows. ap (λ v. v ∷ []) (over-greatest f.now (map (reads (reads_of.Best extreme.Greatest f)) rows)); faults = λ row. refl; never_leaves = λ rows. refl }

pub partial-push : (aggs : List Aggregate) (cs : List Column) (a : Aggregate) (c : Column) → ArePartial aggs cs → IsPartial a c → ArePartial (aggs ++ a ∷ []) (cs ++ c ∷ [])
partial-push [] [] a c all one = (one, tt)
partial-push [] (d ∷ cs) a c all one = absurd all
partial-push (b ∷ aggs) [] a c all one = absurd all
partial-push (b ∷ aggs) (d ∷ cs) a c all one = (all.0, partial-push aggs cs a c all.1 one)

map-same : {X Y : Type 0} (f g : X → Y) → ((x : X) → f x ≡ g x) → (xs : List X) → map f xs ≡ map g xs
map-same f g h [] = refl
map-same f g h (x ∷ xs) = λ i. h x i ∷ map-same f g h xs i

any-alike : {X : Type 0} (p q : X → Bool) → ((x : X) → p x ≡ q x) → (xs : List X) → list_any p xs ≡ list_any q xs
any-alike p q h [] = refl
any-alike p q h (x ∷ xs) = λ i. h x i || any-alike p q h xs i

any-never : {X : Type 0} (xs : List X) → list_any (λ (x : X). false) xs ≡ false
any-never [] = refl
any-never (x ∷ xs) = any-never xs

partial-given : (aggs : List Aggregate) (cs : List Column) → ArePartial aggs cs → (rows : List Row) → flat_map (given_over rows) cs ≡ flat_map (λ a. spec.columns_of a (over a (map (added a) rows))) aggs
partial-given [] [] all rows = refl
partial-given [] (c ∷ cs) all rows = absurd all
partial-given (a ∷ aggs) [] all rows = absurd all
partial-given (a ∷ aggs) (c ∷ cs) all rows = λ i. all.0.gives rows i ++ partial-given aggs cs all.1 rows i

partial-row-faults : (aggs : List Aggregate) (cs : List Column) → ArePartial aggs cs → (row : Row) → row_faults cs row ≡ list_any (λ a. argument_faults a row) aggs
partial-row-faults [] [] all row = refl
partial-row-faults [] (c ∷ cs) all row = absurd all
partial-row-faults (a ∷ aggs) [] all row = absurd all
partial-row-faults (a ∷ aggs) (c ∷ cs) all row = λ i. all.0.faults row i || partial-row-faults aggs cs all.1 row i

partial-never : (aggs : List Aggregate) (cs : List Column) → ArePartial aggs cs → (rows : List Row) → list_any (leaves_over rows) cs ≡ false
partial-never [] [] all rows = refl
partial-never [] (c ∷ cs) all rows = absurd all
partial-never (a ∷ aggs) [] all rows = absurd all
partial-never (a ∷ aggs) (c ∷ cs) all rows = λ i. all.0.never_leaves rows i || partial-never aggs cs all.1 rows i

pub partial-is : (places : Bor (List ℕ)) (aggs : List Aggregate) (cs : List Column) (rows : List Row) → ArePartial aggs cs → group_rows (by.Columns places) cs rows ≡ spec.partial places.now aggs rows
partial-is places aggs cs rows all = map-same _ _ (λ k. ap (λ l. k ++ l) (partial-given aggs cs all (members (key_of places.now) k rows))) (group_keys_by (by.Columns places) rows)

pub partial-faults-are : (aggs : List Aggregate) (cs : List Column) (rows : List Row) → ArePartial aggs cs → list_any (row_faults cs) rows ≡ spec.partial_faults aggs rows
partial-faults-are aggs cs rows all = any-alike _ _ (partial-row-faults aggs cs all) rows

pub partial-leaves-never : (places : Bor (List ℕ)) (aggs : List Aggregate) (cs : List Column) (rows : List Row) → ArePartial aggs cs → group_leaves (by.Columns places) cs rows ≡ false
partial-leaves-never places aggs cs rows all = any-alike _ _ (λ k. partial-never aggs cs all (members (key_of places.now) k rows)) (group_keys_by (by.Columns places) rows) ∙ any-never (group_keys_by (by.Columns places) rows)

-- final aggregates
final-value : (a : Aggregate) (at : ℕ) (rows : List Row) → given_over rows (final_column a at) ≡ spec.final_value a at rows ∷ []
final-value agg.CountAll at rows = refl
final-value (agg.Count e) at rows = ap (λ v. or_zero v ∷ []) (over-count e (map (λ row. column row at) rows))
final-value (agg.Sum e) at rows = ap (λ v. v ∷ []) (over-sum e (map (λ row. whole (column row at) (column row (at + 1))) rows))
final-value (agg.Min e) at rows = ap (λ v. v ∷ []) (over-least e (map (λ row. column row at) rows))
final-value (agg.Max e) at rows = ap (λ v. v ∷ []) (over-greatest e (map (λ row. column row at) rows))

final-leaves : (a : Aggregate) (at : ℕ) (rows : List Row) → leaves_over rows (final_column a at) ≡ leaves_64 a (spec.final_value a at rows)
final-leaves agg.CountAll at rows = refl
final-leaves (agg.Count e) at rows = ap (λ v. is_out (or_zero v)) (over-count e (map (λ row. column row at) rows))
final-leaves (agg.Sum e) at rows = ap is_out (over-sum e (map (λ row. whole (column row at) (column row (at + 1))) rows))
final-leaves (agg.Min e) at rows = refl
final-leaves (agg.Max e) at rows = refl

final-fault : (a : Aggregate) (at : ℕ) (row : Row) → reads_fault (final_column a at) row ≡ false
final-fault agg.CountAll at row = refl
final-fault (agg.Count e) at row = refl
final-fault (agg.Sum e) at row = refl
final-fault (agg.Min e) at row = refl
final-fault (agg.Max e) at row = refl

final-given : (aggs : List Aggregate) (at : ℕ) (rows : List Row) → flat_map (given_over rows) (final_columns aggs at) ≡ spec.final_values aggs at rows
final-given [] at rows = refl
final-given (a ∷ aggs) at rows = λ i. final-value a at rows i ++ final-given aggs (at + spec.width a) rows i

final-all-leaves : (aggs : List Aggregate) (at : ℕ) (rows : List Row) → list_any (leaves_over rows) (final_columns aggs at) ≡ spec.value_leaves aggs at rows
final-all-leaves [] at rows = refl
final-all-leaves (a ∷ aggs) at rows = λ i. final-leaves a at rows i || final-all-leaves aggs (at + spec.width a) rows i

final-row-faults : (aggs : List Aggregate) (at : ℕ) (row : Row) → row_faults (final_columns aggs at) row ≡ false
final-row-faults [] at row = refl
final-row-faults (a ∷ aggs) at row = λ i. final-fault a at row i || final-row-faults aggs (at + spec.width a) row i

pub final-is : (n : ℕ) (aggs : List Aggregate) (rows : List Row) → group_rows (by.First n) (final_columns aggs n) rows ≡ spec.final n aggs rows
final-is n aggs rows = map-same _ _ (λ k. ap (λ l. k ++ l) (final-given aggs n (members (take n) k rows))) (group_keys_by (by.First n) rows)

pub final-faults-are : (n : ℕ) (aggs : List Aggregate) (rows : List Row) → group_leaves (by.First n) (final_columns aggs n) rows ≡ spec.final_faults n aggs rows
final-faults-are n aggs rows = any-alike _ _ (λ k. final-all-leaves aggs n (members (take n) k rows)) (group_keys_by (by.First n) rows)

pub final-reads-never : (aggs : List Aggregate) (at : ℕ) (rows : List Row) → list_any (row_faults (final_columns aggs at)) rows ≡ false
final-reads-never aggs at rows = any-alike _ _ (final-row-faults aggs at) rows ∙ any-never rows
