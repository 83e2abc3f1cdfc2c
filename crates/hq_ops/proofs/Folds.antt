-- One more row of what an aggregate reads.
use Rattle.std.proofs.Common.{List, [], ◌∷◌, ◌++◌, map, ◌≡◌, ℤ, Option, Some, None, refl, sym, ◌∙◌, ap}
use Rattle.std.proofs.lemmas.List.{map-append}
use Rattle.hq_value.specs.declared.value.Value.{Value}
use Rattle.hq_value.specs.declared.value.Value.TheVariants as value
use Rattle.hq_value.specs.Order.{value_cmp}
use Rattle.hq_meaning.specs.Rows.{Row}
use Rattle.hq_meaning.specs.Aggregates.{number, from_number, sum_of, plus, sooner, falling_cmp, together, over}
use Rattle.hq_meaning.proofs.Together.{over-append}
use Rattle.hq_ops.specs.declared.best.Extreme.{Extreme}
use Rattle.hq_ops.specs.declared.best.Extreme.TheVariants as extreme
use Rattle.hq_ops.specs.declared.column.Column.{Column}
use Rattle.hq_ops.specs.declared.column.Column.TheVariants as reads_of
use Rattle.hq_ops.specs.declared.running.Running.TheVariants as running
use Rattle.hq_ops.specs.Folds.{order_of}
use Rattle.hq_ops.specs.Columns.{reads, seeks, alike, joins, comes, seen}

pub number-back : (o : Option ℤ) → number (from_number o) ≡ o
number-back None = refl
number-back (Some n) = refl

sum-none : (o : Option ℤ) → sum_of o None ≡ o
sum-none None = refl
sum-none (Some n) = refl

-- what is no number adds nothing
pub plus-none : (o : Option ℤ) (v : Value) → number v ≡ None → from_number o ≡ plus (from_number o) v
plus-none o v h = sym (ap from_number ((λ i. sum_of (number-back o i) (h i)) ∙ sum-none o))

-- a number more
pub plus-some : (old new : Option ℤ) (v : Value) (n : ℤ) → number v ≡ Some n → new ≡ sum_of old (Some n) → from_number new ≡ plus (from_number old) v
plus-some old new v n h e = ap from_number (e ∙ (λ i. sum_of (sym (number-back old) i) (sym h i)))

-- the same where what is added is told by its value
pub plus-told : (old new more : Option ℤ) (v : Value) → new ≡ sum_of old more → from_number more ≡ v → from_number new ≡ plus (from_number old) v
plus-told old new more v e told = ap from_number (e ∙ (λ i. sum_of (sym (number-back old) i) ((sym (number-back more) ∙ ap number told) i)))

plus-alone : (u v : Value) → plus u (plus v value.Null) ≡ plus u v
plus-alone u v = ap (λ o. from_number (sum_of (number u) o)) (number-back (sum_of (number v) None) ∙ sum-none (number v))

least-alone : (v : Value) → sooner value_cmp v value.Null ≡ v
least-alone (value.Bool b) = refl
least-alone (value.Int n) = refl
least-alone (value.Text s) = refl
least-alone value.Null = refl

greatest-alone : (v : Value) → sooner falling_cmp v value.Null ≡ v
greatest-alone (value.Bool b) = refl
greatest-alone (value.Int n) = refl
greatest-alone (value.Text s) = refl
greatest-alone value.Null = refl

sought-alone : (x : Extreme) (u v : Value) → together (seeks x) u (together (seeks x) v value.Null) ≡ together (seeks x) u v
sought-alone extreme.Least u v = ap (sooner value_cmp u) (least-alone v)
sought-alone extreme.Greatest u v = ap (sooner falling_cmp u) (greatest-alone v)

alone : (c : Column) (u v : Value) → joins c u (joins c v value.Null) ≡ joins c u v
alone reads_of.Rows u v = plus-alone u v
alone (reads_of.Present e) u v = plus-alone u v
alone (reads_of.Sum e) u v = plus-alone u v
alone (reads_of.Best x e) u v = sought-alone x u v
alone (reads_of.SumAt place) u v = plus-alone u v
alone (reads_of.HalvesAt place) u v = plus-alone u v
alone (reads_of.BestAt x place) u v = sought-alone x u v

pub comes-push : (c : Column) (rows : List Row) (r : Row) → comes c (rows ++ r ∷ []) ≡ joins c (comes c rows) (reads c r)
comes-push c rows r = ap (over (alike c)) (map-append (reads c) rows (r ∷ [])) ∙ over-append (alike c) (map (reads c) rows) (reads c r ∷ []) ∙ alone c (comes c rows) (reads c r)

pub seen-nothing : (c : Column) → seen c running.Nothing ≡ value.Null
seen-nothing reads_of.Rows = refl
seen-nothing (reads_of.Present e) = refl
seen-nothing (reads_of.Sum e) = refl
seen-nothing (reads_of.Best x e) = refl
seen-nothing (reads_of.SumAt place) = refl
seen-nothing (reads_of.HalvesAt place) = refl
seen-nothing (reads_of.BestAt x place) = refl

-- the least and the greatest come together by their order
pub sought : (x : Extreme) (u v : Value) → together (seeks x) u v ≡ sooner (order_of x) u v
sought extreme.Least u v = refl
sought extreme.Greatest u v = refl
