-- What small lists come to under each operator, and what they do not come to.
use Rattle.std.proofs.Common.{◌≡◌, ◌≢◌, ℕ, List, [], ◌∷◌, pos, negsuc, true, false, Some, None, refl}
use Rattle.hq_value.specs.declared.value.Value.{Value}
use Rattle.hq_value.specs.declared.value.Value.TheVariants as value
use Rattle.hq_value.specs.declared.operator.ArithKind.TheVariants as arith
use Rattle.hq_value.specs.declared.operator.CompareKind.TheVariants as compare
use Rattle.hq_algebra.specs.declared.expr.Expr.{Expr}
use Rattle.hq_algebra.specs.declared.expr.Expr.TheVariants as e
use Rattle.hq_algebra.specs.declared.aggregate.Aggregate.{Aggregate}
use Rattle.hq_algebra.specs.declared.aggregate.Aggregate.TheVariants as agg
use Rattle.hq_algebra.specs.declared.expr.Expr.TheBlock.{hidden-the_row-Expr-0}
use denote.Hole.Carrier.{hidden}
use Rattle.hq_meaning.specs.Rows.{Row}
use Rattle.hq_meaning.specs.Halves.{halves, whole}
use Rattle.hq_meaning.specs.Operators.{filtered, projected, project_faults, joined, partial, partial_faults, final, final_faults, distinct, sorted}

int : ℕ → Value
int n = value.Int (pos n)

most : Value
most = int 9223372036854775807

-- (1, 10), (NULL, 20), (2, 30), (NULL, 40)
four : List Row
four = (int 1 ∷ int 10 ∷ []) ∷ (value.Null ∷ int 20 ∷ []) ∷ (int 2 ∷ int 30 ∷ []) ∷ (value.Null ∷ int 40 ∷ []) ∷ []

-- where a > 1 is unknown, a row is not kept
above_one : Expr
above_one = e.Compare compare.Greater (e.Column 0) (e.Literal (int 1))

filtered-above_one : filtered above_one four ≡ (int 2 ∷ int 30 ∷ []) ∷ []
unfolding above_one four int hidden-the_row-Expr-0 hidden
filtered-above_one = refl

-- a + 1 at the greatest number faults, and is NULL in the list
next : Expr
next = e.Arith arith.Plus (e.Column 0) (e.Literal (int 1))

projected-next : projected (next ∷ e.Column 1 ∷ []) four ≡ (int 2 ∷ int 10 ∷ []) ∷ (value.Null ∷ int 20 ∷ []) ∷ (int 3 ∷ int 30 ∷ []) ∷ (value.Null ∷ int 40 ∷ []) ∷ []
unfolding next four int hidden-the_row-Expr-0 hidden
projected-next = refl

project_faults-next : project_faults (next ∷ []) four ≡ false
unfolding next four int hidden-the_row-Expr-0 hidden
project_faults-next = refl

project_faults-most : project_faults (next ∷ []) ((most ∷ []) ∷ []) ≡ true
unfolding next most int hidden-the_row-Expr-0 hidden
project_faults-most = refl

projected-most : projected (next ∷ []) ((most ∷ []) ∷ []) ≡ (value.Null ∷ []) ∷ []
unfolding next most int hidden-the_row-Expr-0 hidden
projected-most = refl

-- keys that are NULL match nothing; the left columns come first
letters : List Row
letters = (int 7 ∷ int 1 ∷ []) ∷ (int 8 ∷ value.Null ∷ []) ∷ (int 9 ∷ int 1 ∷ []) ∷ []

joined-letters : joined (0 ∷ []) (1 ∷ []) four letters ≡ (int 1 ∷ int 10 ∷ int 7 ∷ int 1 ∷ []) ∷ (int 1 ∷ int 10 ∷ int 9 ∷ int 1 ∷ []) ∷ []
unfolding four letters int
joined-letters = refl

-- without keys all pairs, by left row and then by right row
joined-all : joined [] [] ((int 1 ∷ []) ∷ (int 2 ∷ []) ∷ []) ((int 3 ∷ []) ∷ (int 4 ∷ []) ∷ []) ≡ (int 1 ∷ int 3 ∷ []) ∷ (int 1 ∷ int 4 ∷ []) ∷ (int 2 ∷ int 3 ∷ []) ∷ (int 2 ∷ int 4 ∷ []) ∷ []
unfolding int
joined-all = refl

joined-all-not_right_first : joined [] [] ((int 1 ∷ []) ∷ (int 2 ∷ []) ∷ []) ((int 3 ∷ []) ∷ (int 4 ∷ []) ∷ []) ≢ (int 1 ∷ int 3 ∷ []) ∷ (int 2 ∷ int 3 ∷ []) ∷ (int 1 ∷ int 4 ∷ []) ∷ (int 2 ∷ int 4 ∷ []) ∷ []
unfolding int
joined-all-not_right_first e = cc

-- the halves of a sum: the low half is never negative
halves-minus_one : halves (value.Int (negsuc 0)) ≡ value.Int (negsuc 0) ∷ most ∷ []
unfolding most int
halves-minus_one = refl

whole-minus_one : whole (value.Int (negsuc 0)) most ≡ value.Int (negsuc 0)
unfolding most int
whole-minus_one = refl

halves-twice_the_most : halves (int 18446744073709551614) ≡ int 1 ∷ int 9223372036854775806 ∷ []
unfolding int
halves-twice_the_most = refl

-- COUNT(*), SUM(b) and MAX(b) by a: NULLs are one group
totals : List Aggregate
totals = agg.CountAll ∷ agg.Sum (e.Column 1) ∷ agg.Max (e.Column 1) ∷ []

partial-four : partial (0 ∷ []) totals four ≡ (int 1 ∷ int 1 ∷ int 0 ∷ int 10 ∷ int 10 ∷ []) ∷ (value.Null ∷ int 2 ∷ int 0 ∷ int 60 ∷ int 40 ∷ []) ∷ (int 2 ∷ int 1 ∷ int 0 ∷ int 30 ∷ int 30 ∷ []) ∷ []
unfolding totals four int
partial-four = refl

-- without keys one row over no input: a count of 0, and NULL in both halves
partial-nothing : partial [] totals [] ≡ (int 0 ∷ value.Null ∷ value.Null ∷ value.Null ∷ []) ∷ []
unfolding totals int
partial-nothing = refl

partial-no_group : partial (0 ∷ []) totals [] ≡ []
unfolding totals
partial-no_group = refl

partial_faults-most : partial_faults (agg.Count next ∷ []) ((most ∷ []) ∷ []) ≡ true
unfolding next most int hidden-the_row-Expr-0 hidden
partial_faults-most = refl

-- Final adds the counts of the partial rows, and does not count them
final-counts : final 1 (agg.CountAll ∷ []) ((int 1 ∷ int 2 ∷ []) ∷ (int 4 ∷ int 5 ∷ []) ∷ (int 1 ∷ int 3 ∷ []) ∷ []) ≡ (int 1 ∷ int 5 ∷ []) ∷ (int 4 ∷ int 5 ∷ []) ∷ []
unfolding int
final-counts = refl

final-counts-not_counted : final 1 (agg.CountAll ∷ []) ((int 1 ∷ int 2 ∷ []) ∷ (int 1 ∷ int 3 ∷ []) ∷ []) ≢ (int 1 ∷ int 2 ∷ []) ∷ []
unfolding int
final-counts-not_counted e = cc

-- a group whose halves are NULL adds nothing
final-halves : final 0 (agg.Sum (e.Column 0) ∷ agg.Min (e.Column 2) ∷ []) ((value.Null ∷ value.Null ∷ value.Null ∷ []) ∷ (value.Int (negsuc 0) ∷ most ∷ int 6 ∷ []) ∷ (int 0 ∷ int 5 ∷ int 8 ∷ []) ∷ []) ≡ (int 4 ∷ int 6 ∷ []) ∷ []
unfolding most int
final-halves = refl

-- a count over nothing is 0, and the others are NULL
final-nothing : final 0 (agg.CountAll ∷ agg.Sum (e.Column 1) ∷ []) [] ≡ (int 0 ∷ value.Null ∷ []) ∷ []
unfolding int
final-nothing = refl

-- the greatest number twice leaves 64 bits, and the test is made in Final
two : List Row
two = (most ∷ []) ∷ (most ∷ []) ∷ []

final_faults-two : final_faults 0 (agg.Sum (e.Column 0) ∷ []) (partial [] (agg.Sum (e.Column 0) ∷ []) two) ≡ true
unfolding two most int
final_faults-two = refl

final_faults-back : final_faults 0 (agg.Sum (e.Column 0) ∷ []) (partial [] (agg.Sum (e.Column 0) ∷ []) ((value.Int (negsuc 9223372036854775806) ∷ []) ∷ two)) ≡ false
unfolding two most int
final_faults-back = refl

-- the first of equal rows, in order
flags : List Row
flags = (value.Bool true ∷ []) ∷ (value.Null ∷ []) ∷ (value.Bool false ∷ []) ∷ (value.Null ∷ []) ∷ []

distinct-flags : distinct flags ≡ (value.Bool true ∷ []) ∷ (value.Null ∷ []) ∷ (value.Bool false ∷ []) ∷ []
unfolding flags
distinct-flags = refl

-- descending is the reverse of value order, so NULL is first; ties by row order
sorted-four : sorted (record { column = 0; descending = true } ∷ []) (Some 3) four ≡ (value.Null ∷ int 20 ∷ []) ∷ (value.Null ∷ int 40 ∷ []) ∷ (int 2 ∷ int 30 ∷ []) ∷ []
unfolding four int
sorted-four = refl

sorted-four-not_null_last : sorted (record { column = 0; descending = true } ∷ []) (Some 1) four ≢ (int 2 ∷ int 30 ∷ []) ∷ []
unfolding four int
sorted-four-not_null_last e = cc

sorted-all : sorted [] None four ≡ (int 1 ∷ int 10 ∷ []) ∷ (int 2 ∷ int 30 ∷ []) ∷ (value.Null ∷ int 20 ∷ []) ∷ (value.Null ∷ int 40 ∷ []) ∷ []
unfolding four int
sorted-all = refl
