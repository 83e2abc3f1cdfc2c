-- What small queries mean, and what they do not mean.
use Rattle.std.proofs.Common.{◌≡◌, ◌≢◌, ℕ, zero, List, [], ◌∷◌, pos, negsuc, true, false, Some, None, refl, arith}
use Rattle.hq_value.specs.declared.value.Value.{Value}
use Rattle.hq_value.specs.declared.value.Value.TheVariants as value
use Rattle.hq_value.specs.declared.operator.ArithKind.TheVariants as arith_kind
use Rattle.hq_value.specs.declared.operator.CompareKind.TheVariants as compare
use Rattle.hq_algebra.specs.declared.expr.Expr.{Expr}
use Rattle.hq_algebra.specs.declared.expr.Expr.TheVariants as e
use Rattle.hq_algebra.specs.declared.aggregate.Aggregate.TheVariants as agg
use Rattle.hq_algebra.specs.declared.query.Query.{Query}
use Rattle.hq_algebra.specs.declared.expr.Expr.TheBlock.{hidden-the_row-Expr-0}
use denote.Hole.Carrier.{hidden}
use Rattle.hq_meaning.specs.Rows.{Row}
use Rattle.hq_meaning.specs.Mean.{mean, Rows, Numeric}

int : ℕ → Value
int n = value.Int (pos n)

-- SELECT COUNT(*), SUM(a) FROM t
totals : Query
unfolding hidden-the_row-Expr-0 hidden
totals = record {
  sources = 0 ∷ [];
  conds = [];
  grouped = true;
  groups = [];
  aggregates = agg.CountAll ∷ agg.Sum (e.Column 0) ∷ [];
  having = [];
  items = e.Column 0 ∷ e.Column 1 ∷ [];
  distinct = false;
  order = [];
  limit = None;
  some_sources = omega arith;
  few_sources = omega arith;
  some_items = omega arith;
  few_items = omega arith;
  conds_fault_never = refl;
  having_faults_never = refl;
  small = refl;
  plain = refl;
  counts_of_one = refl;
  group_columns = refl;
  order_columns = refl;
}

-- over no row one group, with a count of 0 and no sum
totals-of_nothing : mean totals (λ t. []) ≡ Rows ((int 0 ∷ value.Null ∷ []) ∷ [])
unfolding totals int hidden-the_row-Expr-0 hidden
totals-of_nothing = refl

totals-of_nothing-not_nothing : mean totals (λ t. []) ≢ Rows []
unfolding totals int hidden-the_row-Expr-0 hidden
totals-of_nothing-not_nothing e = cc

-- (1, 10), (NULL, 20), (2, 30), (NULL, 40)
four : ℕ → List Row
four t = (int 1 ∷ int 10 ∷ []) ∷ (value.Null ∷ int 20 ∷ []) ∷ (int 2 ∷ int 30 ∷ []) ∷ (value.Null ∷ int 40 ∷ []) ∷ []

-- SELECT b FROM t WHERE NOT (a = 1)
not_one : Query
unfolding int hidden-the_row-Expr-0 hidden
not_one = record {
  sources = 0 ∷ [];
  conds = e.Not (e.Compare compare.Equal (e.Column 0) (e.Literal (int 1))) ∷ [];
  grouped = false;
  groups = [];
  aggregates = [];
  having = [];
  items = e.Column 1 ∷ [];
  distinct = false;
  order = [];
  limit = None;
  some_sources = omega arith;
  few_sources = omega arith;
  some_items = omega arith;
  few_items = omega arith;
  conds_fault_never = refl;
  having_faults_never = refl;
  small = refl;
  plain = refl;
  counts_of_one = refl;
  group_columns = refl;
  order_columns = refl;
}

-- where a is NULL the condition is unknown
not_one-of_four : mean not_one four ≡ Rows ((int 30 ∷ []) ∷ [])
unfolding not_one four int hidden-the_row-Expr-0 hidden
not_one-of_four = refl

not_one-of_four-not_unknown : mean not_one four ≢ Rows ((int 20 ∷ []) ∷ (int 30 ∷ []) ∷ (int 40 ∷ []) ∷ [])
unfolding not_one four int hidden-the_row-Expr-0 hidden
not_one-of_four-not_unknown e = cc

-- SELECT a, SUM(b) FROM t GROUP BY a
by_a : Query
unfolding hidden-the_row-Expr-0 hidden
by_a = record {
  sources = 0 ∷ [];
  conds = [];
  grouped = true;
  groups = 0 ∷ [];
  aggregates = agg.Sum (e.Column 1) ∷ [];
  having = [];
  items = e.Column 0 ∷ e.Column 1 ∷ [];
  distinct = false;
  order = [];
  limit = None;
  some_sources = omega arith;
  few_sources = omega arith;
  some_items = omega arith;
  few_items = omega arith;
  conds_fault_never = refl;
  having_faults_never = refl;
  small = refl;
  plain = refl;
  counts_of_one = refl;
  group_columns = refl;
  order_columns = refl;
}

-- NULLs are one group
by_a-of_four : mean by_a four ≡ Rows ((int 1 ∷ int 10 ∷ []) ∷ (int 2 ∷ int 30 ∷ []) ∷ (value.Null ∷ int 60 ∷ []) ∷ [])
unfolding by_a four int hidden-the_row-Expr-0 hidden
by_a-of_four = refl

by_a-of_four-not_apart : mean by_a four ≢ Rows ((int 1 ∷ int 10 ∷ []) ∷ (int 2 ∷ int 30 ∷ []) ∷ (value.Null ∷ int 20 ∷ []) ∷ (value.Null ∷ int 40 ∷ []) ∷ [])
unfolding by_a four int hidden-the_row-Expr-0 hidden
by_a-of_four-not_apart e = cc

-- a + 1
next : Expr
next = e.Arith arith_kind.Plus (e.Column 0) (e.Literal (int 1))

most : ℕ → List Row
most t = (int 9223372036854775807 ∷ []) ∷ []

-- SELECT a + 1 FROM t
next_of : Query
unfolding next int hidden-the_row-Expr-0 hidden
next_of = record {
  sources = 0 ∷ [];
  conds = [];
  grouped = false;
  groups = [];
  aggregates = [];
  having = [];
  items = next ∷ [];
  distinct = false;
  order = [];
  limit = None;
  some_sources = omega arith;
  few_sources = omega arith;
  some_items = omega arith;
  few_items = omega arith;
  conds_fault_never = refl;
  having_faults_never = refl;
  small = refl;
  plain = refl;
  counts_of_one = refl;
  group_columns = refl;
  order_columns = refl;
}

next_of-most : mean next_of most ≡ Numeric
unfolding next_of next most int hidden-the_row-Expr-0 hidden
next_of-most = refl

next_of-most-no_null : mean next_of most ≢ Rows ((value.Null ∷ []) ∷ [])
unfolding next_of next most int hidden-the_row-Expr-0 hidden
next_of-most-no_null e = cc

-- SELECT a + 1 FROM t WHERE a < 0
next_below : Query
unfolding next int hidden-the_row-Expr-0 hidden
next_below = record {
  sources = 0 ∷ [];
  conds = e.Compare compare.Less (e.Column 0) (e.Literal (int 0)) ∷ [];
  grouped = false;
  groups = [];
  aggregates = [];
  having = [];
  items = next ∷ [];
  distinct = false;
  order = [];
  limit = None;
  some_sources = omega arith;
  few_sources = omega arith;
  some_items = omega arith;
  few_items = omega arith;
  conds_fault_never = refl;
  having_faults_never = refl;
  small = refl;
  plain = refl;
  counts_of_one = refl;
  group_columns = refl;
  order_columns = refl;
}

-- what isn't kept isn't evaluated
next_below-most : mean next_below most ≡ Rows []
unfolding next_below next most int hidden-the_row-Expr-0 hidden
next_below-most = refl

next_below-most-no_fault : mean next_below most ≢ Numeric
unfolding next_below next most int hidden-the_row-Expr-0 hidden
next_below-most-no_fault e = cc

-- SELECT SUM(a) FROM t HAVING SUM(a) < 0
great_sums : Query
unfolding int hidden-the_row-Expr-0 hidden
great_sums = record {
  sources = 0 ∷ [];
  conds = [];
  grouped = true;
  groups = [];
  aggregates = agg.Sum (e.Column 0) ∷ [];
  having = e.Compare compare.Less (e.Column 0) (e.Literal (int 0)) ∷ [];
  items = e.Column 0 ∷ [];
  distinct = false;
  order = [];
  limit = None;
  some_sources = omega arith;
  few_sources = omega arith;
  some_items = omega arith;
  few_items = omega arith;
  conds_fault_never = refl;
  having_faults_never = refl;
  small = refl;
  plain = refl;
  counts_of_one = refl;
  group_columns = refl;
  order_columns = refl;
}

-- a sum that leaves 64 bits is a fault, also where HAVING drops its group; the order of the rows is no matter
twice : ℕ → List Row
twice t = (int 9223372036854775807 ∷ []) ∷ (int 9223372036854775807 ∷ []) ∷ []

great_sums-twice : mean great_sums twice ≡ Numeric
unfolding great_sums twice int hidden-the_row-Expr-0 hidden
great_sums-twice = refl

and_back : ℕ → List Row
and_back t = (int 9223372036854775807 ∷ []) ∷ (int 9223372036854775807 ∷ []) ∷ (value.Int (negsuc 9223372036854775806) ∷ []) ∷ []

great_sums-and_back : mean great_sums and_back ≡ Rows []
unfolding great_sums and_back int hidden-the_row-Expr-0 hidden
great_sums-and_back = refl

great_sums-and_back-no_fault : mean great_sums and_back ≢ Numeric
unfolding great_sums and_back int hidden-the_row-Expr-0 hidden
great_sums-and_back-no_fault e = cc

-- u (id, g) and v (k, g)
uv : ℕ → List Row
uv zero = (int 1 ∷ int 10 ∷ []) ∷ (int 2 ∷ int 20 ∷ []) ∷ (int 3 ∷ int 10 ∷ []) ∷ []
uv _ = (int 7 ∷ int 10 ∷ []) ∷ (int 8 ∷ int 20 ∷ []) ∷ (int 9 ∷ int 10 ∷ []) ∷ []

-- SELECT u.id, v.k FROM u JOIN v ON u.g = v.g
met : Query
unfolding hidden-the_row-Expr-0 hidden
met = record {
  sources = 0 ∷ 1 ∷ [];
  conds = e.Compare compare.Equal (e.Column 1) (e.Column 3) ∷ [];
  grouped = false;
  groups = [];
  aggregates = [];
  having = [];
  items = e.Column 0 ∷ e.Column 2 ∷ [];
  distinct = false;
  order = [];
  limit = None;
  some_sources = omega arith;
  few_sources = omega arith;
  some_items = omega arith;
  few_items = omega arith;
  conds_fault_never = refl;
  having_faults_never = refl;
  small = refl;
  plain = refl;
  counts_of_one = refl;
  group_columns = refl;
  order_columns = refl;
}

met-of_uv : mean met uv ≡ Rows ((int 1 ∷ int 7 ∷ []) ∷ (int 1 ∷ int 9 ∷ []) ∷ (int 2 ∷ int 8 ∷ []) ∷ (int 3 ∷ int 7 ∷ []) ∷ (int 3 ∷ int 9 ∷ []) ∷ [])
unfolding met uv int hidden-the_row-Expr-0 hidden
met-of_uv = refl

met-of_uv-not_by_id : mean met uv ≢ Rows []
unfolding met uv int hidden-the_row-Expr-0 hidden
met-of_uv-not_by_id e = cc

text : ℕ → Value
text n = value.Text (n ∷ [])

-- sale (shop, day, amount), and shop (id, city): O, R and no city
shops : ℕ → List Row
shops zero = (int 1 ∷ int 20240102 ∷ int 50 ∷ []) ∷ (int 2 ∷ int 20240102 ∷ int 70 ∷ []) ∷ (int 1 ∷ int 20240103 ∷ int 25 ∷ []) ∷ (int 3 ∷ int 20240103 ∷ int 5 ∷ []) ∷ []
shops _ = (int 1 ∷ text 79 ∷ []) ∷ (int 2 ∷ text 82 ∷ []) ∷ (int 3 ∷ value.Null ∷ []) ∷ []

-- SELECT s.city, SUM(x.amount) AS total FROM sale x JOIN shop s ON x.shop = s.id WHERE x.day >= 20240102
-- GROUP BY s.city HAVING SUM(x.amount) > 10 ORDER BY total DESC LIMIT 10
cities : Query
unfolding int hidden-the_row-Expr-0 hidden
cities = record {
  sources = 0 ∷ 1 ∷ [];
  conds = e.Compare compare.Equal (e.Column 0) (e.Column 3) ∷ e.Compare compare.AtLeast (e.Column 1) (e.Literal (int 20240102)) ∷ [];
  grouped = true;
  groups = 4 ∷ [];
  aggregates = agg.Sum (e.Column 2) ∷ [];
  having = e.Compare compare.Greater (e.Column 1) (e.Literal (int 10)) ∷ [];
  items = e.Column 0 ∷ e.Column 1 ∷ [];
  distinct = false;
  order = record { column = 1; descending = true } ∷ [];
  limit = Some 10;
  some_sources = omega arith;
  few_sources = omega arith;
  some_items = omega arith;
  few_items = omega arith;
  conds_fault_never = refl;
  having_faults_never = refl;
  small = refl;
  plain = refl;
  counts_of_one = refl;
  group_columns = refl;
  order_columns = refl;
}

cities-of_shops : mean cities shops ≡ Rows ((text 79 ∷ int 75 ∷ []) ∷ (text 82 ∷ int 70 ∷ []) ∷ [])
unfolding cities shops text int hidden-the_row-Expr-0 hidden
cities-of_shops = refl

cities-of_shops-not_all : mean cities shops ≢ Rows ((text 79 ∷ int 75 ∷ []) ∷ (text 82 ∷ int 70 ∷ []) ∷ (value.Null ∷ int 5 ∷ []) ∷ [])
unfolding cities shops text int hidden-the_row-Expr-0 hidden
cities-of_shops-not_all e = cc

-- TRUE, NULL, FALSE, NULL
flags : ℕ → List Row
flags t = (value.Bool true ∷ []) ∷ (value.Null ∷ []) ∷ (value.Bool false ∷ []) ∷ (value.Null ∷ []) ∷ []

-- SELECT DISTINCT f FROM t
each_once : Query
unfolding hidden-the_row-Expr-0 hidden
each_once = record {
  sources = 0 ∷ [];
  conds = [];
  grouped = false;
  groups = [];
  aggregates = [];
  having = [];
  items = e.Column 0 ∷ [];
  distinct = true;
  order = [];
  limit = None;
  some_sources = omega arith;
  few_sources = omega arith;
  some_items = omega arith;
  few_items = omega arith;
  conds_fault_never = refl;
  having_faults_never = refl;
  small = refl;
  plain = refl;
  counts_of_one = refl;
  group_columns = refl;
  order_columns = refl;
}

-- without ORDER BY in row order, NULL last
each_once-of_flags : mean each_once flags ≡ Rows ((value.Bool false ∷ []) ∷ (value.Bool true ∷ []) ∷ (value.Null ∷ []) ∷ [])
unfolding each_once flags hidden-the_row-Expr-0 hidden
each_once-of_flags = refl

each_once-of_flags-not_twice : mean each_once flags ≢ Rows ((value.Bool false ∷ []) ∷ (value.Bool true ∷ []) ∷ (value.Null ∷ []) ∷ (value.Null ∷ []) ∷ [])
unfolding each_once flags hidden-the_row-Expr-0 hidden
each_once-of_flags-not_twice e = cc

-- SELECT * FROM t
star : Query
unfolding hidden-the_row-Expr-0 hidden
star = record {
  sources = 0 ∷ [];
  conds = [];
  grouped = false;
  groups = [];
  aggregates = [];
  having = [];
  items = e.Column 0 ∷ [];
  distinct = false;
  order = [];
  limit = None;
  some_sources = omega arith;
  few_sources = omega arith;
  some_items = omega arith;
  few_items = omega arith;
  conds_fault_never = refl;
  having_faults_never = refl;
  small = refl;
  plain = refl;
  counts_of_one = refl;
  group_columns = refl;
  order_columns = refl;
}

-- a text keeps its bytes: a, a bar, a backslash, a line feed, b
marks : ℕ → List Row
marks t = (value.Text (97 ∷ 124 ∷ 92 ∷ 10 ∷ 98 ∷ []) ∷ []) ∷ []

star-of_marks : mean star marks ≡ Rows (((value.Text (97 ∷ 124 ∷ 92 ∷ 10 ∷ 98 ∷ [])) ∷ []) ∷ [])
unfolding star marks hidden-the_row-Expr-0 hidden
star-of_marks = refl

star-of_marks-not_escaped : mean star marks ≢ Rows (((value.Text (97 ∷ 92 ∷ 124 ∷ 92 ∷ 92 ∷ 92 ∷ 110 ∷ 98 ∷ [])) ∷ []) ∷ [])
unfolding star marks hidden-the_row-Expr-0 hidden
star-of_marks-not_escaped e = cc
