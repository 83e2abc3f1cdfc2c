-- Plans of small queries: what they are, what they mean, and what they do not mean.
use Rattle.std.proofs.Common.{suc, Some, ◌≡◌, ◌≢◌, ℕ, zero, ◌==◌, List, [], ◌∷◌, filter, pos, true, false, None, refl, arith}
use Rattle.hq_value.specs.declared.value.Value.{Value}
use Rattle.hq_value.specs.declared.value.Value.TheVariants as value
use Rattle.hq_value.specs.declared.kind.Kind.{Kind}
use Rattle.hq_value.specs.declared.kind.Kind.TheVariants as kind
use Rattle.hq_value.specs.Bucket.{bucket_of}
use Rattle.hq_value.specs.declared.operator.CompareKind.TheVariants as compare
use Rattle.hq_algebra.specs.declared.expr.Expr.{Expr}
use Rattle.hq_algebra.specs.declared.expr.Expr.TheVariants as e
use Rattle.hq_algebra.specs.declared.aggregate.Aggregate.TheVariants as agg
use Rattle.hq_algebra.specs.declared.op.Op.TheVariants as op
use Rattle.hq_algebra.specs.declared.plan.Motion.TheVariants as motion
use Rattle.hq_algebra.specs.declared.plan.Plan.{Plan}
use Rattle.hq_algebra.specs.declared.query.Query.{Query}
use Rattle.hq_algebra.specs.declared.expr.Expr.TheBlock.{hidden-the_row-Expr-0}
use Rattle.hq_algebra.specs.declared.op.Op.TheBlock.{hidden-the_row-Op-0}
use denote.Hole.Carrier.{hidden}
use Rattle.hq_algebra.specs.Plans.{is_well_formed}
use Rattle.hq_algebra.specs.Queries.{query_kinds}
use Rattle.hq_meaning.specs.Rows.{Row}
use Rattle.hq_meaning.specs.Mean.{Rows}
use Rattle.hq_meaning.specs.Plans.{Parts, plan_mean}
use Rattle.hq_laws.specs.Sources.{Source}
use Rattle.hq_laws.specs.Gathered.{gathered_plan}
use Rattle.hq_laws.specs.Equated.{keys_equated}
use Rattle.hq_algebra.specs.Bound.{has_room, has_places}
use Rattle.hq_laws.specs.Room.{kinds_sent, are_joinable}
use Rattle.hq_laws.specs.Spread.{Way, CopyRight, CopyLeft, MoveBoth, MoveLeft, spread_plan}

-- a source without tests
unfoldable pub plain : ℕ → Source
plain t = record { table = t; tests = [] }

unfoldable pub int : ℕ → Value
int n = value.Int (pos n)

-- nodes 0, 1 and 2 in turn
unfoldable pub three : List ℕ
three = 0 ∷ 1 ∷ 2 ∷ 0 ∷ 1 ∷ 2 ∷ 0 ∷ 1 ∷ 2 ∷ 0 ∷ 1 ∷ 2 ∷ 0 ∷ 1 ∷ 2 ∷ 0 ∷ []

-- u (id, g) and v (k, g), by the bucket of their columns at these places
unfoldable pub uv : ℕ → List Row
uv zero = (int 1 ∷ int 10 ∷ []) ∷ (int 2 ∷ int 20 ∷ []) ∷ (int 3 ∷ int 10 ∷ []) ∷ []
uv _ = (int 7 ∷ int 10 ∷ []) ∷ (int 8 ∷ int 20 ∷ []) ∷ (int 9 ∷ int 10 ∷ []) ∷ []

unfoldable pub by_columns : List ℕ → Parts
by_columns keys t b = filter (λ row. bucket_of row keys == b) (uv t)

unfoldable pub numbers : ℕ → List Kind
numbers t = kind.Int ∷ kind.Int ∷ []

unfoldable pub four : List Kind
four = kind.Int ∷ kind.Int ∷ kind.Int ∷ kind.Int ∷ []

unfoldable pub same_group : Expr
same_group = e.Compare compare.Equal (e.Column 1) (e.Column 3)

-- SELECT u.id, v.k FROM u JOIN v ON u.g = v.g
unfoldable pub met : Query
unfolding plain same_group hidden-the_row-Expr-0 hidden
met = record {
  sources = 0 ∷ 1 ∷ [];
  conds = same_group ∷ [];
  grouped = false;
  groups = [];
  aggregates = [];
  having = [];
  items = e.Column 0 ∷ e.Column 2 ∷ [];
  distinct = false;
  order = [];
  limit = None;
  some_sources = omega arith;
  few_sources = omega arith;
  some_items = omega arith;
  few_items = omega arith;
  conds_fault_never = refl;
  having_faults_never = refl;
  small = refl;
  plain = refl;
  counts_of_one = refl;
  group_columns = refl;
  order_columns = refl;
}

-- the condition equates the columns g, and not the others
equated : keys_equated 2 2 (same_group ∷ []) (1 ∷ []) (1 ∷ []) ≡ true
unfolding plain same_group hidden-the_row-Expr-0 hidden
equated = refl

equated-not_others : keys_equated 2 2 (same_group ∷ []) (0 ∷ []) (1 ∷ []) ≡ false
unfolding plain same_group hidden-the_row-Expr-0 hidden
equated-not_others = refl

unfoldable pub met_by : List ℕ → Way → Plan
met_by keys way = spread_plan numbers four met (plain 0) ((record { table = 1; tests = []; left_keys = keys; right_keys = keys; way = way }) ∷ [])

gathered-means : plan_mean (gathered_plan numbers met (plain 0 ∷ plain 1 ∷ [])) (by_columns (0 ∷ [])) three ≡ Rows ((int 1 ∷ int 7 ∷ []) ∷ (int 1 ∷ int 9 ∷ []) ∷ (int 2 ∷ int 8 ∷ []) ∷ (int 3 ∷ int 7 ∷ []) ∷ (int 3 ∷ int 9 ∷ []) ∷ [])
unfolding plain met numbers by_columns uv three int same_group hidden-the_row-Expr-0 hidden-the_row-Op-0 hidden
gathered-means = refl

copied_right-means : plan_mean (met_by (1 ∷ []) CopyRight) (by_columns (0 ∷ [])) three ≡ Rows ((int 1 ∷ int 7 ∷ []) ∷ (int 1 ∷ int 9 ∷ []) ∷ (int 2 ∷ int 8 ∷ []) ∷ (int 3 ∷ int 7 ∷ []) ∷ (int 3 ∷ int 9 ∷ []) ∷ [])
unfolding plain met_by met numbers four by_columns uv three int same_group hidden-the_row-Expr-0 hidden-the_row-Op-0 hidden
copied_right-means = refl

copied_left-means : plan_mean (met_by (1 ∷ []) CopyLeft) (by_columns (0 ∷ [])) three ≡ Rows ((int 1 ∷ int 7 ∷ []) ∷ (int 1 ∷ int 9 ∷ []) ∷ (int 2 ∷ int 8 ∷ []) ∷ (int 3 ∷ int 7 ∷ []) ∷ (int 3 ∷ int 9 ∷ []) ∷ [])
unfolding plain met_by met numbers four by_columns uv three int same_group hidden-the_row-Expr-0 hidden-the_row-Op-0 hidden
copied_left-means = refl

moved_both-means : plan_mean (met_by (1 ∷ []) MoveBoth) (by_columns (0 ∷ [])) three ≡ Rows ((int 1 ∷ int 7 ∷ []) ∷ (int 1 ∷ int 9 ∷ []) ∷ (int 2 ∷ int 8 ∷ []) ∷ (int 3 ∷ int 7 ∷ []) ∷ (int 3 ∷ int 9 ∷ []) ∷ [])
unfolding plain met_by met numbers four by_columns uv three int same_group hidden-the_row-Expr-0 hidden-the_row-Op-0 hidden
moved_both-means = refl

moved_left-means : plan_mean (met_by (1 ∷ []) MoveLeft) (by_columns (1 ∷ [])) three ≡ Rows ((int 1 ∷ int 7 ∷ []) ∷ (int 1 ∷ int 9 ∷ []) ∷ (int 2 ∷ int 8 ∷ []) ∷ (int 3 ∷ int 7 ∷ []) ∷ (int 3 ∷ int 9 ∷ []) ∷ [])
unfolding plain met_by met numbers four by_columns uv three int same_group hidden-the_row-Expr-0 hidden-the_row-Op-0 hidden
moved_left-means = refl

-- where v stands by another column, partners miss each other
moved_left-elsewhere : plan_mean (met_by (1 ∷ []) MoveLeft) (by_columns (0 ∷ [])) three ≢ Rows ((int 1 ∷ int 7 ∷ []) ∷ (int 1 ∷ int 9 ∷ []) ∷ (int 2 ∷ int 8 ∷ []) ∷ (int 3 ∷ int 7 ∷ []) ∷ (int 3 ∷ int 9 ∷ []) ∷ [])
unfolding plain met_by met numbers four by_columns uv three int same_group hidden-the_row-Expr-0 hidden-the_row-Op-0 hidden
moved_left-elsewhere e = cc

-- keys that no condition equates lose pairs
other_keys : plan_mean (met_by (0 ∷ []) MoveBoth) (by_columns (0 ∷ [])) three ≢ Rows ((int 1 ∷ int 7 ∷ []) ∷ (int 1 ∷ int 9 ∷ []) ∷ (int 2 ∷ int 8 ∷ []) ∷ (int 3 ∷ int 7 ∷ []) ∷ (int 3 ∷ int 9 ∷ []) ∷ [])
unfolding plain met_by met numbers four by_columns uv three int same_group hidden-the_row-Expr-0 hidden-the_row-Op-0 hidden
other_keys e = cc

-- what the laws of well-formed plans ask for
met-kinds : query_kinds numbers met ≡ Some (kind.Int ∷ kind.Int ∷ [])
unfolding plain met numbers same_group hidden-the_row-Expr-0 hidden
met-kinds = refl

met-has_room : has_room numbers met ≡ true
unfolding plain met numbers same_group
met-has_room = refl

met-has_places : has_places met ≡ true
unfolding met numbers same_group
met-has_places = refl

met-sent : kinds_sent numbers met ≡ Some four
unfolding plain met numbers four
met-sent = refl

met-joinable : are_joinable numbers (numbers 0) ((record { table = 1; tests = []; left_keys = 1 ∷ []; right_keys = 1 ∷ []; way = MoveBoth }) ∷ []) ≡ true
unfolding plain numbers
met-joinable = refl

met-not_joinable_without_keys : are_joinable numbers (numbers 0) ((record { table = 1; tests = []; left_keys = []; right_keys = []; way = MoveBoth }) ∷ []) ≡ false
unfolding plain numbers
met-not_joinable_without_keys = refl

-- both plans are well formed
gathered-well_formed : is_well_formed (gathered_plan numbers met (plain 0 ∷ plain 1 ∷ [])) ≡ true
unfolding plain met numbers same_group hidden-the_row-Expr-0 hidden-the_row-Op-0 hidden
gathered-well_formed = refl

moved_both-well_formed : is_well_formed (met_by (1 ∷ []) MoveBoth) ≡ true
unfolding plain met_by met numbers four same_group hidden-the_row-Expr-0 hidden-the_row-Op-0 hidden
moved_both-well_formed = refl

-- SELECT g, COUNT(*), MIN(k) FROM v GROUP BY g
totals : Query
unfolding plain hidden-the_row-Expr-0 hidden
totals = record {
  sources = 1 ∷ [];
  conds = [];
  grouped = true;
  groups = 1 ∷ [];
  aggregates = agg.CountAll ∷ agg.Min (e.Column 0) ∷ [];
  having = [];
  items = e.Column 0 ∷ e.Column 1 ∷ e.Column 2 ∷ [];
  distinct = false;
  order = [];
  limit = None;
  some_sources = omega arith;
  few_sources = omega arith;
  some_items = omega arith;
  few_items = omega arith;
  conds_fault_never = refl;
  having_faults_never = refl;
  small = refl;
  plain = refl;
  counts_of_one = refl;
  group_columns = refl;
  order_columns = refl;
}

-- each node groups what it has, and the groups meet in the last slice
three_kinds : List Kind
three_kinds = kind.Int ∷ kind.Int ∷ kind.Int ∷ []

totals-plan : spread_plan numbers three_kinds totals (plain 1) [] ≡ record {
  slices =
      (record { out = motion.Gather; root = op.Partial (1 ∷ []) (agg.CountAll ∷ agg.Min (e.Column 0) ∷ []) (op.Scan 1 (kind.Int ∷ kind.Int ∷ [])) })
      ∷ (record { out = motion.Result; root = op.Sort [] None (op.Project (e.Column 0 ∷ e.Column 1 ∷ e.Column 2 ∷ []) (op.Final 1 (agg.CountAll ∷ agg.Min (e.Column 2) ∷ []) (op.Receive 0 three_kinds))) }) ∷ [];
}
unfolding plain totals numbers three_kinds
totals-plan = refl

totals-mean : plan_mean (spread_plan numbers three_kinds totals (plain 1) []) (by_columns (0 ∷ [])) three ≡ Rows ((int 10 ∷ int 2 ∷ int 7 ∷ []) ∷ (int 20 ∷ int 1 ∷ int 8 ∷ []) ∷ [])
unfolding plain totals numbers three_kinds by_columns uv three int hidden-the_row-Expr-0 hidden-the_row-Op-0 hidden
totals-mean = refl

-- the nodes' counts are added, not counted
totals-not_counted : plan_mean (spread_plan numbers three_kinds totals (plain 1) []) (by_columns (0 ∷ [])) three ≢ Rows ((int 10 ∷ int 1 ∷ int 7 ∷ []) ∷ (int 20 ∷ int 1 ∷ int 8 ∷ []) ∷ [])
unfolding plain totals numbers three_kinds by_columns uv three int hidden-the_row-Expr-0 hidden-the_row-Op-0 hidden
totals-not_counted e = cc

totals-well_formed : is_well_formed (spread_plan numbers three_kinds totals (plain 1) []) ≡ true
unfolding plain totals numbers three_kinds hidden-the_row-Expr-0 hidden-the_row-Op-0 hidden
totals-well_formed = refl

text : ℕ → Value
text n = value.Text (n ∷ [])

-- sale (shop, day, amount) by the rows' places, and shop (id, city): O, R and no city, by its id
shops : Parts
shops zero zero = (int 1 ∷ int 20240102 ∷ int 50 ∷ []) ∷ []
shops zero (suc zero) = (int 2 ∷ int 20240102 ∷ int 70 ∷ []) ∷ []
shops zero (suc (suc zero)) = (int 1 ∷ int 20240103 ∷ int 25 ∷ []) ∷ []
shops zero (suc (suc (suc zero))) = (int 3 ∷ int 20240103 ∷ int 5 ∷ []) ∷ []
shops (suc zero) b = filter (λ row. bucket_of row (0 ∷ []) == b) ((int 1 ∷ text 79 ∷ []) ∷ (int 2 ∷ text 82 ∷ []) ∷ (int 3 ∷ value.Null ∷ []) ∷ [])
shops _ b = []

shop_kinds : ℕ → List Kind
shop_kinds zero = kind.Int ∷ kind.Int ∷ kind.Int ∷ []
shop_kinds _ = kind.Int ∷ kind.Text ∷ []

-- SELECT s.city, SUM(x.amount) AS total FROM sale x JOIN shop s ON x.shop = s.id WHERE x.day >= 20240102
-- GROUP BY s.city HAVING SUM(x.amount) > 10 ORDER BY total DESC LIMIT 10
cities : Query
unfolding plain int hidden-the_row-Expr-0 hidden
cities = record {
  sources = 0 ∷ 1 ∷ [];
  conds = e.Compare compare.Equal (e.Column 0) (e.Column 3) ∷ e.Compare compare.AtLeast (e.Column 1) (e.Literal (int 20240102)) ∷ [];
  grouped = true;
  groups = 4 ∷ [];
  aggregates = agg.Sum (e.Column 2) ∷ [];
  having = e.Compare compare.Greater (e.Column 1) (e.Literal (int 10)) ∷ [];
  items = e.Column 0 ∷ e.Column 1 ∷ [];
  distinct = false;
  order = record { column = 1; descending = true } ∷ [];
  limit = Some 10;
  some_sources = omega arith;
  few_sources = omega arith;
  some_items = omega arith;
  few_items = omega arith;
  conds_fault_never = refl;
  having_faults_never = refl;
  small = refl;
  plain = refl;
  counts_of_one = refl;
  group_columns = refl;
  order_columns = refl;
}

city_kinds : List Kind
city_kinds = kind.Text ∷ kind.Int ∷ kind.Int ∷ []

-- the sales go to the nodes where their shops stand, and each node sums what it has
cities_plan : Plan
cities_plan = spread_plan shop_kinds city_kinds cities (plain 0) ((record { table = 1; tests = []; left_keys = 0 ∷ []; right_keys = 0 ∷ []; way = MoveLeft }) ∷ [])

cities-means : plan_mean cities_plan shops three ≡ Rows ((text 79 ∷ int 75 ∷ []) ∷ (text 82 ∷ int 70 ∷ []) ∷ [])
unfolding plain cities_plan cities shop_kinds city_kinds shops three text int hidden-the_row-Expr-0 hidden-the_row-Op-0 hidden
cities-means = refl

cities-well_formed : is_well_formed cities_plan ≡ true
unfolding plain cities_plan cities shop_kinds city_kinds int hidden-the_row-Expr-0 hidden-the_row-Op-0 hidden
cities-well_formed = refl

-- SELECT x.id, z.k FROM u x JOIN u y ON x.g = y.g JOIN v z ON y.g = z.g
chain : Query
unfolding plain hidden-the_row-Expr-0 hidden
chain = record {
  sources = 0 ∷ 0 ∷ 1 ∷ [];
  conds = e.Compare compare.Equal (e.Column 1) (e.Column 3) ∷ e.Compare compare.Equal (e.Column 3) (e.Column 5) ∷ [];
  grouped = false;
  groups = [];
  aggregates = [];
  having = [];
  items = e.Column 0 ∷ e.Column 4 ∷ [];
  distinct = true;
  order = [];
  limit = None;
  some_sources = omega arith;
  few_sources = omega arith;
  some_items = omega arith;
  few_items = omega arith;
  conds_fault_never = refl;
  having_faults_never = refl;
  small = refl;
  plain = refl;
  counts_of_one = refl;
  group_columns = refl;
  order_columns = refl;
}

chain_plan : Plan
chain_plan = spread_plan numbers (kind.Int ∷ kind.Int ∷ kind.Int ∷ kind.Int ∷ kind.Int ∷ kind.Int ∷ []) chain (plain 0)
    ((record { table = 0; tests = []; left_keys = 1 ∷ []; right_keys = 1 ∷ []; way = MoveBoth }) ∷ (record { table = 1; tests = []; left_keys = 3 ∷ []; right_keys = 1 ∷ []; way = CopyLeft }) ∷ [])

chain-means : plan_mean chain_plan (by_columns (0 ∷ [])) three ≡ Rows ((int 1 ∷ int 7 ∷ []) ∷ (int 1 ∷ int 9 ∷ []) ∷ (int 2 ∷ int 8 ∷ []) ∷ (int 3 ∷ int 7 ∷ []) ∷ (int 3 ∷ int 9 ∷ []) ∷ [])
unfolding plain chain_plan chain numbers by_columns uv three int hidden-the_row-Expr-0 hidden-the_row-Op-0 hidden
chain-means = refl

chain-well_formed : is_well_formed chain_plan ≡ true
unfolding plain chain_plan chain numbers hidden-the_row-Expr-0 hidden-the_row-Op-0 hidden
chain-well_formed = refl
