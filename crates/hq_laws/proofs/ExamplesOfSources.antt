-- Plans with tests above their Scans, and with sides that stay where they are.
use Rattle.std.proofs.Common.{◌≡◌, ◌≢◌, ℕ, zero, ◌==◌, List, [], ◌∷◌, filter, length, map, sym, ◌∙◌, true, false, None, refl, arith}
use Rattle.hq_value.specs.Bucket.{bucket_of}
use Rattle.hq_value.specs.declared.operator.CompareKind.TheVariants as compare
use Rattle.hq_algebra.specs.declared.expr.Expr.{Expr}
use Rattle.hq_algebra.specs.declared.expr.Expr.TheVariants as e
use Rattle.hq_algebra.specs.declared.plan.Plan.{Plan}
use Rattle.hq_algebra.specs.declared.query.Query.{Query}
use Rattle.hq_algebra.specs.declared.expr.Expr.TheBlock.{hidden-the_row-Expr-0}
use Rattle.hq_algebra.specs.declared.op.Op.TheBlock.{hidden-the_row-Op-0}
use denote.Hole.Carrier.{hidden}
use Rattle.hq_algebra.specs.Plans.{is_well_formed}
use Rattle.hq_meaning.specs.Mean.{Rows}
use Rattle.hq_meaning.specs.Plans.{Parts, plan_mean}
use Rattle.hq_laws.specs.Sources.{Source, have_tests}
use Rattle.hq_laws.specs.Tests.{tests_of, with_tests}
use Rattle.hq_laws.specs.Gathered.{gathered_plan}
use Rattle.hq_laws.specs.Guards.{guards_of, with_guards, Guarded, all_guarded, guarded}
use Rattle.hq_laws.specs.Spread.{Way, MoveBoth, MoveRight, Stay, Joining, spread_plan}
use Rattle.hq_laws.specs.Placed.{joins_are_placed}
use Rattle.hq_laws.specs.Scanned.{tables_scanned, all_tested}
use Rattle.hq_laws.proofs.Examples.{int, three, uv, by_columns, numbers, four, same_group, met, met_by, plain}

-- SELECT u.id, v.k FROM u JOIN v ON u.g = v.g AND u.id >= 2 WHERE v.k < 9
at_least_two : Expr
unfolding int hidden-the_row-Expr-0 hidden
at_least_two = e.Compare compare.AtLeast (e.Column 0) (e.Literal (int 2))

below_nine : ℕ → Expr
unfolding int hidden-the_row-Expr-0 hidden
below_nine place = e.Compare compare.Less (e.Column place) (e.Literal (int 9))

on_condition : Expr
unfolding hidden-the_row-Expr-0 hidden
on_condition = e.And same_group at_least_two

picked : Query
unfolding same_group at_least_two below_nine on_condition int hidden-the_row-Expr-0 hidden
picked = record {
  sources = 0 ∷ 1 ∷ [];
  conds = on_condition ∷ below_nine 2 ∷ [];
  grouped = false;
  groups = [];
  aggregates = [];
  having = [];
  items = e.Column 0 ∷ e.Column 2 ∷ [];
  distinct = false;
  order = [];
  limit = None;
  some_sources = omega arith;
  few_sources = omega arith;
  some_items = omega arith;
  few_items = omega arith;
  conds_fault_never = refl;
  having_faults_never = refl;
  small = refl;
  plain = refl;
  counts_of_one = refl;
  group_columns = refl;
  order_columns = refl;
}

-- each source with its tests
u_tested : Source
u_tested = record { table = 0; tests = at_least_two ∷ [] }

v_tested : Source
v_tested = record { table = 1; tests = below_nine 0 ∷ [] }

picked-have_tests : have_tests numbers (on_condition ∷ below_nine 2 ∷ []) 0 (u_tested ∷ v_tested ∷ []) ≡ true
unfolding u_tested v_tested on_condition same_group at_least_two below_nine numbers int hidden-the_row-Expr-0 hidden
picked-have_tests = refl

-- no condition says this of u
picked-not_others : have_tests numbers (on_condition ∷ below_nine 2 ∷ []) 0 (record { table = 0; tests = below_nine 0 ∷ [] } ∷ v_tested ∷ []) ≡ false
unfolding v_tested on_condition same_group at_least_two below_nine numbers int hidden-the_row-Expr-0 hidden
picked-not_others = refl

picked_gathered-means : plan_mean (gathered_plan numbers picked (u_tested ∷ v_tested ∷ [])) (by_columns (0 ∷ [])) three ≡ Rows ((int 2 ∷ int 8 ∷ []) ∷ (int 3 ∷ int 7 ∷ []) ∷ [])
unfolding picked u_tested v_tested on_condition at_least_two below_nine numbers by_columns uv three int same_group hidden-the_row-Expr-0 hidden-the_row-Op-0 hidden
picked_gathered-means = refl

picked_gathered-well_formed : is_well_formed (gathered_plan numbers picked (u_tested ∷ v_tested ∷ [])) ≡ true
unfolding picked u_tested v_tested on_condition at_least_two below_nine numbers int same_group hidden-the_row-Expr-0 hidden-the_row-Op-0 hidden
picked_gathered-well_formed = refl

picked_by : Way → Plan
picked_by way = spread_plan numbers four picked u_tested ((record { table = 1; tests = below_nine 0 ∷ []; left_keys = 1 ∷ []; right_keys = 1 ∷ []; way = way }) ∷ [])

-- the columns by which each table stands
by_each : (ℕ → List ℕ) → Parts
by_each own t b = filter (λ row. bucket_of row (own t) == b) (uv t)

by_group : ℕ → List ℕ
by_group t = 1 ∷ []

u_by_group : ℕ → List ℕ
u_by_group zero = 1 ∷ []
u_by_group _ = 0 ∷ []

picked_stay-means : plan_mean (picked_by Stay) (by_each by_group) three ≡ Rows ((int 2 ∷ int 8 ∷ []) ∷ (int 3 ∷ int 7 ∷ []) ∷ [])
unfolding picked_by by_each by_group picked u_tested v_tested on_condition at_least_two below_nine numbers four uv three int same_group hidden-the_row-Expr-0 hidden-the_row-Op-0 hidden
picked_stay-means = refl

picked_stay-well_formed : is_well_formed (picked_by Stay) ≡ true
unfolding picked_by picked u_tested v_tested on_condition at_least_two below_nine numbers four int same_group hidden-the_row-Expr-0 hidden-the_row-Op-0 hidden
picked_stay-well_formed = refl

picked_stay-scans : tables_scanned (picked_by Stay).slices ≡ 0 ∷ 1 ∷ []
unfolding picked_by picked u_tested v_tested on_condition at_least_two below_nine numbers four int same_group hidden-the_row-Expr-0 hidden-the_row-Op-0 hidden
picked_stay-scans = refl

picked_stay-not_one : tables_scanned (picked_by Stay).slices ≢ 0 ∷ []
unfolding picked_by picked u_tested v_tested on_condition at_least_two below_nine numbers four int same_group hidden-the_row-Expr-0 hidden-the_row-Op-0 hidden
picked_stay-not_one e = cc

-- each Scan with its tests, and not without one of them
picked_stay-tested : all_tested (picked_by Stay).slices ≡ u_tested ∷ v_tested ∷ []
unfolding picked_by picked u_tested v_tested on_condition at_least_two below_nine numbers four int same_group hidden-the_row-Expr-0 hidden-the_row-Op-0 hidden
picked_stay-tested = refl

picked_stay-test_counts : map (λ (s : Source). length s.tests) (all_tested (picked_by Stay).slices) ≢ 0 ∷ 1 ∷ []
unfolding picked_by picked u_tested v_tested on_condition at_least_two below_nine numbers four int same_group hidden-the_row-Expr-0 hidden-the_row-Op-0 hidden
picked_stay-test_counts e = cc

picked_right-means : plan_mean (picked_by MoveRight) (by_each u_by_group) three ≡ Rows ((int 2 ∷ int 8 ∷ []) ∷ (int 3 ∷ int 7 ∷ []) ∷ [])
unfolding picked_by by_each u_by_group picked u_tested v_tested on_condition at_least_two below_nine numbers four uv three int same_group hidden-the_row-Expr-0 hidden-the_row-Op-0 hidden
picked_right-means = refl

-- which of them may stay is a test
joined_by : Way → List Joining
joined_by way = (record { table = 1; tests = []; left_keys = 1 ∷ []; right_keys = 1 ∷ []; way = way }) ∷ []

stay-placed : joins_are_placed numbers by_group 0 (joined_by Stay) ≡ true
unfolding joined_by numbers by_group
stay-placed = refl

stay-not_placed : joins_are_placed numbers u_by_group 0 (joined_by Stay) ≡ false
unfolding joined_by numbers u_by_group
stay-not_placed = refl

right-placed : joins_are_placed numbers u_by_group 0 (joined_by MoveRight) ≡ true
unfolding joined_by numbers u_by_group
right-placed = refl

-- where v stands by another column, partners that stay miss each other
stay-elsewhere : plan_mean (met_by (1 ∷ []) Stay) (by_each u_by_group) three ≢ Rows ((int 1 ∷ int 7 ∷ []) ∷ (int 1 ∷ int 9 ∷ []) ∷ (int 2 ∷ int 8 ∷ []) ∷ (int 3 ∷ int 7 ∷ []) ∷ (int 3 ∷ int 9 ∷ []) ∷ [])
unfolding plain met_by by_each u_by_group met numbers four uv three int same_group hidden-the_row-Expr-0 hidden-the_row-Op-0 hidden
stay-elsewhere e = cc

-- tests that the conditions do not imply lose rows
other_tests-lose : plan_mean (gathered_plan numbers met (u_tested ∷ plain 1 ∷ [])) (by_each by_group) three ≢ Rows ((int 1 ∷ int 7 ∷ []) ∷ (int 1 ∷ int 9 ∷ []) ∷ (int 2 ∷ int 8 ∷ []) ∷ (int 3 ∷ int 7 ∷ []) ∷ (int 3 ∷ int 9 ∷ []) ∷ [])
unfolding plain u_tested at_least_two by_each by_group met numbers uv three int same_group hidden-the_row-Expr-0 hidden-the_row-Op-0 hidden
other_tests-lose e = cc

-- these are all tests that the conditions hold
picked-held : with_tests numbers (on_condition ∷ below_nine 2 ∷ []) 0 (0 ∷ 1 ∷ []) ≡ u_tested ∷ v_tested ∷ []
unfolding u_tested v_tested on_condition same_group at_least_two below_nine numbers int hidden-the_row-Expr-0 hidden
picked-held = refl

picked-one : length (tests_of (numbers 1) 2 (on_condition ∷ below_nine 2 ∷ [])) ≡ 1
unfolding on_condition same_group at_least_two below_nine numbers int hidden-the_row-Expr-0 hidden
picked-one = refl

picked-not_none : length (tests_of (numbers 1) 2 (on_condition ∷ below_nine 2 ∷ [])) ≢ 0
picked-not_none e = let u : ◌≡◌ {A = ℕ} 1 0 = sym picked-one ∙ e in cc

-- a third source stays where the two before it were brought by equal keys
three_joined : List ℕ → List Joining
three_joined keys = (record { table = 1; tests = []; left_keys = 1 ∷ []; right_keys = 1 ∷ []; way = MoveBoth }) ∷ (record { table = 0; tests = []; left_keys = keys; right_keys = 1 ∷ []; way = Stay }) ∷ []

third-placed : joins_are_placed numbers by_group 0 (three_joined (3 ∷ [])) ≡ true
unfolding three_joined numbers by_group
third-placed = refl

third-not_placed : joins_are_placed numbers by_group 0 (three_joined (2 ∷ [])) ≡ false
unfolding three_joined numbers by_group
third-not_placed = refl

-- SELECT u.id, v.k FROM u JOIN v ON u.g = v.g AND u.id < u.g WHERE v.k IS NULL OR v.k < 9: two columns of u, and a choice
-- of conditions on v, are guards, though no tests
low_id : Expr
unfolding hidden-the_row-Expr-0 hidden
low_id = e.Compare compare.Less (e.Column 0) (e.Column 1)

null_or_few : ℕ → Expr
unfolding below_nine int hidden-the_row-Expr-0 hidden
null_or_few place = e.Or (e.IsNull (e.Column place)) (below_nine place)

guarding : List Expr
unfolding hidden-the_row-Expr-0 hidden
guarding = e.And same_group low_id ∷ null_or_few 2 ∷ []

u_guarded : Source
u_guarded = record { table = 0; tests = low_id ∷ [] }

v_guarded : Source
v_guarded = record { table = 1; tests = null_or_few 0 ∷ [] }

guarding-held : with_guards numbers guarding 0 (0 ∷ 1 ∷ []) ≡ u_guarded ∷ v_guarded ∷ []
unfolding u_guarded v_guarded guarding same_group low_id null_or_few below_nine numbers int hidden-the_row-Expr-0 hidden
guarding-held = refl

guarding-no_tests : with_tests numbers guarding 0 (0 ∷ 1 ∷ []) ≡ plain 0 ∷ plain 1 ∷ []
unfolding plain guarding same_group low_id null_or_few below_nine numbers int hidden-the_row-Expr-0 hidden
guarding-no_tests = refl

-- what names both sources guards neither, nor does what names no column
linked-none : guards_of (numbers 1) 2 (same_group ∷ e.Literal (int 1) ∷ []) ≡ []
unfolding same_group numbers int hidden-the_row-Expr-0 hidden
linked-none = refl

-- where all columns of both sides travel by g, each Scan stands directly under its guards
guarded_by : Source → List Expr → Plan
guarded_by first tests = spread_plan numbers four met first ((record { table = 1; tests = tests; left_keys = 1 ∷ []; right_keys = 1 ∷ []; way = MoveBoth }) ∷ [])

guarded-scanned : all_guarded (guarded_by u_guarded (null_or_few 0 ∷ [])).slices ≡ map (guarded numbers) (u_guarded ∷ v_guarded ∷ [])
unfolding guarded_by u_guarded v_guarded met same_group low_id null_or_few below_nine numbers four int hidden-the_row-Expr-0 hidden-the_row-Op-0 hidden
guarded-scanned = refl

-- not so where those of v are left above the join
guarded-left_above : map (λ (g : Guarded). length g.guards) (all_guarded (guarded_by u_guarded []).slices) ≢ 1 ∷ 1 ∷ []
unfolding guarded_by u_guarded met same_group low_id numbers four int hidden-the_row-Expr-0 hidden-the_row-Op-0 hidden
guarded-left_above e = cc
