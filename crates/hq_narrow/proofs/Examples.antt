-- A small query over some columns of its sources, a plan of it, and what does not mean the same.
use Rattle.std.proofs.Common.{◌≡◌, ◌≢◌, ℕ, zero, List, [], ◌∷◌, map, pos, true, false, None, refl, arith}
use Rattle.hq_value.specs.declared.kind.Kind.{Kind}
use Rattle.hq_value.specs.declared.kind.Kind.TheVariants as kind
use Rattle.hq_value.specs.declared.value.Value.TheVariants as value
use Rattle.hq_value.specs.declared.operator.CompareKind.TheVariants as compare
use Rattle.hq_algebra.specs.declared.expr.Expr.{Expr}
use Rattle.hq_algebra.specs.declared.expr.Expr.TheVariants as e
use Rattle.hq_algebra.specs.declared.op.Op.TheVariants as op
use Rattle.hq_algebra.specs.declared.plan.Plan.{Plan}
use Rattle.hq_algebra.specs.declared.query.Query.{Query}
use Rattle.hq_algebra.specs.declared.expr.Expr.TheBlock.{hidden-the_row-Expr-0}
use Rattle.hq_algebra.specs.declared.op.Op.TheBlock.{hidden-the_row-Op-0}
use denote.Hole.Carrier.{hidden}
use Rattle.hq_algebra.specs.Plans.{is_well_formed}
use Rattle.hq_meaning.specs.Mean.{Rows, mean}
use Rattle.hq_meaning.specs.Plans.{plan_mean}
use Rattle.hq_laws.specs.Guards.{with_guards, all_guarded, guarded}
use Rattle.hq_laws.specs.Sources.{Source}
use Rattle.hq_laws.specs.Spread.{MoveBoth, spread_plan}
use Rattle.hq_laws.specs.Turned.{AreTurned, columns_in}
use Rattle.hq_laws.proofs.Examples.{int, three, uv, numbers, by_columns}
use Rattle.hq_narrow.specs.declared.taken.Taken.{Taken}
use Rattle.hq_narrow.specs.Narrow.{taken_tables, place_from, places}
use Rattle.hq_narrow.specs.Widened.{widened, widened_plan}

-- SELECT v.k FROM u JOIN v ON u.g = v.g WHERE u.g < 15: u.id is named nowhere
all_columns : Query
unfolding hidden-the_row-Expr-0 hidden
all_columns = record {
  sources = 0 ∷ 1 ∷ [];
  conds = e.Compare compare.Equal (e.Column 1) (e.Column 3) ∷ e.Compare compare.Less (e.Column 1) (e.Literal (value.Int (pos 15))) ∷ [];
  grouped = false;
  groups = [];
  aggregates = [];
  having = [];
  items = e.Column 2 ∷ [];
  distinct = false;
  order = [];
  limit = None;
  some_sources = omega arith;
  few_sources = omega arith;
  some_items = omega arith;
  few_items = omega arith;
  conds_fault_never = refl;
  having_faults_never = refl;
  small = refl;
  plain = refl;
  counts_of_one = refl;
  group_columns = refl;
  order_columns = refl;
}

-- the same over u.g, v.k and v.g
three_columns : Query
unfolding hidden-the_row-Expr-0 hidden
three_columns = record {
  sources = 0 ∷ 1 ∷ [];
  conds = e.Compare compare.Equal (e.Column 0) (e.Column 2) ∷ e.Compare compare.Less (e.Column 0) (e.Literal (value.Int (pos 15))) ∷ [];
  grouped = false;
  groups = [];
  aggregates = [];
  having = [];
  items = e.Column 1 ∷ [];
  distinct = false;
  order = [];
  limit = None;
  some_sources = omega arith;
  few_sources = omega arith;
  some_items = omega arith;
  few_items = omega arith;
  conds_fault_never = refl;
  having_faults_never = refl;
  small = refl;
  plain = refl;
  counts_of_one = refl;
  group_columns = refl;
  order_columns = refl;
}

needed : List Taken
needed = (record { table = 0; columns = 1 ∷ [] }) ∷ (record { table = 1; columns = 0 ∷ 1 ∷ [] }) ∷ []

-- the column of u one place off
one_off : List Taken
one_off = (record { table = 0; columns = 0 ∷ [] }) ∷ (record { table = 1; columns = 0 ∷ 1 ∷ [] }) ∷ []

found : ℕ → List Kind
found zero = kind.Int ∷ []
found _ = kind.Int ∷ kind.Int ∷ []

needed-turned : AreTurned (place_from (places numbers needed) (columns_in numbers (0 ∷ 1 ∷ []))) three_columns all_columns
unfolding three_columns all_columns needed numbers hidden-the_row-Expr-0 hidden
needed-turned = record { conds = refl; grouped = refl; groups = refl; aggregates = refl; having = refl; items = refl; distinct = refl; order = refl; limit = refl }

needed-means : mean three_columns (taken_tables needed uv) ≡ mean all_columns uv
unfolding three_columns all_columns needed uv int hidden-the_row-Expr-0 hidden
needed-means = refl

one_off-means_other : mean three_columns (taken_tables one_off uv) ≢ mean all_columns uv
unfolding three_columns all_columns one_off uv int hidden-the_row-Expr-0 hidden
one_off-means_other e = cc

-- both sides go by g: the column 0 of u, and the column 1 of v, among those that are taken
below_15 : Expr
unfolding hidden-the_row-Expr-0 hidden
below_15 = e.Compare compare.Less (e.Column 0) (e.Literal (value.Int (pos 15)))

narrow : Plan
narrow = spread_plan found (kind.Int ∷ kind.Int ∷ kind.Int ∷ []) three_columns (record { table = 0; tests = below_15 ∷ [] }) ((record { table = 1; tests = []; left_keys = 0 ∷ []; right_keys = 1 ∷ []; way = MoveBoth }) ∷ [])

narrow-widened : plan_mean (widened_plan numbers needed narrow) (by_columns (0 ∷ [])) three ≡ Rows ((int 7 ∷ []) ∷ (int 7 ∷ []) ∷ (int 9 ∷ []) ∷ (int 9 ∷ []) ∷ [])
unfolding narrow needed below_15 three_columns found numbers by_columns uv three int hidden-the_row-Expr-0 hidden-the_row-Op-0 hidden
narrow-widened = refl

narrow-well_formed : is_well_formed (widened_plan numbers needed narrow) ≡ true
unfolding narrow needed below_15 three_columns found numbers hidden-the_row-Expr-0 hidden-the_row-Op-0 hidden
narrow-well_formed = refl

-- all columns of v are taken, so its Scan stands without a Project; those of u are not
v_as_it_stands : widened numbers needed None (op.Scan 1 (kind.Int ∷ kind.Int ∷ [])) ≡ op.Scan 1 (kind.Int ∷ kind.Int ∷ [])
unfolding needed numbers hidden-the_row-Expr-0 hidden-the_row-Op-0 hidden
v_as_it_stands = refl

u_in_part : widened numbers needed None (op.Scan 0 (kind.Int ∷ [])) ≡ op.Project (e.Column 1 ∷ []) (op.Scan 0 (kind.Int ∷ kind.Int ∷ []))
unfolding needed numbers hidden-the_row-Expr-0 hidden-the_row-Op-0 hidden
u_in_part = refl

-- the guard of u stands over its column 1 there, directly above its Scan
narrow-guarded : all_guarded (widened_plan numbers needed narrow).slices ≡ map (guarded numbers) (with_guards numbers all_columns.conds 0 all_columns.sources)
unfolding narrow needed below_15 three_columns all_columns found numbers hidden-the_row-Expr-0 hidden-the_row-Op-0 hidden
narrow-guarded = refl

one_off-widened : plan_mean (widened_plan numbers one_off narrow) (by_columns (0 ∷ [])) three ≢ Rows ((int 7 ∷ []) ∷ (int 7 ∷ []) ∷ (int 9 ∷ []) ∷ (int 9 ∷ []) ∷ [])
unfolding narrow one_off below_15 three_columns found numbers by_columns uv three int hidden-the_row-Expr-0 hidden-the_row-Op-0 hidden
one_off-widened e = cc
