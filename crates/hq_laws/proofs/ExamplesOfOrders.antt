-- Sources in another order, buckets dealt in turn, and what does not mean the same.
use Rattle.std.proofs.Common.{◌≡◌, ◌≢◌, ℕ, zero, suc, Bool, true, false, [], ◌∷◌, None, refl, arith}
use Rattle.hq_value.specs.declared.operator.CompareKind.TheVariants as compare
use Rattle.hq_algebra.specs.declared.expr.Expr.TheVariants as e
use Rattle.hq_algebra.specs.declared.plan.Motion.TheVariants as motion
use Rattle.hq_algebra.specs.declared.query.Query.{Query}
use Rattle.hq_algebra.specs.declared.expr.Expr.TheBlock.{hidden-the_row-Expr-0}
use denote.Hole.Carrier.{hidden}
use Rattle.hq_meaning.specs.Mean.{Rows, mean}
use Rattle.hq_meaning.specs.Nodes.{nodes_of, moved}
use Rattle.hq_laws.specs.Turned.{turned, AreTurned, columns_in}
use Rattle.hq_laws.specs.Dealt.{in_use, dealt}
use Rattle.hq_laws.proofs.Examples.{int, three, uv, numbers}

-- u, u and v: the neighbours x and y have no link, z has one with each
-- SELECT x.id, y.id, z.k FROM u x, u y, v z WHERE x.g = z.g AND z.g = y.g
far : Query
unfolding hidden-the_row-Expr-0 hidden
far = record {
  sources = 0 ∷ 0 ∷ 1 ∷ [];
  conds = e.Compare compare.Equal (e.Column 1) (e.Column 5) ∷ e.Compare compare.Equal (e.Column 5) (e.Column 3) ∷ [];
  grouped = false;
  groups = [];
  aggregates = [];
  having = [];
  items = e.Column 0 ∷ e.Column 2 ∷ e.Column 4 ∷ [];
  distinct = false;
  order = [];
  limit = None;
  some_sources = omega arith;
  few_sources = omega arith;
  some_items = omega arith;
  few_items = omega arith;
  conds_fault_never = refl;
  having_faults_never = refl;
  small = refl;
  plain = refl;
  counts_of_one = refl;
  group_columns = refl;
  order_columns = refl;
}

-- the same, FROM u x, v z, u y: y goes behind z
near : Query
unfolding hidden-the_row-Expr-0 hidden
near = record {
  sources = 0 ∷ 1 ∷ 0 ∷ [];
  conds = e.Compare compare.Equal (e.Column 1) (e.Column 3) ∷ e.Compare compare.Equal (e.Column 3) (e.Column 5) ∷ [];
  grouped = false;
  groups = [];
  aggregates = [];
  having = [];
  items = e.Column 0 ∷ e.Column 4 ∷ e.Column 2 ∷ [];
  distinct = false;
  order = [];
  limit = None;
  some_sources = omega arith;
  few_sources = omega arith;
  some_items = omega arith;
  few_items = omega arith;
  conds_fault_never = refl;
  having_faults_never = refl;
  small = refl;
  plain = refl;
  counts_of_one = refl;
  group_columns = refl;
  order_columns = refl;
}

near-turned : AreTurned (turned (columns_in numbers (0 ∷ [])) (columns_in numbers (0 ∷ [])) (columns_in numbers (1 ∷ []))) far near
unfolding far near numbers hidden-the_row-Expr-0 hidden
near-turned = record { conds = refl; grouped = refl; groups = refl; aggregates = refl; having = refl; items = refl; distinct = refl; order = refl; limit = refl }

far-means : mean far uv ≡ Rows ((int 1 ∷ int 1 ∷ int 7 ∷ []) ∷ (int 1 ∷ int 1 ∷ int 9 ∷ []) ∷ (int 1 ∷ int 3 ∷ int 7 ∷ []) ∷ (int 1 ∷ int 3 ∷ int 9 ∷ []) ∷ (int 2 ∷ int 2 ∷ int 8 ∷ []) ∷ (int 3 ∷ int 1 ∷ int 7 ∷ []) ∷ (int 3 ∷ int 1 ∷ int 9 ∷ []) ∷ (int 3 ∷ int 3 ∷ int 7 ∷ []) ∷ (int 3 ∷ int 3 ∷ int 9 ∷ []) ∷ [])
unfolding far uv int hidden-the_row-Expr-0 hidden
far-means = refl

near-means : mean near uv ≡ mean far uv
unfolding near far uv int hidden-the_row-Expr-0 hidden
near-means = refl

-- with the items where they stood before, it is another query
misnamed : Query
unfolding hidden-the_row-Expr-0 hidden
misnamed = record {
  sources = 0 ∷ 1 ∷ 0 ∷ [];
  conds = e.Compare compare.Equal (e.Column 1) (e.Column 3) ∷ e.Compare compare.Equal (e.Column 3) (e.Column 5) ∷ [];
  grouped = false;
  groups = [];
  aggregates = [];
  having = [];
  items = e.Column 0 ∷ e.Column 2 ∷ e.Column 4 ∷ [];
  distinct = false;
  order = [];
  limit = None;
  some_sources = omega arith;
  few_sources = omega arith;
  some_items = omega arith;
  few_items = omega arith;
  conds_fault_never = refl;
  having_faults_never = refl;
  small = refl;
  plain = refl;
  counts_of_one = refl;
  group_columns = refl;
  order_columns = refl;
}

misnamed-differs : mean misnamed uv ≢ mean far uv
unfolding misnamed far uv int hidden-the_row-Expr-0 hidden
misnamed-differs h = cc

-- segments 0 and 2 of three are up
two_up : ℕ → Bool
two_up zero = true
two_up (suc zero) = false
two_up (suc (suc zero)) = true
two_up _ = false

two-dealt : dealt (in_use two_up) ≡ 0 ∷ 2 ∷ 0 ∷ 2 ∷ 0 ∷ 2 ∷ 0 ∷ 2 ∷ 0 ∷ 2 ∷ 0 ∷ 2 ∷ 0 ∷ 2 ∷ 0 ∷ 2 ∷ []
unfolding two_up
two-dealt = refl

two-nodes : nodes_of (dealt (in_use two_up)) ≡ 0 ∷ 2 ∷ []
unfolding two_up
two-nodes = refl

two-not_the_other : nodes_of (dealt (in_use two_up)) ≢ 0 ∷ 1 ∷ []
unfolding two_up
two-not_the_other h = cc

-- a Gather sends all to the lowest node, whoever gives them
gathered-lists : moved motion.Gather three ((int 1 ∷ []) ∷ (int 2 ∷ []) ∷ []) 0 ≡ (int 1 ∷ []) ∷ (int 2 ∷ []) ∷ []
unfolding three int
gathered-lists = refl

gathered-nothing : moved motion.Gather three ((int 1 ∷ []) ∷ (int 2 ∷ []) ∷ []) 1 ≢ (int 1 ∷ []) ∷ (int 2 ∷ []) ∷ []
unfolding three int
gathered-nothing h = cc
