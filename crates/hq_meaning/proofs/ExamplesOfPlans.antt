-- What small plans mean over three nodes, and what they do not mean.
use Rattle.std.proofs.Common.{◌≡◌, ◌≢◌, ℕ, zero, suc, ◌==◌, List, [], ◌∷◌, filter, pos, true, refl, Some, None}
use Rattle.hq_value.specs.declared.value.Value.{Value}
use Rattle.hq_value.specs.declared.value.Value.TheVariants as value
use Rattle.hq_value.specs.Bucket.{bucket_of}
use Rattle.hq_value.specs.declared.operator.CompareKind.TheVariants as compare
use Rattle.hq_algebra.specs.declared.aggregate.Aggregate.TheVariants as agg
use Rattle.hq_algebra.specs.declared.expr.Expr.TheVariants as e
use Rattle.hq_algebra.specs.declared.op.Op.TheVariants as op
use Rattle.hq_algebra.specs.declared.plan.Motion.{Motion}
use Rattle.hq_algebra.specs.declared.plan.Motion.TheVariants as motion
use Rattle.hq_algebra.specs.declared.plan.Plan.{Plan}
use Rattle.hq_algebra.specs.declared.expr.Expr.TheBlock.{hidden-the_row-Expr-0}
use Rattle.hq_algebra.specs.declared.op.Op.TheBlock.{hidden-the_row-Op-0}
use denote.Hole.Carrier.{hidden}
use Rattle.hq_meaning.specs.Rows.{Row}
use Rattle.hq_meaning.specs.Mean.{Rows, Numeric}
use Rattle.hq_meaning.specs.Nodes.{nodes_of, home}
use Rattle.hq_meaning.specs.Plans.{Parts, plan_mean, all_rows}

int : ℕ → Value
int n = value.Int (pos n)

-- nodes 0, 1 and 2 in turn
three : List ℕ
three = 0 ∷ 1 ∷ 2 ∷ 0 ∷ 1 ∷ 2 ∷ 0 ∷ 1 ∷ 2 ∷ 0 ∷ 1 ∷ 2 ∷ 0 ∷ 1 ∷ 2 ∷ 0 ∷ []

-- without node 1
two : List ℕ
two = 0 ∷ 2 ∷ 0 ∷ 2 ∷ 0 ∷ 2 ∷ 0 ∷ 2 ∷ 0 ∷ 2 ∷ 0 ∷ 2 ∷ 0 ∷ 2 ∷ 0 ∷ 2 ∷ []

one : List ℕ
one = 4 ∷ 4 ∷ 4 ∷ 4 ∷ 4 ∷ 4 ∷ 4 ∷ 4 ∷ 4 ∷ 4 ∷ 4 ∷ 4 ∷ 4 ∷ 4 ∷ 4 ∷ 4 ∷ []

nodes_of-three : nodes_of three ≡ 0 ∷ 1 ∷ 2 ∷ []
unfolding three
nodes_of-three = refl

nodes_of-two : nodes_of two ≡ 0 ∷ 2 ∷ []
unfolding two
nodes_of-two = refl

-- the row (2) stands in bucket 2
home-of_two : home two (0 ∷ []) (int 2 ∷ []) ≡ 0
unfolding two int
home-of_two = refl

home-not_by_node_count : home three (0 ∷ []) (int 1 ∷ []) ≢ 1
unfolding three int
home-not_by_node_count e = cc

-- rows by the bucket of their first column
by_first : (ℕ → List Row) → Parts
by_first db t b = filter (λ row. bucket_of row (0 ∷ []) == b) (db t)

uv : ℕ → List Row
uv zero = (int 1 ∷ int 10 ∷ []) ∷ (int 2 ∷ int 20 ∷ []) ∷ (int 3 ∷ int 10 ∷ []) ∷ []
uv _ = (int 7 ∷ int 10 ∷ []) ∷ (int 8 ∷ int 20 ∷ []) ∷ (int 9 ∷ int 10 ∷ []) ∷ []

all_rows-of_u : all_rows (by_first uv) three 0 ≡ (int 2 ∷ int 20 ∷ []) ∷ (int 3 ∷ int 10 ∷ []) ∷ (int 1 ∷ int 10 ∷ []) ∷ []
unfolding by_first uv three int
all_rows-of_u = refl

-- u goes on by its column g, v by the motion, and the nodes join what they received
meeting : Motion → Plan
meeting out = record {
  slices =
      (record { out = motion.Redistribute (1 ∷ []); root = op.Scan 0 [] })
      ∷ (record { out = out; root = op.Scan 1 [] })
      ∷ (record { out = motion.Gather; root = op.Project (e.Column 0 ∷ e.Column 2 ∷ []) (op.Join (1 ∷ []) (1 ∷ []) (op.Receive 0 []) (op.Receive 1 [])) })
      ∷ (record { out = motion.Result; root = op.Sort [] None (op.Receive 2 []) }) ∷ [];
}

meeting-by_keys : plan_mean (meeting (motion.Redistribute (1 ∷ []))) (by_first uv) three ≡ Rows ((int 1 ∷ int 7 ∷ []) ∷ (int 1 ∷ int 9 ∷ []) ∷ (int 2 ∷ int 8 ∷ []) ∷ (int 3 ∷ int 7 ∷ []) ∷ (int 3 ∷ int 9 ∷ []) ∷ [])
unfolding meeting three by_first uv int hidden-the_row-Expr-0 hidden-the_row-Op-0 hidden
meeting-by_keys = refl

meeting-on_one : plan_mean (meeting (motion.Redistribute (1 ∷ []))) (by_first uv) one ≡ Rows ((int 1 ∷ int 7 ∷ []) ∷ (int 1 ∷ int 9 ∷ []) ∷ (int 2 ∷ int 8 ∷ []) ∷ (int 3 ∷ int 7 ∷ []) ∷ (int 3 ∷ int 9 ∷ []) ∷ [])
unfolding meeting one by_first uv int hidden-the_row-Expr-0 hidden-the_row-Op-0 hidden
meeting-on_one = refl

meeting-copied : plan_mean (meeting motion.Broadcast) (by_first uv) two ≡ Rows ((int 1 ∷ int 7 ∷ []) ∷ (int 1 ∷ int 9 ∷ []) ∷ (int 2 ∷ int 8 ∷ []) ∷ (int 3 ∷ int 7 ∷ []) ∷ (int 3 ∷ int 9 ∷ []) ∷ [])
unfolding meeting two by_first uv int hidden-the_row-Expr-0 hidden-the_row-Op-0 hidden
meeting-copied = refl

-- by other columns partners miss each other
meeting-by_other_keys : plan_mean (meeting (motion.Redistribute (0 ∷ []))) (by_first uv) three ≢ Rows ((int 1 ∷ int 7 ∷ []) ∷ (int 1 ∷ int 9 ∷ []) ∷ (int 2 ∷ int 8 ∷ []) ∷ (int 3 ∷ int 7 ∷ []) ∷ (int 3 ∷ int 9 ∷ []) ∷ [])
unfolding meeting three by_first uv int hidden-the_row-Expr-0 hidden-the_row-Op-0 hidden
meeting-by_other_keys e = cc

text : ℕ → Value
text n = value.Text (n ∷ [])

-- sales by their place in the statement, and the shops
shops : Parts
shops zero zero = (int 1 ∷ int 20240102 ∷ int 50 ∷ []) ∷ []
shops zero (suc zero) = (int 2 ∷ int 20240102 ∷ int 70 ∷ []) ∷ []
shops zero (suc (suc zero)) = (int 1 ∷ int 20240103 ∷ int 25 ∷ []) ∷ []
shops zero (suc (suc (suc zero))) = (int 3 ∷ int 20240103 ∷ int 5 ∷ []) ∷ []
shops (suc zero) (suc zero) = (int 1 ∷ text 79 ∷ []) ∷ (int 2 ∷ text 82 ∷ []) ∷ (int 3 ∷ value.Null ∷ []) ∷ []
shops _ _ = []

-- the shops go to all nodes, and each node sums its sales
cities : Plan
cities = record {
  slices =
      (record { out = motion.Broadcast; root = op.Scan 1 [] })
      ∷ (record { out = motion.Gather; root = op.Partial (4 ∷ []) (agg.Sum (e.Column 2) ∷ []) (op.Filter (e.Compare compare.AtLeast (e.Column 1) (e.Literal (int 20240102))) (op.Join (0 ∷ []) (0 ∷ []) (op.Scan 0 []) (op.Receive 0 []))) })
      ∷ (record { out = motion.Result; root = op.Sort (record { column = 1; descending = true } ∷ []) (Some 10) (op.Filter (e.Compare compare.Greater (e.Column 1) (e.Literal (int 10))) (op.Final 1 (agg.Sum (e.Column 2) ∷ []) (op.Receive 1 []))) }) ∷ [];
}

cities-of_shops : plan_mean cities shops three ≡ Rows ((text 79 ∷ int 75 ∷ []) ∷ (text 82 ∷ int 70 ∷ []) ∷ [])
unfolding cities three shops text int hidden-the_row-Expr-0 hidden-the_row-Op-0 hidden
cities-of_shops = refl

-- a count over three nodes; where only its rows are counted again the answer is 3
counted : Plan
counted = record {
  slices =
      (record { out = motion.Gather; root = op.Partial [] (agg.CountAll ∷ []) (op.Scan 0 []) })
      ∷ (record { out = motion.Result; root = op.Final 0 (agg.CountAll ∷ []) (op.Receive 0 []) }) ∷ [];
}

counted-of_shops : plan_mean counted shops three ≡ Rows ((int 4 ∷ []) ∷ [])
unfolding counted three shops int hidden-the_row-Op-0 hidden
counted-of_shops = refl

counted-not_by_node : plan_mean counted shops three ≢ Rows ((int 3 ∷ []) ∷ [])
unfolding counted three shops int hidden-the_row-Op-0 hidden
counted-not_by_node e = cc

-- two nodes that each sum to the greatest number: the fault is in the last slice
great : Parts
great zero zero = (int 9223372036854775807 ∷ []) ∷ []
great zero (suc zero) = (int 9223372036854775807 ∷ []) ∷ []
great _ _ = []

summed : Plan
summed = record {
  slices =
      (record { out = motion.Gather; root = op.Partial [] (agg.Sum (e.Column 0) ∷ []) (op.Scan 0 []) })
      ∷ (record { out = motion.Result; root = op.Final 0 (agg.Sum (e.Column 0) ∷ []) (op.Receive 0 []) }) ∷ [];
}

summed-of_great : plan_mean summed great three ≡ Numeric
unfolding summed three great int hidden-the_row-Op-0 hidden
summed-of_great = refl
