-- The worked join over one node, over three, and over those that are left where one is down; and what it does not give.
use Rattle.std.proofs.Common.{◌≡◌, ◌≢◌, ℕ, zero, ◌==◌, Bool, true, false, List, [], ◌∷◌, filter, pos, refl, None}
use Rattle.hq_value.specs.declared.value.Value.{Value}
use Rattle.hq_value.specs.declared.value.Value.TheVariants as value
use Rattle.hq_value.specs.Bucket.{bucket_of}
use Rattle.hq_algebra.specs.declared.expr.Expr.TheVariants as e
use Rattle.hq_algebra.specs.declared.op.Op.TheVariants as op
use Rattle.hq_algebra.specs.declared.plan.Motion.TheVariants as motion
use Rattle.hq_algebra.specs.declared.plan.Plan.{Plan}
use Rattle.hq_algebra.specs.declared.plan.Slice.{Slice}
use Rattle.hq_algebra.specs.declared.expr.Expr.TheBlock.{hidden-the_row-Expr-0}
use Rattle.hq_algebra.specs.declared.op.Op.TheBlock.{hidden-the_row-Op-0}
use denote.Hole.Carrier.{hidden}
use Rattle.hq_meaning.specs.Rows.{Row}
use Rattle.hq_meaning.specs.Mean.{Rows}
use Rattle.hq_meaning.specs.Nodes.{nodes_of}
use Rattle.hq_meaning.specs.Plans.{Parts, plan_mean}
use Rattle.hq_motion.specs.Bytes.{rows_bytes}
use Rattle.hq_motion.specs.Split.{receivers}
use Rattle.hq_dispatch.specs.Owners.{owners, is_used}
use Rattle.hq_dispatch.specs.Streams.{slice_streams, plan_pieces}

int : ℕ → Value
int n = value.Int (pos n)

-- rows by the bucket of their first column
by_first : (ℕ → List Row) → Parts
by_first db t b = filter (λ row. bucket_of row (0 ∷ []) == b) (db t)

uv : ℕ → List Row
uv zero = (int 1 ∷ int 10 ∷ []) ∷ (int 2 ∷ int 20 ∷ []) ∷ (int 3 ∷ int 10 ∷ []) ∷ []
uv _ = (int 7 ∷ int 10 ∷ []) ∷ (int 8 ∷ int 20 ∷ []) ∷ (int 9 ∷ int 10 ∷ []) ∷ []

scanned : Slice
scanned = record { out = motion.Redistribute (1 ∷ []); root = op.Scan 0 [] }

-- both sides go to the nodes of their column g, which join what they received
meeting : Plan
meeting = record {
  slices =
      scanned
      ∷ (record { out = motion.Redistribute (1 ∷ []); root = op.Scan 1 [] })
      ∷ (record { out = motion.Gather; root = op.Project (e.Column 0 ∷ e.Column 2 ∷ []) (op.Join (1 ∷ []) (1 ∷ []) (op.Receive 0 []) (op.Receive 1 [])) })
      ∷ (record { out = motion.Result; root = op.Sort [] None (op.Receive 2 []) }) ∷ [];
}

one_up : List Bool
one_up = true ∷ []

three_up : List Bool
three_up = true ∷ true ∷ true ∷ []

-- node 0 is down
two_up : List Bool
two_up = false ∷ true ∷ true ∷ []

meeting-on_one : plan_mean meeting (by_first uv) (owners one_up) ≡ Rows ((int 1 ∷ int 7 ∷ []) ∷ (int 1 ∷ int 9 ∷ []) ∷ (int 2 ∷ int 8 ∷ []) ∷ (int 3 ∷ int 7 ∷ []) ∷ (int 3 ∷ int 9 ∷ []) ∷ [])
unfolding meeting scanned one_up by_first uv int hidden-the_row-Expr-0 hidden-the_row-Op-0 hidden
meeting-on_one = refl

meeting-on_three : plan_mean meeting (by_first uv) (owners three_up) ≡ Rows ((int 1 ∷ int 7 ∷ []) ∷ (int 1 ∷ int 9 ∷ []) ∷ (int 2 ∷ int 8 ∷ []) ∷ (int 3 ∷ int 7 ∷ []) ∷ (int 3 ∷ int 9 ∷ []) ∷ [])
unfolding meeting scanned three_up by_first uv int hidden-the_row-Expr-0 hidden-the_row-Op-0 hidden
meeting-on_three = refl

-- a motion's rows taken twice
meeting-not_twice : plan_mean meeting (by_first uv) (owners three_up) ≢ Rows ((int 1 ∷ int 7 ∷ []) ∷ (int 1 ∷ int 7 ∷ []) ∷ (int 1 ∷ int 9 ∷ []) ∷ (int 1 ∷ int 9 ∷ []) ∷ (int 2 ∷ int 8 ∷ []) ∷ (int 2 ∷ int 8 ∷ []) ∷ (int 3 ∷ int 7 ∷ []) ∷ (int 3 ∷ int 7 ∷ []) ∷ (int 3 ∷ int 9 ∷ []) ∷ (int 3 ∷ int 9 ∷ []) ∷ [])
unfolding meeting scanned three_up by_first uv int hidden-the_row-Expr-0 hidden-the_row-Op-0 hidden
meeting-not_twice e = cc

-- a gather goes to the lowest node that is up
gather-of_two : receivers motion.Gather (owners two_up) ≡ 1 ∷ []
unfolding two_up
gather-of_two = refl

gather-not_down : receivers motion.Gather (owners two_up) ≢ 0 ∷ []
unfolding two_up
gather-not_down e = cc

nodes-of_two : nodes_of (owners two_up) ≡ 1 ∷ 2 ∷ []
unfolding two_up
nodes-of_two = refl

used-not_down : is_used two_up 0 ≡ false
unfolding two_up
used-not_down = refl

-- with one node every motion but the last is one stream of one piece and its end, with three each of three nodes gets three
pieces-on_one : plan_pieces meeting (by_first uv) (owners one_up) 0 ≡ 6
unfolding meeting scanned one_up by_first uv int hidden-the_row-Expr-0 hidden-the_row-Op-0 hidden
pieces-on_one = refl

pieces-on_three : plan_pieces meeting (by_first uv) (owners three_up) 0 ≡ 13
unfolding meeting scanned three_up by_first uv int hidden-the_row-Expr-0 hidden-the_row-Op-0 hidden
pieces-on_three = refl

pieces-not_gathered : plan_pieces meeting (by_first uv) (owners three_up) 1 ≡ 10
unfolding meeting scanned three_up by_first uv int hidden-the_row-Expr-0 hidden-the_row-Op-0 hidden
pieces-not_gathered = refl

-- rows of u go to the node that owns the bucket of their g: both that have 10 to node 1
streams-of_ten : slice_streams (by_first uv) (owners three_up) [] scanned 1 ≡ (0, rows_bytes ((int 1 ∷ int 10 ∷ []) ∷ [])) ∷ (1, []) ∷ (2, rows_bytes ((int 3 ∷ int 10 ∷ []) ∷ [])) ∷ []
unfolding scanned three_up by_first uv int
streams-of_ten = refl

-- none of them gets to node 2
streams-not_another : slice_streams (by_first uv) (owners three_up) [] scanned 2 ≡ (0, []) ∷ (1, []) ∷ (2, []) ∷ []
unfolding scanned three_up by_first uv int
streams-not_another = refl
