-- What a plan means over the rows of the nodes.
--     plan_mean plan parts owner     its rows in order, or Numeric where any evaluation faults
--     all_rows parts owner table     the rows of a table, over all its buckets
use Rattle.std.specs.Prelude.{ℕ, Bool, false, ◌==◌, List, [], ◌∷◌, ◌++◌, filter, flat_map, length, slice_index, slice_index_or, if◌then◌else◌}
use Rattle.std.specs.List.{list_any, range_with_len}
use Rattle.hq_value.specs.declared.value.Value.{Value}
use Rattle.hq_algebra.specs.declared.op.Op.{Op}
use Rattle.hq_algebra.specs.declared.plan.Motion.{Motion}
use Rattle.hq_algebra.specs.declared.plan.Motion.TheVariants as motion
use Rattle.hq_algebra.specs.declared.plan.Slice.{Slice}
use Rattle.hq_algebra.specs.declared.plan.Plan.{Plan}
use Rattle.hq_algebra.specs.Plans.{is_gather}
use Rattle.hq_meaning.specs.Rows.{Row}
use Rattle.hq_meaning.specs.Mean.{Answer, answer_of}
use Rattle.hq_meaning.specs.Nodes.{nodes_of, lowest, moved}
use Rattle.hq_meaning.specs.Slices.{Here, rows_of, op_faults, receives}

-- the rows of each table by bucket
abbrev pub Parts : Type 0
Parts = ℕ → ℕ → List (List Value)

-- the rows of a table, over all its buckets
abbrev pub all_rows : Parts → List ℕ → ℕ → List Row
all_rows parts owner table = flat_map (parts table) (range_with_len 0 (length owner))

-- the rows of a table that node n has, by bucket, ascending
abbrev pub own_rows : Parts → List ℕ → ℕ → ℕ → List Row
own_rows parts owner n table = flat_map (parts table) (filter (λ b. slice_index owner b == n) (range_with_len 0 (length owner)))

-- what a slice did: where its rows go, the rows of all nodes that it ran on, in ascending order, and whether some
-- evaluation faulted
pub record Sent : Type 0 where
  pub out : Motion
  pub rows : List (List Value)
  pub fault : Bool

abbrev pub nothing_sent : Sent
nothing_sent = record { out = motion.Result; rows = []; fault = false }

abbrev pub sent_by : List Sent → ℕ → Sent
sent_by sents slice = slice_index_or sents slice nothing_sent

-- what node n has, after these slices
abbrev pub here_at : Parts → List ℕ → List Sent → ℕ → Here
here_at parts owner sents n = record { tables = own_rows parts owner n; sent = λ slice. moved (sent_by sents slice).out owner (sent_by sents slice).rows n }

abbrev pub receives_gather : List Sent → Op → Bool
receives_gather sents root = list_any (λ slice. is_gather (sent_by sents slice).out) (receives root)

-- a slice that receives a Gather runs on the lowest node in use, every other one on all
abbrev pub runs_on : List ℕ → List Sent → Op → List ℕ
runs_on owner sents root = if receives_gather sents root then lowest owner ∷ [] else nodes_of owner

abbrev pub run_slice : Parts → List ℕ → List Sent → Slice → Sent
run_slice parts owner sents slice = record {
  out = slice.out;
  rows = flat_map (λ n. rows_of slice.root (here_at parts owner sents n)) (runs_on owner sents slice.root);
  fault = list_any (λ n. op_faults slice.root (here_at parts owner sents n)) (runs_on owner sents slice.root);
}

-- the slices one after the other, each over what the ones before it sent
abbrev pub run_slices : Parts → List ℕ → List Sent → List Slice → List Sent
run_slices parts owner sents [] = sents
run_slices parts owner sents (slice ∷ slices) = run_slices parts owner (sents ++ run_slice parts owner sents slice ∷ []) slices

abbrev pub last_rows : List Sent → List Row
last_rows [] = []
last_rows (s ∷ []) = s.rows
last_rows (s ∷ t ∷ sents) = last_rows (t ∷ sents)

abbrev pub answer_after : List Sent → Answer
answer_after sents = answer_of (list_any (λ (s : Sent). s.fault) sents) (last_rows sents)

-- what a plan means: the last slice's rows, or Numeric where any evaluation faults
abbrev pub plan_mean : Plan → Parts → List ℕ → Answer
plan_mean plan parts owner = answer_after (run_slices parts owner [] plan.slices)
