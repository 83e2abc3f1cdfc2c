-- The streams that the motions of a plan take.
--     slice_streams parts owner sents slice n      what node n gets of a slice: from each node that ran it the bytes of its rows
--     plan_pieces plan parts owner n               how many Data and Eos pieces node n gets for a plan
use Rattle.std.specs.Prelude.{ℕ, ◌+◌, ◌==◌, Bool, List, [], ◌∷◌, ◌++◌, map, if◌then◌else◌}
use Rattle.std.specs.List.{list_any}
use Rattle.hq_algebra.specs.declared.plan.Slice.{Slice}
use Rattle.hq_algebra.specs.declared.plan.Plan.{Plan}
use Rattle.hq_meaning.specs.Nodes.{moved}
use Rattle.hq_meaning.specs.Slices.{rows_of}
use Rattle.hq_meaning.specs.Plans.{Parts, Sent, here_at, runs_on, run_slice}
use Rattle.hq_motion.specs.Bytes.{rows_bytes}
use Rattle.hq_motion.specs.Split.{receivers}
use Rattle.hq_pump.specs.Pumping.{pieces_of}

-- what node m sends to node n, where it runs the slice after these
abbrev pub stream : Parts → List ℕ → List Sent → Slice → ℕ → ℕ → List ℕ
stream parts owner sents slice n m = rows_bytes (moved slice.out owner (rows_of slice.root (here_at parts owner sents m)) n)

-- node n receives rows of the slice
abbrev pub is_receiver : List ℕ → Slice → ℕ → Bool
is_receiver owner slice n = list_any (λ m. m == n) (receivers slice.out owner)

-- what node n gets of the slice after these: from each node that ran it the bytes of its rows, ascending
abbrev pub slice_streams : Parts → List ℕ → List Sent → Slice → ℕ → List (ℕ × List ℕ)
slice_streams parts owner sents slice n = if is_receiver owner slice n then map (λ m. (m, stream parts owner sents slice n m)) (runs_on owner sents slice.root) else []

-- how many Data and Eos pieces node n gets of the slices after these
abbrev pub slices_pieces : Parts → List ℕ → ℕ → List Sent → List Slice → ℕ
slices_pieces parts owner n sents [] = 0
slices_pieces parts owner n sents (slice ∷ slices) = pieces_of (slice_streams parts owner sents slice n) + slices_pieces parts owner n (sents ++ run_slice parts owner sents slice ∷ []) slices

-- and for the whole plan
abbrev pub plan_pieces : Plan → Parts → List ℕ → ℕ → ℕ
plan_pieces plan parts owner n = slices_pieces parts owner n [] plan.slices
