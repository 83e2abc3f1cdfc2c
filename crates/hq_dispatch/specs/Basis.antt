-- What a query is, and what each of its nodes works from.
--     BasisState                  the plan in bytes, the owners of the buckets, the tables as a look saw them, the own lanes
--     Asked                       a query: its plan, what its nodes work from, which are up, its number, and which types tell
--     buckets_at owner n          the buckets of node n, ascending
--     parts_of tables own         the rows of each bucket of a table: the committed ones lane by lane, then the own ones
--     node_held b n incoming      what a slice has on node n
--     node_reads ..               how many bytes a node reads for slices: of blocks that are skipped the heads, of others all
--     IsScanned tables o          a scanned table is there with the kinds of its Scan
use Rattle.std.specs.Prelude.{ℕ, Bool, ◌==◌, List, [], filter, flat_map, sum_by, slice_index}
use Rattle.std.specs.List.{range_with_len}
use Rattle.std.specs.Global.{Vec}
use Rattle.hq_value.specs.declared.value.Value.{Value}
use Rattle.hq_algebra.specs.declared.op.Op.{Op}
use Rattle.hq_algebra.specs.declared.op.Op.TheVariants as op
use Rattle.hq_algebra.specs.declared.plan.Plan.{Plan}
use Rattle.hq_algebra.specs.declared.plan.Slice.{Slice}
use Rattle.hq_lane.specs.Lanes.{LaneState}
use Rattle.hq_snap.specs.Snaps.{TableSnapState}
use Rattle.hq_meaning.specs.Plans.{Parts}
use Rattle.hq_exec.specs.Files.{HeldState, held, kinds_in, lanes_in, bucket_files, file_rows}
use Rattle.hq_exec.specs.Slices.{IsThere, slice_reads}

-- the plan in bytes, the node that owns each bucket, the tables as a look saw them, and the own lanes
pub record BasisState : Type 0 where
  pub plan : List ℕ
  pub owner : List ℕ
  pub tables : List TableSnapState
  pub own : List LaneState

-- a query: its plan, what its nodes work from, which nodes are up, its number, and whether seals and files tell their bytes
pub record Asked : Type 0 where
  pub plan : Plan
  pub basis : BasisState
  pub marks : List Bool
  pub query : ℕ
  pub seals : Bool
  pub files : Bool

abbrev pub asked : Plan → BasisState → List Bool → ℕ → Bool → Bool → Asked
asked plan basis marks query seals files = record { plan = plan; basis = basis; marks = marks; query = query; seals = seals; files = files }

-- the buckets of node n, ascending
abbrev pub buckets_at : List ℕ → ℕ → List ℕ
buckets_at owner n = filter (λ b. slice_index owner b == n) (range_with_len 0 16)

-- all that the nodes of a query have of the tables
abbrev pub all_held : List TableSnapState → List LaneState → HeldState
all_held tables own = held tables own [] []

-- the rows of each bucket of a table: the committed ones lane by lane, then the own ones
abbrev pub parts_of : List TableSnapState → List LaneState → Parts
parts_of tables own t b = flat_map (file_rows (kinds_in (all_held tables own) t)) (bucket_files (lanes_in (all_held tables own) t) (all_held tables own) t b)

-- what a slice has on node n
abbrev pub node_held : BasisState → ℕ → List (ℕ × Vec (List Value)) → HeldState
node_held b n incoming = held b.tables b.own (buckets_at b.owner n) incoming

-- how many bytes node n reads of the tables for slices
abbrev pub node_reads : List TableSnapState → List LaneState → List ℕ → ℕ → List Slice → ℕ
node_reads tables own owner n slices = sum_by (λ (s : Slice). slice_reads (held tables own (buckets_at owner n) []) s.root) slices

abbrev pub slices_reads : BasisState → ℕ → List Slice → ℕ
slices_reads b n slices = node_reads b.tables b.own b.owner n slices

-- a scanned table is there with the kinds of its Scan
abbrev pub IsScanned : List TableSnapState → Op → Type 0
IsScanned tables (op.Scan table kinds) = IsThere (all_held tables []) table kinds
IsScanned tables _ = Unit {0}
