-- What a slice gives on its node.
--     IsSliceOf bytes i root       the bytes are a plan whose slice i has this root
--     HasInputs h root             each scanned table is there with the Scan's kinds, and what a slice sent fits its Receive's
--     HasFiles kinds files         files are blocks of these kinds
--     HasSeals h root              the committed bytes of the scanned tables are blocks of the Scan's kinds
--     HasOwn h root                and so are the own ones
--     slice_rows h root            the rows of the slice
--     slice_fault h root           an evaluation in it faults
--     slice_reads h root           how many bytes are read: of a block that is skipped its head and bounds, of others all
use Rattle.std.specs.Prelude.{◌≡◌, ◌<◌, ℕ, Bool, ◌+◌, List, [], ◌∷◌, All, Option, Some, None, option_map, slice_get}
use Rattle.std.specs.List.{AllByRecursion}
use Rattle.hq_value.specs.declared.value.Value.{Value}
use Rattle.hq_value.specs.declared.kind.Kind.{Kind}
use Rattle.hq_algebra.specs.declared.expr.Expr.{Expr}
use Rattle.hq_algebra.specs.declared.op.Op.{Op, Row_of-Op, end_of-Op, more_of-Op}
use Rattle.hq_algebra.specs.declared.op.Op.TheVariants as op
use Rattle.hq_algebra.specs.declared.plan.Plan.{Plan}
use Rattle.hq_algebra.specs.declared.plan.Slice.{Slice}
use Rattle.hq_algebra.specs.Plans.{operators}
use Rattle.hq_planwire.specs.Wire.{IsPlan}
use Rattle.hq_lane.specs.Scans.{IsFile}
use Rattle.hq_snap.specs.Snaps.{TableSnapState}
use Rattle.hq_meaning.specs.Rows.{Row}
use Rattle.hq_meaning.specs.Slices.{rows_of, op_faults}
use Rattle.hq_fits.specs.Supplied.{AreFit}
use Rattle.hq_exec.specs.Files.{HeldState, table_in, kinds_in, sealed_files, own_files, reads_in, sent_rows, here}
use Rattle.hq_exec.specs.Skips.{tests_under}

-- the bytes are a plan whose slice i has this root
pub record IsSliceOf (bytes : List ℕ) (i : ℕ) (root : Op) : Type 0 where
  pub plan : Plan
  pub is_plan : IsPlan plan bytes
  pub there : option_map (λ (s : Slice). s.root) (slice_get plan.slices i) ≡ Some root

-- the bytes are a plan with a slice i
abbrev pub HasSlice : List ℕ → ℕ → Type 0
HasSlice bytes i = (root : Op) × IsSliceOf bytes i root

-- the table is there, and its columns have these kinds
pub record IsThere (h : HeldState) (table : ℕ) (kinds : List Kind) : Type 0 where
  pub found : option_map (λ (snap : TableSnapState). snap.table) (table_in h.tables table) ≡ Some table
  pub kinds_are : kinds_in h table ≡ kinds

-- the table that an operator scans is there with its kinds, and what it receives fits its kinds
abbrev pub IsGiven : HeldState → Op → Type 0
IsGiven h (op.Scan table kinds) = IsThere h table kinds
IsGiven h (op.Receive slice kinds) = AreFit kinds (sent_rows h slice)
IsGiven h _ = Unit {0}

-- and so for each operator
abbrev pub HasInputs : HeldState → Op → Type 0
HasInputs h root = AllByRecursion (IsGiven h) (operators root)

-- files are blocks of these kinds
abbrev pub HasFiles : List Kind → List (List ℕ) → Type 0
HasFiles kinds files = AllByRecursion (IsFile kinds) files

-- the committed bytes of a scanned table are blocks of the Scan's kinds
abbrev pub SealsStand : HeldState → Op → Type 0
SealsStand h (op.Scan table kinds) = (b : ℕ) → HasFiles kinds (sealed_files h table b)
SealsStand h _ = Unit {0}

abbrev pub HasSeals : HeldState → Op → Type 0
HasSeals h root = AllByRecursion (SealsStand h) (operators root)

-- and so are the own ones
abbrev pub OwnStand : HeldState → Op → Type 0
OwnStand h (op.Scan table kinds) = (b : ℕ) → b < 16 → HasFiles kinds (own_files h.own table b)
OwnStand h _ = Unit {0}

abbrev pub HasOwn : HeldState → Op → Type 0
HasOwn h root = AllByRecursion (OwnStand h) (operators root)

-- the rows of the slice
abbrev pub slice_rows : HeldState → Op → List Row
slice_rows h root = rows_of root (here h)

-- an evaluation in it faults
abbrev pub slice_fault : HeldState → Op → Bool
slice_fault h root = op_faults root (here h)

-- how many bytes an operator and those below it read; `above` is the condition of the Filter directly above it
abbrev mutual
  pub reads_of : Op → HeldState → Option Expr → ℕ
  reads_of (op.Scan table kinds) h above = reads_in (tests_under kinds above) h table
  reads_of (op.Receive slice kinds) h above = 0
  reads_of (op.Filter' cond p input) h above = input_reads input h (Some cond)
  reads_of (op.Project' items p input) h above = input_reads input h None
  reads_of (op.Join' lk rk p left q right) h above = input_reads left h None + input_reads right h None
  reads_of (op.Partial' keys aggs p input) h above = input_reads input h None
  reads_of (op.Final' n aggs p input) h above = input_reads input h None
  reads_of (op.Distinct' p input) h above = input_reads input h None
  reads_of (op.Sort' order limit p input) h above = input_reads input h None

  pub input_reads : {m : _} → Row_of-Op m → HeldState → Option Expr → ℕ
  input_reads end_of-Op h above = 0
  input_reads (more_of-Op child rest) h above = reads_of child h above

-- how many bytes are read: of a block that is skipped its head and bounds, of others all
abbrev pub slice_reads : HeldState → Op → ℕ
slice_reads h root = reads_of root h None
