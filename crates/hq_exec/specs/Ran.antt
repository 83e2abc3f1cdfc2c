-- What a run of a slice's operators leaves.
--     HasRead ..      so many bytes were read
--     HasPut ..       these rows were put
--     Ran ..          the leaf was read, and what the operators give was put, unless an evaluation faulted
--     Built ..        the right rows of the Joins were found, unless an evaluation faulted
--     Flowed ..       the operator's rows were put, unless an evaluation faulted
use Rattle.std.specs.Prelude.{◌≡◌, ℕ, ◌<◌, ◌^◌, Bool, true, false, List, ◌++◌, Some, None}
use Rattle.std.specs.Global.{Vec}
use Rattle.hq_value.specs.declared.value.Value.{Value}
use Rattle.hq_value.specs.declared.kind.Kind.{Kind}
use Rattle.hq_value.specs.Causes.{GoesOnGiving}
use Rattle.hq_algebra.specs.declared.op.Op.{Op}
use Rattle.hq_algebra.specs.Operators.{op_kinds}
use Rattle.hq_fits.specs.Supplied.{AreFit}
use Rattle.hq_meaning.specs.Rows.{Row}
use Rattle.hq_exec.specs.Builds.{BuildsFit, builds_read, leaf_kept, leaf_reads, lists_of, AreBuilt}
use Rattle.hq_exec.specs.Files.{HeldState}
use Rattle.hq_exec.specs.Outs.{OutState, Adds}
use Rattle.hq_exec.specs.Slices.{slice_rows, slice_fault, slice_reads}
use Rattle.hq_exec.specs.Stages.{flowed, faulted, stages_of}

-- so many bytes were read where contents are told
pub record HasRead {S : Type 0} (faults given : S → ℕ) (sound : S → Type 0) (told : Type 0) (total : ℕ) (old new : S) : Type 0 where
  pub gave : ℕ
  pub is : told → gave ≡ total
  pub goes_on : given old < 2 ^ 64 → GoesOnGiving faults given sound gave old new

-- rows were put that fit the operator's kinds, and where contents are told they are these
pub record HasPut (told : Type 0) (o : Op) (rows : List Row) (before after : OutState) : Type 0 where
  pub added : List Row
  pub given : Adds added before after
  pub fit : (kinds : List Kind) → op_kinds o ≡ Some kinds → AreFit kinds added
  pub are : told → added ≡ rows

-- the leaf was read, and what the operators give was put, unless an evaluation faulted
pub record Ran {S : Type 0} (faults given : S → ℕ) (sound : S → Type 0) (told : Type 0) (h : HeldState) (o : Op) (builds : List (List Row)) (failed fault : Bool) (old new : S) (before after : OutState) : Type 0 where
  pub read : HasRead faults given sound told (leaf_reads o None h) old new
  pub stays : failed ≡ true → fault ≡ true
  pub faulting : failed ≡ false → told → fault ≡ faulted (stages_of o builds) (leaf_kept o None h)
  pub put : failed ≡ false → fault ≡ false → HasPut told o (flowed (stages_of o builds) (leaf_kept o None h)) before after

-- the right rows of the Joins were found, unless an evaluation faulted
pub record Built {S : Type 0} (faults given : S → ℕ) (sound : S → Type 0) (told : Type 0) (h : HeldState) (o : Op) (fault : Bool) (old new : S) (before after : List (Vec (List Value))) : Type 0 where
  pub read : HasRead faults given sound told (builds_read o h) old new
  pub built : AreBuilt told h o fault before after

-- the operator's rows were put, unless an evaluation faulted
pub record Flowed {S : Type 0} (faults given : S → ℕ) (sound : S → Type 0) (told : Type 0) (h : HeldState) (o : Op) (fault : Bool) (old new : S) (before after : OutState) : Type 0 where
  pub read : HasRead faults given sound told (slice_reads h o) old new
  pub faulting : told → fault ≡ slice_fault h o
  pub put : fault ≡ false → HasPut told o (slice_rows h o) before after

-- the operator's rows were listed, unless an evaluation faulted; these are the right rows of its Joins
pub record Listed {S : Type 0} (faults given : S → ℕ) (sound : S → Type 0) (told : Type 0) (h : HeldState) (o : Op) (builds : List (List Row)) (failed fault : Bool) (old new : S) (rows : List Row) : Type 0 where
  pub read : HasRead faults given sound told (leaf_reads o None h) old new
  pub stays : failed ≡ true → fault ≡ true
  pub faulting : failed ≡ false → told → fault ≡ faulted (stages_of o builds) (leaf_kept o None h)
  pub fit : failed ≡ false → fault ≡ false → (kinds : List Kind) → op_kinds o ≡ Some kinds → AreFit kinds rows
  pub are : failed ≡ false → fault ≡ false → told → rows ≡ flowed (stages_of o builds) (leaf_kept o None h)
