-- A slice on one node.
--     CanRead ..          it can run there
--     CanFlow ..          and its rows can go by the motion
--     HasSent ..          its rows were put in their receivers' bytes
--     HasFlowed ..        it ran, and ended so
--     HasServed ..        a node ran it, or rested
--     HasRun ..           a node's task did, and its rows are in their receivers' bytes
--     IsNoFault end       no fault from outside ended it
--     IsEndOf ..          a query ends so by the fault that ended it
use Rattle.std.specs.Prelude.{◌≡◌, ℕ, ◌<◌, ◌≤◌, Bool, true, false, All, List, Some, IsTrue, Vec as VecIn}
use Rattle.std.specs.Global.{Vec}
use Rattle.std.specs.List.{AllByRecursion}
use Rattle.hq_value.specs.Causes.{Rose, IsSteady, GoesOnGiving}
use Rattle.hq_value.specs.Kinds.{Fits}
use Rattle.hq_value.specs.declared.kind.Kind.{Kind}
use Rattle.hq_value.specs.declared.value.Value.{Value}
use Rattle.hq_block.specs.Row.{IsStorable}
use Rattle.hq_algebra.specs.declared.op.Op.{Op}
use Rattle.hq_algebra.specs.declared.plan.Motion.{Motion}
use Rattle.hq_algebra.specs.Operators.{op_kinds}
use Rattle.hq_detect.specs.declared.bench.Bench.{Bench}
use Rattle.hq_meaning.specs.Rows.{Row}
use Rattle.hq_exec.specs.declared.end.FlowEnd.{FlowEnd}
use Rattle.hq_exec.specs.declared.end.FlowEnd.TheVariants as flow
use Rattle.hq_exec.specs.Ends.{IfDone, OnRead, IsNumericAt, OnStore, OnHost, OffHost, IfBad, IsBadIn}
use Rattle.hq_exec.specs.Files.{HeldState}
use Rattle.hq_exec.specs.Slices.{IsSliceOf, HasSlice, HasInputs, HasSeals, HasOwn, slice_rows, slice_fault, slice_reads}
use Rattle.hq_dispatch.specs.Basis.{BasisState, node_held}
use Rattle.hq_dispatch.specs.Outside.{Outside}
use Rattle.hq_dispatch.specs.Parcels.{CanGo, HasParcels}
use Rattle.hq_dispatch.specs.declared.end.QueryEnd.{QueryEnd}
use Rattle.hq_dispatch.specs.declared.end.QueryEnd.TheVariants as end
use Rattle.hq_dispatch.specs.declared.task.Task.{Task}

-- the slice can run on node n over what it received
pub record CanRead (seals files : Bool) (b : BasisState) (slice n : ℕ) (incoming : List (ℕ × Vec (List Value))) : Type 0 where
  pub there : HasSlice b.plan slice
  pub inputs : (root : Op) → IsSliceOf b.plan slice root → HasInputs (node_held b n incoming) root
  pub seals_stand : IsTrue seals → (root : Op) → IsSliceOf b.plan slice root → HasSeals (node_held b n incoming) root
  pub own_stand : IsTrue files → (root : Op) → IsSliceOf b.plan slice root → HasOwn (node_held b n incoming) root

-- and its rows, which are of these kinds, can go by the motion
pub record CanFlow (seals files : Bool) (b : BasisState) (slice n : ℕ) (incoming : List (ℕ × Vec (List Value))) (out : Motion) (kinds : List Kind) : Type 0 where
  pub reads : CanRead seals files b slice n incoming
  pub kinds_are : (root : Op) (found : List Kind) → IsSliceOf b.plan slice root → op_kinds root ≡ Some found → kinds ≡ found
  pub goes : (row : Row) → Fits kinds row → CanGo out row
  pub owners : All (λ node. node < 16) b.owner

-- rows were put in their receivers' bytes, and where contents are told they are these
pub record HasSent {A : Type 0} (told : Type 0) (out : Motion) (owner : List ℕ) (kinds : List Kind) (rows : List Row) (lists : List (VecIn ℕ A)) : Type 0 where
  pub sent : List Row
  pub parcels : HasParcels out owner sent lists
  pub storable : AllByRecursion (IsStorable kinds) sent
  pub are : told → sent ≡ rows

-- a slice ran and ended so; the counts of its host and its store tell why
pub record HasFlowed {S H L : Type 0} (o : Outside S H L) (told : Type 0) (h : HeldState) (root : Op) (old new : S) (before after : H) (e : FlowEnd) : Type 0 where
  pub numeric : told → IsNumericAt e (slice_fault h root)
  pub gave : told → OnRead e (GoesOnGiving o.faults o.given o.sound (slice_reads h root) old new)
  pub bad : IfBad e (IsBadIn root h.buckets)
  pub never_bad : told → IfBad e (λ _ _ _. ⊥)
  pub cause : OnStore e (Rose (o.faults old) (o.faults new))
  pub store : IsSteady o.faults o.sound old new
  pub checked : Rose (o.checks before) (o.checks after)
  pub host_cause : OnHost e (Rose (o.host_faults before) (o.host_faults after))
  pub host_held : OffHost e (o.host_faults after ≡ o.host_faults before)
  pub host_sure : OnHost e (o.host_sound before → ⊥)
  pub host_later : o.host_faults before ≤ o.host_faults after
  pub host_sound : o.host_sound before → o.host_sound after

-- a node ran the slice and ended so, or rested
pub record HasServed {S H L : Type 0} (o : Outside S H L) (told : Type 0) (b : BasisState) (root : Op) (node : ℕ) (runs : Bool) (incoming : List (ℕ × Vec (List Value))) (old new : Bench S H L) (e : FlowEnd) : Type 0 where
  pub link : new.link ≡ old.link
  pub flowed : runs ≡ true → HasFlowed o told (node_held b node incoming) root old.store new.store old.host new.host e
  pub rested : runs ≡ false → new ≡ old

-- a node's task ran the slice, and its rows are in their receivers' bytes; or it rested
pub record HasRun {S H L : Type 0} (o : Outside S H L) (told : Type 0) (b : BasisState) (root : Op) (out : Motion) (kinds : List Kind) (node : ℕ) (runs : Bool) (old new : Task S H L) : Type 0 where
  pub served : HasServed o told b root node runs old.incoming.items old.bench new.bench new.end
  pub incoming : new.incoming ≡ old.incoming
  pub sent : runs ≡ true → IfDone new.end (HasSent told out b.owner kinds (slice_rows (node_held b node old.incoming.items) root) new.parcels.lists.items)
  pub rested : runs ≡ false → new.end ≡ flow.Done

-- no fault from outside ended it
abbrev pub IsNoFault : FlowEnd → Type 0
IsNoFault flow.Done = Unit {0}
IsNoFault flow.Numeric = Unit {0}
IsNoFault flow.Store = ⊥
IsNoFault flow.Host = ⊥
IsNoFault (flow.BadBlock file at bytes) = ⊥
IsNoFault flow.NoMemory = Unit {0}

-- a query ends so by the fault of this node that ended its slice
abbrev pub IsEndOf : ℕ → FlowEnd → QueryEnd → Type 0
IsEndOf node flow.Store end.Store = Unit {0}
IsEndOf node flow.Host (end.Host n) = n ≡ node
IsEndOf node (flow.BadBlock file at bytes) (end.BadBlock n f a b) = (n ≡ node) × (f ≡ file) × (a ≡ at) × (b.items ≡ bytes.items)
IsEndOf node _ _ = ⊥
