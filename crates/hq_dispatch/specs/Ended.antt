-- What a query answers, and what it leaves of its benches.
--     benches_of tasks                          the benches of tasks
--     OnRows end P                              a fact where the query answered with rows
--     IsBadOf plan owner node file at bytes     the bytes begin no block of a file that the node scans for the plan
--     IsFirst tasks end                         the query ended by the fault of the lowest node with one
--     HasEnded o q first now end                the answer, its cause, and what is left of each bench
use Rattle.std.specs.Prelude.{◌≡◌, ℕ, ◌+◌, ◌-◌, ◌^◌, ◌<◌, true, List, map, Some, IsTrue, length, option_map, slice_get, slice_index_or}
use Rattle.hq_value.specs.Causes.{Rose, RoseBy, GoesOnGiving}
use Rattle.hq_value.specs.declared.entry.FileId.{FileId}
use Rattle.hq_algebra.specs.declared.op.Op.{Op}
use Rattle.hq_algebra.specs.declared.plan.Plan.{Plan}
use Rattle.hq_algebra.specs.declared.plan.Slice.{Slice}
use Rattle.hq_detect.specs.declared.bench.Bench.{Bench}
use Rattle.hq_exec.specs.Ends.{IsBadIn}
use Rattle.hq_meaning.specs.Plans.{plan_mean}
use Rattle.hq_pump.specs.Promise.{IsRoughAtMost}
use Rattle.hq_pump.specs.Pumping.{IsLost}
use Rattle.hq_dispatch.specs.Basis.{Asked, buckets_at, slices_reads}
use Rattle.hq_dispatch.specs.Each.{At}
use Rattle.hq_dispatch.specs.Ends.{IfRows, IfMeant, OnStore, IfHost, IfLinkLost, IfLinkFailed, IfBadBlock, HasAnswered, Fails}
use Rattle.hq_dispatch.specs.Outside.{Outside}
use Rattle.hq_dispatch.specs.Owners.{is_used}
use Rattle.hq_dispatch.specs.Running.{IsNoFault, IsEndOf}
use Rattle.hq_dispatch.specs.Standing.{parts, NodeGoesOn, TellsAll}
use Rattle.hq_dispatch.specs.Streams.{plan_pieces}
use Rattle.hq_dispatch.specs.declared.end.QueryEnd.{QueryEnd}
use Rattle.hq_dispatch.specs.declared.task.Task.{Task}

-- the benches of tasks
abbrev pub benches_of : {S H L : Type 0} → List (Task S H L) → List (Bench S H L)
benches_of {S} {H} {L} tasks = map (λ (t : Task S H L). t.bench) tasks

-- a fact where the query answered with rows
abbrev pub OnRows : QueryEnd → Type 0 → Type 0
OnRows end P = IfRows end (λ _. P)

-- the bytes begin no block of a file that a slice of the plan scans, in a bucket of the node
pub record IsBadOf (plan : Plan) (owner : List ℕ) (node : ℕ) (file : FileId) (at : ℕ) (bytes : List ℕ) : Type 0 where
  pub slice : ℕ
  pub root : Op
  pub is_root : option_map (λ (s : Slice). s.root) (slice_get plan.slices slice) ≡ Some root
  pub bad : IsBadIn root (buckets_at owner node) file at bytes

-- the query ended by the fault of this node, and no lower one met a fault
pub record IsFirst {S H L : Type 0} (tasks : List (Task S H L)) (end : QueryEnd) : Type 0 where
  pub node : ℕ
  pub within : node < length tasks
  pub is_end : (d : Task S H L) → IsEndOf node (slice_index_or tasks node d).end end
  pub lowest : (k : ℕ) (d : Task S H L) → k < node → IsNoFault (slice_index_or tasks k d).end

-- the answer, its cause, and what is left of each bench
pub record HasEnded {S H L : Type 0} (o : Outside S H L) (q : Asked) (first now : List (Bench S H L)) (end : QueryEnd) : Type 0 where
  pub many : length now ≡ length first
  pub each : (n : ℕ) → n < length first → At n first now (NodeGoesOn o q n)
  pub means : TellsAll o q first → IfMeant end (λ answer. answer ≡ plan_mean q.plan (parts q) q.basis.owner)
  pub answered : OnRows end ((n : ℕ) → is_used q.marks n ≡ true → At n first now (λ a b. HasAnswered o.checks o.host_faults a.host b.host))
  pub gave : IsTrue q.seals → IsTrue q.files → OnRows end ((n : ℕ) → is_used q.marks n ≡ true → At n first now (λ a b. GoesOnGiving o.faults o.given o.sound (slices_reads q.basis n q.plan.slices) a.store b.store))
  pub received : TellsAll o q first → OnRows end ((n : ℕ) → is_used q.marks n ≡ true → At n first now (λ a b. RoseBy (plan_pieces q.plan (parts q) q.basis.owner n) (o.state a.link).given (o.state b.link).given))
  pub store_cause : OnStore end ((node : ℕ) × Fails (is_used q.marks) first now (λ a b. HasAnswered o.checks o.host_faults a.host b.host) (λ a b. Rose (o.faults a.store) (o.faults b.store)) (node + 1) node)
  pub host_cause : IfHost end (λ node. Fails (is_used q.marks) first now (λ a b. HasAnswered o.checks o.host_faults a.host b.host) (λ a b. Rose (o.host_faults a.host) (o.host_faults b.host)) node node)
  pub host_sure : IfHost end (λ node. At node first now (λ a b. o.host_sound a.host → ⊥))
  pub lost_cause : IfLinkLost end (λ node. Fails (is_used q.marks) first now (λ a b. HasAnswered o.checks o.host_faults a.host b.host) (λ a b. IsLost (o.state a.link).troubles (o.state b.link).troubles) 16 node)
  pub lost_sure : IfLinkLost end (λ node. At node first now (λ a b. IsRoughAtMost 15 (o.state a.link) → (o.state b.link).troubles < 2 ^ 64 - 1 → ⊥))
  pub failed_cause : IfLinkFailed end (λ node. Fails (is_used q.marks) first now (λ a b. HasAnswered o.checks o.host_faults a.host b.host) (λ a b. Rose (o.state a.link).faults (o.state b.link).faults) 16 node)
  pub failed_sure : IfLinkFailed end (λ node. At node first now (λ a b. IsRoughAtMost 15 (o.state a.link) → (o.state b.link).troubles < 2 ^ 64 - 1 → ⊥))
  pub bad : IfBadBlock end (λ node file at bytes. Fails (is_used q.marks) first now (λ a b. HasAnswered o.checks o.host_faults a.host b.host) (λ a b. IsBadOf q.plan q.basis.owner node file at bytes) (node + 1) node)
  pub never_bad : IsTrue q.seals → IsTrue q.files → IfBadBlock end (λ _ _ _ _. ⊥)
