-- The last slice of a query.
--     end_at node e              the query's end by how the slice ended
--     IsEndAt node e end         the query ends so by how the slice ended, as one whose rows are put
--     HasFinished ..             the slice ran on its node, and the query ended so
use Rattle.std.specs.Prelude.{◌≡◌, ℕ}
use Rattle.hq_algebra.specs.declared.op.Op.{Op}
use Rattle.hq_exec.specs.declared.end.FlowEnd.{FlowEnd}
use Rattle.hq_exec.specs.declared.end.FlowEnd.TheVariants as flow
use Rattle.hq_exec.specs.declared.end.SliceEnd.{SliceEnd}
use Rattle.hq_exec.specs.declared.end.SliceEnd.TheVariants as slice
use Rattle.hq_exec.specs.Slices.{slice_rows}
use Rattle.hq_dispatch.specs.Basis.{BasisState, node_held}
use Rattle.hq_dispatch.specs.Ends.{IfRows}
use Rattle.hq_dispatch.specs.Outside.{Outside}
use Rattle.hq_dispatch.specs.Running.{HasFlowed, IsEndOf}
use Rattle.hq_dispatch.specs.declared.end.QueryEnd.{QueryEnd}
use Rattle.hq_dispatch.specs.declared.end.QueryEnd.TheVariants as end
use Rattle.hq_dispatch.specs.declared.task.Task.{Task}

-- the query's end by how the slice ended
abbrev pub end_at : ℕ → SliceEnd → QueryEnd
end_at node (slice.Rows rows) = end.Rows rows
end_at node slice.Numeric = end.Numeric
end_at node slice.Store = end.Store
end_at node slice.Host = end.Host node
end_at node (slice.BadBlock file at bytes) = end.BadBlock node file at bytes
end_at node slice.NoMemory = end.NoMemory

-- the query ends so by how the slice ended, as one whose rows are put
abbrev pub IsEndAt : ℕ → FlowEnd → QueryEnd → Type 0
IsEndAt node flow.Done (end.Rows rows) = Unit {0}
IsEndAt node flow.Numeric end.Numeric = Unit {0}
IsEndAt node flow.NoMemory end.NoMemory = Unit {0}
IsEndAt node e end = IsEndOf node e end

-- the slice ran on its node, and the query ended so
pub record HasFinished {S H L : Type 0} (o : Outside S H L) (told : Type 0) (b : BasisState) (root : Op) (node : ℕ) (old new : Task S H L) (end : QueryEnd) : Type 0 where
  pub how : FlowEnd
  pub link : new.bench.link ≡ old.bench.link
  pub flowed : HasFlowed o told (node_held b node old.incoming.items) root old.bench.store new.bench.store old.bench.host new.bench.host how
  pub is_end : IsEndAt node how end
  pub rows : told → IfRows end (λ rows. rows ≡ slice_rows (node_held b node old.incoming.items) root)
