use Rattle.hq_ops.proofs.Pipes.{took-sorted}
use Rattle.hq_ops.proofs.take.take_sorted.Goals as goal

pub returns : goal.returns
returns c op build pushed given h = took-sorted op build pushed given c.args.rows.items _ c.args.order c.args.limit c.args.kept _ _ h c.in_ok-all.ensures (rw c.as_slice.ensures at c.shortened-rows.ensures) c.new.ensures.items
