use Rattle.hq_ops.proofs.Pipes.{took-grouped}
use Rattle.hq_ops.proofs.take.take_grouped.Goals as goal

pub returns : goal.returns
returns c op build pushed given h =
    took-grouped op build pushed given c.args.rows.items _ c.args.by c.args.gathered _ h
    (λ columns before k. (rw c.deref.ensures.value at c.in_ok-gathered.ensures.gathered columns before k)) c.new.ensures.items
