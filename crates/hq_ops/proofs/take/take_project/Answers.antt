use Rattle.hq_ops.proofs.Pipes.{took-project}
use Rattle.hq_ops.proofs.take.take_project.Goals as goal

pub returns : goal.returns
returns c op build pushed given h = took-project op build pushed given c.args.rows.items c.in_ok-found.found.items c.args.items h
    (rw c.deref.ensures.value at (rw c.as_slice.ensures at c.in_ok-found.ensures.rows)) (rw c.deref.ensures.value at (rw c.as_slice.ensures at c.in_ok-found.ensures.numeric))
