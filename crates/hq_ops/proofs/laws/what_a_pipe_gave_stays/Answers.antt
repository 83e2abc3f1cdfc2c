use Rattle.hq_ops.proofs.Pipes.{stays-first}
use Rattle.hq_ops.proofs.laws.what_a_pipe_gave_stays.Goals as goal

pub returns : goal.returns
returns c op build pushed given more pipe h = stays-first op build pushed given more pipe.work h
