-- By what the cut says.
use Rattle.hq_clean.specs.Sweeps.{is_clean, is_stopped}
use Rattle.hq_clean.proofs.sweep.sweep_one.Goals as goal

pub returns-in-Ok-clause-swept : goal.returns-in-Ok-clause-swept
returns-in-Ok-clause-swept g c = is_clean c.in-Ok.ensures.cut c.in-Ok.ensures.clean

pub returns-in-Err-clause-swept : goal.returns-in-Err-clause-swept
returns-in-Err-clause-swept g c = is_stopped c.in-Err.ensures.stopped c.in-Err.ensures.cause
