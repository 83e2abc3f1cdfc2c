use Rattle.std.proofs.Common.{[], sym, subst}
use Rattle.hq_ops.specs.declared.end.OpEnd.{OpEnd}
use Rattle.hq_ops.specs.Pipes.{gives}
use Rattle.hq_ops.specs.Taking.{GivesRest}
use Rattle.hq_ops.proofs.Pipes.{gives-rest}
use Rattle.hq_ops.proofs.pipe.Pipe.finish.Goals as goal

pub returns-clause-rows : goal.returns-clause-rows
returns-clause-rows c op build pushed given h = subst (λ (e : OpEnd). GivesRest e given (gives op build pushed)) (sym c.of.ensures.is) (gives-rest c.rest.result given (gives op build pushed) (c.rest.ensures.rows op build pushed given h))

pub returns-clause-numeric : goal.returns-clause-numeric
returns-clause-numeric c op build pushed given h = c.of.ensures.numeric _ (c.rest.ensures.numeric op build pushed given h)

pub returns-clause-streamed : goal.returns-clause-streamed
returns-clause-streamed c op build pushed given h s = c.of.ensures.rows [] (c.rest.ensures.streamed op build pushed given h s)
