use Rattle.std.proofs.Common.{◌++◌, sym, subst}
use Rattle.hq_ops.specs.declared.end.OpEnd.{OpEnd}
use Rattle.hq_ops.specs.declared.work.Work.{Work}
use Rattle.hq_ops.specs.Ends.{Gives, IsNumericAt}
use Rattle.hq_ops.specs.Pipes.{gives, fails}
use Rattle.hq_ops.specs.Taking.{FailsFor}
use Rattle.hq_ops.specs.Works.{Holds}
use Rattle.hq_ops.proofs.Pipes.{fails-so, streams-so}
use Rattle.hq_ops.proofs.pipe.Pipe.push.Goals as goal

pub returns-in-Ok-clause-rows : goal.returns-in-Ok-clause-rows
returns-in-Ok-clause-rows c op build pushed given h =
    (rw c.in-Ok.is at c.take.ensures.took op build pushed given (subst (λ (w : Work). Holds op build pushed given w) (sym c.replace-work.ensures.value) h)).holds

pub returns-in-Ok-clause-streamed : goal.returns-in-Ok-clause-streamed
returns-in-Ok-clause-streamed c op build pushed given h s =
    (rw c.in-Ok.is at c.take.ensures.took op build pushed given (subst (λ (w : Work). Holds op build pushed given w) (sym c.replace-work.ensures.value) h)).streams s

pub returns-in-Err-clause-numeric : goal.returns-in-Err-clause-numeric
returns-in-Err-clause-numeric c op build pushed given more h =
    subst (λ (e : OpEnd). FailsFor e (fails op (pushed ++ c.args.rows.items ++ more))) (sym c.end_of.ensures)
    (fails-so op build pushed given c.args.rows.items more c.in-Err.stop (rw c.in-Err.is at c.take.ensures.took op build pushed given (subst (λ (w : Work). Holds op build pushed given w) (sym c.replace-work.ensures.value) h)))

pub returns-in-Err-clause-streamed : goal.returns-in-Err-clause-streamed
returns-in-Err-clause-streamed c op build pushed given h s =
    subst (λ (e : OpEnd). Gives e (gives op build c.args.rows.items) × IsNumericAt e (fails op c.args.rows.items)) (sym c.end_of.ensures)
    (streams-so op build pushed given c.args.rows.items c.in-Err.stop (rw c.in-Err.is at c.take.ensures.took op build pushed given (subst (λ (w : Work). Holds op build pushed given w) (sym c.replace-work.ensures.value) h)) s)
