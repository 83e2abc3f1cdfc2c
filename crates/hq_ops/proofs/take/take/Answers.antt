use Rattle.std.proofs.Common.{subst}
use Rattle.hq_ops.specs.declared.work.Work.{Work}
use Rattle.hq_ops.specs.Works.{Holds}
use Rattle.hq_ops.proofs.Pipes.{took-filter}
use Rattle.hq_ops.proofs.take.take.Goals as goal

pub returns-in-Filter-clause-took : goal.returns-in-Filter-clause-took
returns-in-Filter-clause-took c op build pushed given h = took-filter op build pushed given c.args.rows.items c.keep.result.items _ (subst (λ (w : Work). Holds op build pushed given w) c.in-Filter.is h) c.keep.ensures

pub returns-in-Project-clause-took : goal.returns-in-Project-clause-took
returns-in-Project-clause-took c op build pushed given h = c.take_project.ensures op build pushed given (subst (λ (w : Work). Holds op build pushed given w) c.in-Project.is h)

pub returns-in-Join-clause-took : goal.returns-in-Join-clause-took
returns-in-Join-clause-took c op build pushed given h = c.take_left.ensures op build pushed given (subst (λ (w : Work). Holds op build pushed given w) c.in-Join.is h)

pub returns-in-Group-clause-took : goal.returns-in-Group-clause-took
returns-in-Group-clause-took c op build pushed given h = c.take_grouped.ensures op build pushed given (subst (λ (w : Work). Holds op build pushed given w) c.in-Group.is h)

pub returns-in-Distinct-clause-took : goal.returns-in-Distinct-clause-took
returns-in-Distinct-clause-took c op build pushed given h = c.take_distinct.ensures op build pushed given (subst (λ (w : Work). Holds op build pushed given w) c.in-Distinct.is h)

pub returns-in-Sort-clause-took : goal.returns-in-Sort-clause-took
returns-in-Sort-clause-took c op build pushed given h = c.take_sorted.ensures op build pushed given (subst (λ (w : Work). Holds op build pushed given w) c.in-Sort.is h)

pub returns-in-Ended-clause-took : goal.returns-in-Ended-clause-took
returns-in-Ended-clause-took c op build pushed given h = absurd (subst (λ (w : Work). Holds op build pushed given w) c.in-Ended.is h)
