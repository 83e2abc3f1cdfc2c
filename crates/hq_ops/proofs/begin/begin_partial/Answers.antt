use Rattle.std.proofs.Common.{List, sym, subst}
use Rattle.hq_algebra.specs.declared.aggregate.Aggregate.{Aggregate}
use Rattle.hq_ops.specs.declared.column.Column.{Column}
use Rattle.hq_ops.specs.Beginnings.{IsPartialOf}
use Rattle.hq_ops.specs.Grouped.{ArePartial}
use Rattle.hq_ops.proofs.Pipes.{begins-partial}
use Rattle.hq_ops.proofs.begin.begin_partial.Goals as goal

pub returns : goal.returns
returns c op is build =
    begins-partial op build _ c.args.aggregates.now c.deref.result.now c.in_ok-gathered.gathered (subst (λ (keys : List _). IsPartialOf keys c.args.aggregates.now op) (sym c.as_slice-2.ensures) is)
    (subst (λ (cs : List Column). ArePartial c.args.aggregates.now cs) (sym c.deref.ensures.value) (subst (λ (all : List Aggregate). ArePartial all c.in_ok-columns.columns.items) c.as_slice.ensures c.in_ok-columns.ensures))
    (c.in_ok-gathered.ensures _)
