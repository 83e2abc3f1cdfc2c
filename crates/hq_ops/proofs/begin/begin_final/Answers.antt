use Rattle.std.proofs.Common.{◌∙◌, [], List, ap, subst}
use Rattle.hq_ops.specs.declared.column.Column.{Column}
use Rattle.hq_ops.specs.declared.groups.GroupBy.TheVariants as by
use Rattle.hq_ops.specs.Gathering.{HasGathered}
use Rattle.hq_ops.specs.Grouped.{final_columns}
use Rattle.hq_ops.proofs.Pipes.{begins-final}
use Rattle.hq_ops.proofs.begin.begin_final.Goals as goal

pub returns : goal.returns
returns c op is build =
    begins-final op build c.args.keys c.args.aggregates.now c.in_ok-gathered.gathered is
    (subst (λ (cs : List Column). HasGathered (by.First c.args.keys) cs [] c.in_ok-gathered.gathered.keys.keys c.in_ok-gathered.gathered.tallies.items)
    (c.deref.ensures.value ∙ c.in_ok-columns.ensures ∙ ap (λ all. final_columns all c.args.keys) c.as_slice.ensures) (c.in_ok-gathered.ensures _))
