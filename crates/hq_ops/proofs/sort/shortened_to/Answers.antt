use Rattle.std.proofs.Common.{◌∙◌, ◌++◌, ap, take}
use Rattle.hq_meaning.specs.Rows.{ordered}
use Rattle.hq_ops.proofs.Limits.{first-rows-stand}
use Rattle.hq_ops.proofs.sort.shortened_to.Goals as goal

pub returns : goal.returns
returns c more = ap (λ l. take c.args.limit (ordered c.args.order.now (l ++ more))) c.sort_to.ensures ∙ first-rows-stand c.args.order.now c.args.limit c.args.rows.items more
