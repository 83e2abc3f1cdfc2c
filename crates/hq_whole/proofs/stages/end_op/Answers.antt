use Rattle.std.proofs.Common.{ap}
use Rattle.hq_algebra.specs.declared.op.Op.{Op}
use Rattle.hq_algebra.specs.declared.op.Op.TheVariants as op
use Rattle.hq_algebra.specs.declared.query.Query.{Query}
use Rattle.hq_listing.specs.Listing.{end_op}
use Rattle.hq_whole.proofs.Results.{if_ok-then}
use Rattle.hq_whole.proofs.stages.end_op.Goals as goal

pub returns : goal.returns
returns c =
    let q : Query = c.args.query.now in
    if_ok-then c.sorted.result (op.Sort q.order q.limit c.in_ok-input.input) (end_op q c.args.input) (ap (λ (x : Op). op.Sort q.order q.limit x) c.in_ok-input.ensures) c.sorted.ensures
