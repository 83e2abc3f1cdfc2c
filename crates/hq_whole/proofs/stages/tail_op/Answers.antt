use Rattle.std.proofs.Common.{List, ap, ◌∙◌}
use Rattle.hq_algebra.specs.declared.expr.Expr.{Expr}
use Rattle.hq_algebra.specs.declared.op.Op.{Op}
use Rattle.hq_algebra.specs.declared.op.Op.TheVariants as op
use Rattle.hq_algebra.specs.declared.query.Query.{Query}
use Rattle.hq_laws.specs.Stages.{filters, tail_op}
use Rattle.hq_listing.specs.Listing.{end_op}
use Rattle.hq_whole.proofs.Results.{if_ok-then}
use Rattle.hq_whole.proofs.stages.tail_op.Goals as goal

pub returns : goal.returns
returns c =
    let q : Query = c.args.query.now in
    if_ok-then c.end_op.result (end_op q c.in_ok-listed.listed) (tail_op q c.args.input)
    (ap (end_op q) (c.in_ok-listed.ensures ∙ ap (λ (x : Op). op.Project q.items x) (c.in_ok-kept.ensures ∙ ap (λ (cs : List Expr). filters cs c.args.input) c.as_slice.ensures))) c.end_op.ensures
