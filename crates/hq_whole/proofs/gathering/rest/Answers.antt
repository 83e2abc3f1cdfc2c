use Rattle.std.proofs.Common.{List, ap, ◌∙◌}
use Rattle.hq_algebra.specs.declared.expr.Expr.{Expr}
use Rattle.hq_algebra.specs.declared.query.Query.{Query}
use Rattle.hq_laws.specs.Gathered.{rest_op}
use Rattle.hq_laws.specs.Stages.{filters, partial_op, final_op, tail_op}
use Rattle.hq_whole.proofs.Results.{if_ok-then}
use Rattle.hq_whole.proofs.gathering.rest.Goals as goal

pub returns : goal.returns
returns c =
    let q : Query = c.args.query.now in
    if_ok-then c.tail_op.result (tail_op q c.in_ok-grouped.grouped) (rest_op q c.args.input)
    (ap (tail_op q) (c.in_ok-grouped.ensures ∙ ap (final_op q) (c.in_ok-partial.ensures ∙ ap (partial_op q) (c.in_ok-kept.ensures ∙ ap (λ (cs : List Expr). filters cs c.args.input) c.as_slice.ensures)))) c.tail_op.ensures
