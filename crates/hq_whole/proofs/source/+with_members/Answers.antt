use Rattle.std.proofs.Common.{◌≡◌, ap, sym, ◌∙◌}
use Rattle.hq_algebra.specs.declared.expr.Expr.{Expr}
use Rattle.hq_laws.specs.Tests.{members}
use Rattle.hq_whole.specs.Conjoined.{conjoined, lowered_guards}
use Rattle.hq_whole.proofs.Conjoining.{and-members}
use Rattle.hq_whole.proofs.Results.{if_ok-then}
use Rattle.hq_whole.proofs.source.+with_members.Goals as goal

pub returns-in_ok-others-in-And : goal.returns-in_ok-others-in-And
returns-in_ok-others-in-And t c =
    if_ok-then c.with_members-in-And.result (conjoined (lowered_guards c.args.kinds.now c.args.width (members c.in-And.left)) c.in_ok-others-in-And.others) (conjoined (lowered_guards c.args.kinds.now c.args.width (members c.args.e.now)) c.args.others)
    (ap (conjoined (lowered_guards c.args.kinds.now c.args.width (members c.in-And.left))) (rw c.get.ensures at c.in_ok-others-in-And.ensures)
    ∙ sym (and-members c.args.kinds.now c.args.width c.in-And.left c.in-And.right c.args.others)
    ∙ ap (λ (x : Expr). conjoined (lowered_guards c.args.kinds.now c.args.width (members x)) c.args.others) (sym c.in-And.is))
    (rw c.get-in-And.ensures at c.with_members-in-And.ensures)
