use Rattle.std.proofs.Common.{arith}
use Rattle.hq_planwire.proofs.Turns.{deeper_expr}
use Rattle.hq_planwire.proofs.exprs.+exprs.Goals as goal

pub expr_at-returns : goal.expr_at-returns
expr_at-returns t c = rw (deeper_expr c.args.depth c.args.bytes.now c.in_ok-tag.tag c.in_ok-tag.rest.now (omega arith) c.in_ok-tag.ensures) c.expr_of.ensures
