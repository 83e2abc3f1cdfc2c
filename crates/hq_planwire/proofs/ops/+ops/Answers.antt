use Rattle.std.proofs.Common.{arith}
use Rattle.hq_planwire.proofs.Turns.{deeper_op}
use Rattle.hq_planwire.proofs.ops.+ops.Goals as goal

pub op_at-returns : goal.op_at-returns
op_at-returns t c = rw (deeper_op c.args.depth c.args.bytes.now c.in_ok-tag.tag c.in_ok-tag.rest.now (omega arith) c.in_ok-tag.ensures) c.op_of.ensures
