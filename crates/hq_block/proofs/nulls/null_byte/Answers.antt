use Rattle.std.proofs.Common.{arith}
use Rattle.hq_block.proofs.Flags.{flags-fit}
use Rattle.hq_block.proofs.nulls.null_byte.Goals as goal

pub overflow_mul-flags : goal.overflow_mul-flags
overflow_mul-flags c = omega (arith, flags-fit c.args.group.now c.loop-i.i c.loop-i.flags c.loop-i-test.true c.requires c.loop-i.invariant)

pub overflow_add-flags : goal.overflow_add-flags
overflow_add-flags c = omega (arith, flags-fit c.args.group.now c.loop-i.i c.loop-i.flags c.loop-i-test.true c.requires c.loop-i.invariant, c.null_flag.ensures.below)
