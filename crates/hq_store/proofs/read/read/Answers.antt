-- One run of bytes more.
use Rattle.std.proofs.Common.{◌∙◌, arith}
use Rattle.hq_store.proofs.Joined.{read_more}
use Rattle.hq_store.proofs.read.read.Goals as goal

pub loop-done-preserved : goal.loop-done-preserved
loop-done-preserved c =
    (omega arith, c.copy_at-done.ensures.bytes ∙ read_more _ _ _ _ _ _ c.loop-done.invariant.1 c.run_at.ensures.run (omega arith))
