use Rattle.std.proofs.Common.{ap, ◌∙◌, arith}
use Rattle.std.specs.Prelude.{slice_set}
use Rattle.hq_recv.proofs.Places.{one_emptied}
use Rattle.hq_recv.proofs.receiver.clear.Goals as goal

pub loop-i-preserved : goal.loop-i-preserved
loop-i-preserved c =
    ap (λ s. slice_set c.loop-i.slots.items c.loop-i.i s) c.clear.ensures
    ∙ one_emptied c.loop-i.i c.loop-i.slots.items c.args.slots.now.items c.loop-i.invariant (omega (arith, c.requires))
