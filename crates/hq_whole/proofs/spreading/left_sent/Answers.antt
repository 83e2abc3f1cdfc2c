use Rattle.std.proofs.Common.{refl}
use Rattle.hq_whole.proofs.spreading.left_sent.Goals as goal

pub returns : goal.returns
returns c = record { slices = c.in_ok-left.ensures.slices; left = c.in_ok-left.ensures.received; right = refl }
