use Rattle.std.proofs.Common.{refl}
use Rattle.hq_whole.proofs.spreading.right_sent.Goals as goal

pub returns : goal.returns
returns c = record { slices = c.in_ok-right.ensures.slices; left = refl; right = c.in_ok-right.ensures.received }
