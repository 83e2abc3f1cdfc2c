-- As it is of each datagram.
use Rattle.hq_dispatch.proofs.Earlier.{next-motion}
use Rattle.hq_dispatch.proofs.laws.motions_follow_one_another.Goals as goal

pub returns : goal.returns
returns c = next-motion
