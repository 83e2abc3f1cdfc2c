use Rattle.std.proofs.Common.{false, refl}
use Rattle.hq_ops.proofs.Pipes.{nothing-streams, nil-more}
use Rattle.hq_ops.proofs.take.take_distinct.Goals as goal

pub returns : goal.returns
returns c op build pushed given h = record {
  holds = (h.0, c.in_ok-seen.ensures pushed h.1, nil-more given _ h.2 c.new.ensures.items);
  streams = nothing-streams op false h.0.streams_are refl;
}
