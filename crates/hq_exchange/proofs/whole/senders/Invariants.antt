use Rattle.std.proofs.Common.{◌≡◌, take, map}
use Rattle.hq_exchange.proofs.whole.senders.Given as goal

abbrev pub invariant-loop-stream : goal.invariant-loop-stream
invariant-loop-stream l = l.senders.items ≡ map (λ stream. stream.0) (take l.stream-index l.streams)
