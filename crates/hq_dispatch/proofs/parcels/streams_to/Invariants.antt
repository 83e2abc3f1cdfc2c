-- The streams of the senders so far.
use Rattle.std.proofs.Common.{◌≡◌, false, filter, map, get_or}
use Rattle.std.specs.List.{range_with_len}
use Rattle.hq_pump.specs.Seen.{seen}
use Rattle.hq_dispatch.specs.Parcels.{list_of, parcel_at}
use Rattle.hq_dispatch.proofs.parcels.streams_to.Given as goal

abbrev pub invariant-loop-sender : goal.invariant-loop-sender
invariant-loop-sender l = seen l.streams.items ≡ map (λ s. (s, parcel_at l.parcels s (list_of l.out l.node))) (filter (λ s. get_or l.sends s false) (range_with_len 0 l.sender))
