-- What a socket gave: a datagram has at most 1,224 bytes.
use Rattle.std.specs.Prelude.{ℕ, ◌≤◌}
use Rattle.hq_link.specs.declared.pair.Arrival.{Arrival}
use Rattle.hq_link.specs.declared.pair.Arrival.TheVariants.{Datagram, Other, Nothing, Failed}

abbrev pub IsArrival : Arrival → Type 0
IsArrival (Datagram len) = len ≤ 1224
IsArrival Other = Unit {0}
IsArrival Nothing = Unit {0}
IsArrival Failed = Unit {0}
