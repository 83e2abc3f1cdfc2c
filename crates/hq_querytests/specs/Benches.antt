-- The benches of the queries.
--     HasNewLink bench            nothing was sent over its link
--     AreReady query benches      what can still come over their links is of earlier queries
use Rattle.std.specs.Prelude.{◌≡◌, ℕ, ◌<◌, List, [], length, slice_index_or}
use Rattle.hq_detect.specs.declared.bench.Bench.{Bench}
use Rattle.hq_pump.specs.Safe.{AreEarlier}
use Rattle.hq_sim.specs.Acting.{SimState, state_of}

-- nothing was sent over its link
abbrev pub HasNewLink : {S H : Type 0} → Bench S H SimState → Type 0
HasNewLink {S} {H} bench = bench.link.sent ≡ []

-- what can still come over their links is of earlier queries
abbrev pub AreReady : {S H : Type 0} → ℕ → List (Bench S H SimState) → Type 0
AreReady {S} {H} query benches = (n : ℕ) (d : Bench S H SimState) → n < length benches → AreEarlier query 0 (state_of (slice_index_or benches n d).link).may
