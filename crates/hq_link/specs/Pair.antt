-- A link over two sockets: it tells its counts alone.
--     pair_state c          the link as contracts see it
--     CameCounted old bytes new    a datagram was counted
--     HasSkipped old tries new     so many arrivals were troubles
use Rattle.std.specs.Prelude.{◌≡◌, ◌⊎◌, ℕ, ◌+◌, ◌<◌, ◌≤◌, Bool, false, List, Option, None}
use Rattle.hq_value.specs.Causes.{Rose, raised}
use Rattle.hq_link.specs.declared.counts.Counts.{Counts}
use Rattle.hq_link.specs.Link.{LinkState, ack_count, other_count}

abbrev pub pair_state : Counts → LinkState
pair_state c = record { may = None; flying = None; acks = c.acks; others = c.others; troubles = c.troubles; given = c.given; faults = c.faults; sound = false; rough = None }

-- the count of its sort has fallen by one, or that was a trouble
pub record CameCounted (old : Counts) (bytes : List ℕ) (new : Counts) : Type 0 where
  pub turn : ((new.acks + ack_count bytes ≡ old.acks) × (new.others + other_count bytes ≡ old.others)) ⊎ Rose old.troubles new.troubles
  pub acks : new.acks ≤ old.acks
  pub others : new.others ≤ old.others
  pub troubles : old.troubles ≤ new.troubles
  pub given : new.given ≡ raised old.given 1
  pub faults : new.faults ≡ old.faults

-- nothing changed but for troubles, which rose where one arrival was skipped
pub record HasSkipped (old : Counts) (tries : ℕ) (new : Counts) : Type 0 where
  pub acks : new.acks ≡ old.acks
  pub others : new.others ≡ old.others
  pub given : new.given ≡ old.given
  pub faults : new.faults ≡ old.faults
  pub troubles : old.troubles ≤ new.troubles
  pub rose : 0 < tries → Rose old.troubles new.troubles
