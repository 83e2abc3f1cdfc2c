-- Rows that a node receives.
--     IsLater old new                       the counts of a link have not fallen
--     IsOf query x                          a datagram of this query
--     GoesOnFor query old new               what exchanges of this query leave of a link
--     HasCause old new result               an exchange that failed, or lost its link, has its cause in the counts
--     AreGiven kinds sends given bytes      the bytes of each sender are those of the rows given for it
--     AreOf kinds sends given streams       the stream of each sender is the bytes of the rows given for it
--     HasExchanged ..                       an exchange of a motion ended so
--     HasTaken ..                           a node has the rows of the senders
--     HasGot ..                             a node's task took its rows of a motion, or rested
use Rattle.std.specs.Prelude.{◌≡◌, ℕ, ◌^◌, ◌-◌, ◌<◌, ◌≤◌, Bool, true, false, List, ◌∷◌, map, filter, flat_map, Some, slice_get, slice_index_or, Result, Ok, Err, OnOk}
use Rattle.std.specs.Global.{Vec}
use Rattle.std.specs.List.{AllByRecursion, range_with_len}
use Rattle.hq_value.specs.Causes.{Rose, RoseBy}
use Rattle.hq_value.specs.declared.kind.Kind.{Kind}
use Rattle.hq_value.specs.declared.value.Value.{Value}
use Rattle.hq_block.specs.Row.{IsStorable}
use Rattle.hq_algebra.specs.declared.plan.Motion.{Motion}
use Rattle.hq_link.specs.declared.datagram.Datagram.{Datagram}
use Rattle.hq_link.specs.Reading.{gram_at}
use Rattle.hq_link.specs.Link.{LinkState, StaysSound, IsLowered}
use Rattle.hq_motion.specs.Bytes.{AreRows}
use Rattle.hq_pump.specs.declared.end.ExchangeEnd.{ExchangeEnd}
use Rattle.hq_pump.specs.declared.end.ExchangeEnd.TheVariants as end_variant
use Rattle.hq_pump.specs.Promise.{IsRoughAtMost, IsOkOrNoMemory}
use Rattle.hq_pump.specs.Pumping.{IsLost, pieces_of}
use Rattle.hq_pump.specs.Safe.{Grows, IsOwn, WhereKnown}
use Rattle.hq_dispatch.specs.Outside.{Outside}
use Rattle.hq_dispatch.specs.Owners.{flagged}
use Rattle.hq_dispatch.specs.Parcels.{list_of, parcel_at}
use Rattle.hq_dispatch.specs.declared.parcels.Parcels.{Parcels}
use Rattle.hq_dispatch.specs.declared.task.Task.{Task}

-- the counts of a link have not fallen
pub record IsLater (old new : LinkState) : Type 0 where
  pub troubles : old.troubles ≤ new.troubles
  pub faults : old.faults ≤ new.faults

-- a datagram of this query
pub record IsOf (query : ℕ) (x : List ℕ) : Type 0 where
  pub datagram : Datagram
  pub spelled : gram_at x ≡ Some datagram
  pub query_is : datagram.query ≡ query

-- what exchanges of this query leave of a link: no count has fallen, what can still come more is the query's, and what was
-- promised holds
pub record GoesOnFor (query : ℕ) (old new : LinkState) : Type 0 where
  pub later : IsLater old new
  pub own : Grows old.may new.may (IsOf query)
  pub stays_sound : old.sound ≡ true → StaysSound old new
  pub steady : IsRoughAtMost 0 old → new.troubles ≡ old.troubles
  pub lowered : IsLowered old.rough new.rough

-- an exchange that failed, or lost its link, has its cause in the counts
pub record HasCause {A : Type 0} (old new : LinkState) (result : Result A ExchangeEnd) : Type 0 where
  pub failed : result ≡ Err end_variant.LinkFailed → Rose old.faults new.faults
  pub lost : (seq troubles : ℕ) → result ≡ Err (end_variant.LinkLost seq troubles) → IsLost old.troubles new.troubles

-- the bytes of each sender are those of the rows given for it
abbrev pub AreGiven : List Kind → List Bool → (ℕ → List (List Value)) → (ℕ → List ℕ) → Type 0
AreGiven kinds sends given bytes = (n : ℕ) → n < 16 → slice_index_or sends n false ≡ true → AreRows kinds (given n) (bytes n)

-- the stream of each sender is there, and is the bytes of the rows given for it
abbrev pub AreOf : List Kind → List Bool → (ℕ → List (List Value)) → List (ℕ × List ℕ) → Type 0
AreOf kinds sends given streams =
    (n : ℕ) → n < 16 → slice_index_or sends n false ≡ true → (i : ℕ) × (bytes : List ℕ) × (slice_get streams i ≡ Some (n, bytes)) × AreRows kinds (given n) bytes

-- the rows of the senders, ascending
abbrev pub joined : List Bool → (ℕ → List (List Value)) → List (List Value)
joined sends given = flat_map given (filter (λ n. slice_index_or sends n false) (range_with_len 0 16))

-- the streams of the senders to a node, ascending
abbrev pub streams_for : Motion → List Parcels → List Bool → ℕ → List (ℕ × List ℕ)
streams_for out parcels sends node = map (λ s. (s, parcel_at parcels s (list_of out node))) (flagged sends)

-- an exchange of a motion left this of its link, and ended so
pub record HasExchanged {A : Type 0} (query motion : ℕ) (old new : LinkState) (result : Result A ExchangeEnd) : Type 0 where
  pub later : IsLater old new
  pub own : Grows old.may new.may (IsOwn query motion)
  pub stays_sound : old.sound ≡ true → StaysSound old new
  pub steady : IsRoughAtMost 0 old → new.troubles ≡ old.troubles
  pub lowered : IsLowered old.rough new.rough
  pub cause : HasCause old new result
  pub complete : IsRoughAtMost 15 old → new.troubles < 2 ^ 64 - 1 → IsOkOrNoMemory result

-- a node has the rows of the senders, where its link tells what it carries
pub record HasTaken (kinds : List Kind) (out : Motion) (parcels : List Parcels) (sends : List Bool) (node : ℕ) (old new : LinkState) (rows : List (List Value)) : Type 0 where
  pub storable : AllByRecursion (IsStorable kinds) rows
  pub known : WhereKnown new.may ((given : ℕ → List (List Value)) → AreGiven kinds sends given (λ s. parcel_at parcels s (list_of out node)) → rows ≡ joined sends given)
  pub given : WhereKnown new.may (RoseBy (pieces_of (streams_for out parcels sends node)) old.given new.given)

-- the rows of a slice stand in front of those that were received before
pub record HasReceived {S H L : Type 0} (o : Outside S H L) (slice : ℕ) (kinds : List Kind) (out : Motion) (parcels : List Parcels) (sends : List Bool) (node : ℕ) (old new : Task S H L) : Type 0 where
  pub rows : Vec (List Value)
  pub received : new.incoming.items ≡ (slice, rows) ∷ old.incoming.items
  pub taken : HasTaken kinds out parcels sends node (o.state old.bench.link) (o.state new.bench.link) rows.items

-- nothing was received on the node
pub record HasWaited {S H L : Type 0} (old new : Task S H L) : Type 0 where
  pub bench : new.bench ≡ old.bench
  pub incoming : new.incoming ≡ old.incoming
  pub got : new.got ≡ Ok tt

-- a node's task took its rows of a motion, or rested
pub record HasGot {S H L : Type 0} (o : Outside S H L) (query slice : ℕ) (kinds : List Kind) (out : Motion) (parcels : List Parcels) (sends : List Bool) (node : ℕ) (takes : Bool) (old new : Task S H L) : Type 0 where
  pub store : new.bench.store ≡ old.bench.store
  pub host : new.bench.host ≡ old.bench.host
  pub exchanged : takes ≡ true → HasExchanged query slice (o.state old.bench.link) (o.state new.bench.link) new.got
  pub received : takes ≡ true → OnOk new.got (HasReceived o slice kinds out parcels sends node old new)
  pub waited : takes ≡ false → HasWaited old new
