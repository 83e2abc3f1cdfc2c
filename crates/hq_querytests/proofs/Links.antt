-- What can come over a link after a query is of that query or of an earlier one.
use Rattle.std.proofs.Common.{◌≡◌, ◌⊎◌, inl, inr, ℕ, ◌+◌, ◌<◌, List, Option, Some, None, sym, subst, length, slice_index_or, arith}
use Rattle.hq_link.specs.declared.datagram.Datagram.{Datagram}
use Rattle.hq_link.specs.Reading.{gram_at}
use Rattle.hq_link.specs.Link.{IsIn}
use Rattle.hq_pump.specs.Safe.{IsEarlier, AreEarlier}
use Rattle.hq_detect.specs.declared.bench.Bench.{Bench}
use Rattle.hq_sim.specs.Acting.{SimState, state_of}
use Rattle.hq_dispatch.specs.Each.{Each}
use Rattle.hq_dispatch.specs.Received.{IsOf, GoesOnFor}
use Rattle.hq_querytests.specs.Benches.{AreReady}

-- what is earlier than a query is earlier than the next
still-earlier : (q : ℕ) (d : Option Datagram) → IsEarlier q 0 d → IsEarlier (q + 1) 0 d
still-earlier q None h = tt
still-earlier q (Some d) (inl less) = inl (omega (arith, less))
still-earlier q (Some d) (inr same) = absurd (omega (arith, same.1))

-- a query's datagram is earlier than the next query
own-earlier : (q : ℕ) (x : List ℕ) → IsOf q x → IsEarlier (q + 1) 0 (gram_at x)
own-earlier q x own = subst (IsEarlier (q + 1) 0) (sym own.spelled) (inl (let is = own.query_is in omega (arith, is)))

next-query : (q : ℕ) (old new : SimState) → GoesOnFor q (state_of old) (state_of new) → AreEarlier q 0 (state_of old).may → AreEarlier (q + 1) 0 (state_of new).may
next-query q old new goes h = λ x is. by x (goes.own x is)
  where
    by : (x : List ℕ) → IsIn x old.sent ⊎ IsOf q x → IsEarlier (q + 1) 0 (gram_at x)
    by x (inl before) = still-earlier q (gram_at x) (h x before)
    by x (inr own) = own-earlier q x own

-- the benches are ready for the next query after one
pub ready-next : {S H : Type 0} (q : ℕ) (old new : List (Bench S H SimState)) → length new ≡ length old
    → Each old new (λ a b. GoesOnFor q (state_of a.link) (state_of b.link)) → AreReady q old → AreReady (q + 1) new
ready-next {S} {H} q old new count goes ready n d within =
    let below : n < length old = omega (arith, within, count) in
    next-query q (slice_index_or old n d).link (slice_index_or new n d).link (goes n below d) (ready n d below)
