-- A session that has no entry has no lane out.
use Rattle.std.proofs.Common.{◌≡◌, ◌<◌, ℕ, zero, suc, Bool, true, false, List, [], ◌∷◌, ◌++◌, length, replicate, Option, Some, None, refl, arith, slice_get}
use Rattle.std.specs.List.{list_any}
use Rattle.hq_value.specs.declared.entry.Entry.{Entry}
use Rattle.hq_log.specs.declared.place.Place.{Place}
use Rattle.hq_log.specs.declared.place.Place.TheVariants.{Unborn, Out}
use Rattle.hq_log.specs.Places.{is_swept_by}
use Rattle.hq_log.specs.Pools.{pool}
use Rattle.hq_log.specs.Legal.{IsAt, IsLegal}
use Rattle.hq_history.specs.declared.noted.Noted.{Noted}
use Rattle.hq_history.specs.History.{entries_of, by}
use Rattle.hq_catalog.specs.Stands.{AreOwnSteps}
use Rattle.hq_catalog.proofs.Others.{goes_on}
use Rattle.hq_turns.specs.Hand.{InHand}
use Rattle.hq_turns.proofs.Hands.{hand-on}

none-out : (m k n : ℕ) → slice_get (replicate m Unborn) n ≡ Some (Out k) → ⊥
none-out zero k n h = cc
none-out (suc m) k zero h = cc
none-out (suc m) k (suc n) h = none-out m k n h

none-swept : (m k : ℕ) → list_any (is_swept_by k) (replicate m Unborn) ≡ false
none-swept zero k = refl
none-swept (suc m) k = none-swept m k

-- in an empty history
at-first : (files seals : Bool) (k : ℕ) → InHand files seals k [] []
at-first files seals k = record {
  out = λ i h. absurd (omega (arith, h));
  made = λ i h. absurd (omega (arith, h));
  agrees = λ i h. absurd (omega (arith, h));
  fit = λ i h. absurd (omega (arith, h));
  apart = λ i j h. absurd (omega (arith, h));
  all = λ t n at. absurd (none-out 64 k n at);
  none_swept = λ t. none-swept 64 k;
}

pub hand-none : (files seals told : Bool) (nodes k : ℕ) (history : List Noted) → by k history ≡ [] → IsLegal nodes (entries_of history) → AreOwnSteps told [] history
    → InHand files seals k history []
hand-none files seals told nodes k history none legal steps =
    hand-on files seals k [] history [] (goes_on told nodes k [] history (history, refl, none) legal steps) (at-first files seals k)
