-- What a look may ask.
use Rattle.std.proofs.Common.{◌≡◌, ℕ, zero, suc, ◌<◌, ◌≤◌, List, [], ◌∷◌, Option, Some, None, length, slice_index_or, refl, arith, subst, sym}
use Rattle.hq_history.specs.declared.noted.Noted.{Noted}
use Rattle.hq_snap.specs.declared.scope.Have.{Have}
use Rattle.hq_catalog.specs.Asks.{MayLook}
use Rattle.hq_catalogtests.specs.Turns.{IsReached, listed}

reached_one : (history : List Noted) (h : Have) → h.at ≤ length history → (i : ℕ) (d : Have) → i < 1 → (slice_index_or (h ∷ []) i d).at ≤ length history
reached_one history h le zero d lt = le
reached_one history h le (suc i) d lt = absurd (omega (arith, lt))

may_have : (history : List Noted) (have : Option Have) → IsReached history have → MayLook history (listed have)
may_have history None reached = record { once = refl; reached = λ i d lt. absurd (omega (arith, lt)) }
may_have history (Some h) reached = record { once = refl; reached = reached_one history h reached }

-- at most one table is had, as it was at a place that the history has reached
pub may_look : (history : List Noted) (have : Option Have) (list : List Have) → IsReached history have → list ≡ listed have → MayLook history list
may_look history have list reached is = subst (MayLook history) (sym is) (may_have history have reached)
