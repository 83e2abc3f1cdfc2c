-- What holds of a transaction stays.
use Rattle.std.proofs.Common.{◌≡◌, ◌<◌, ℕ, zero, suc, Bool, List, [], ◌∷◌, length, drop, get_or, refl, sym, ◌∙◌, ap, subst, arith}
use Rattle.std.proofs.lemmas.List.Elements.{All-nil, All-drop}
use Rattle.hq_lane.specs.Lanes.{LaneState, HaveNoSeal}
use Rattle.hq_txn.specs.Transactions.{Transaction, lane_at, no_lane, IsUnsealed}
use Rattle.hq_txn.specs.declared.state.TxnState.{TxnState}
use Rattle.hq_txn.specs.declared.state.TxnState.TheVariants as txn
use Rattle.hq_turns.specs.Ends.{given_up}
use Rattle.hq_turns.specs.Held.{slots, slot_of}
use Rattle.hq_session.specs.Keeps.{IsSound}

abbrev pub HasNoSeal : LaneState → Type 0
HasNoSeal lane = HaveNoSeal lane.files

pub sound-same : (t after : Transaction) → after ≡ t → IsSound t → IsSound after
sound-same t after e s = subst IsSound (sym e) s

failed-is-not-idle : txn.Failed ≡ txn.Idle → ⊥
failed-is-not-idle h = cc

open-is-not-idle : txn.Open ≡ txn.Idle → ⊥
open-is-not-idle h = cc

gives-up-idle : (s : TxnState) → given_up s ≡ txn.Idle → s ≡ txn.Idle
gives-up-idle txn.Idle h = refl
gives-up-idle txn.Open h = cc
gives-up-idle txn.Failed h = cc

-- an error fails it
pub sound-given-up : (t after : Transaction) → after ≡ record t { state = given_up t.state } → IsSound t → IsSound after
sound-given-up t after e s = subst IsSound (sym e) (record { idle = λ h. s.idle (gives-up-idle t.state h); no_seal = s.no_seal })

-- it begins
pub sound-begun : (t after : Transaction) (snapshot : Bool) → after ≡ record t { state = txn.Open; snapshot = snapshot } → IsSound t → IsSound after
sound-begun t after snapshot e s = subst IsSound (sym e) (record { idle = λ h. absurd (open-is-not-idle h); no_seal = s.no_seal })

-- its first lane is out
pub sound-aborted : (t after : Transaction) (spare : ℕ) → after ≡ record t { state = txn.Failed; lanes = drop 1 t.lanes; spare = spare } → IsSound t → IsSound after
sound-aborted t after spare e s =
    subst IsSound (sym e) (record { idle = λ h. absurd (failed-is-not-idle h); no_seal = All-drop HasNoSeal 1 t.lanes s.no_seal })

-- it has none
pub sound-none : (t after : Transaction) → after ≡ record t { state = txn.Idle } → t.lanes ≡ [] → IsSound t → IsSound after
sound-none t after e none s = subst IsSound (sym e) (record { idle = λ h. none; no_seal = s.no_seal })

-- its lanes are handed out
pub sound-spent : (t after : Transaction) → after ≡ record t { state = txn.Idle; lanes = []; spare = 0 } → IsSound after
sound-spent t after e = subst IsSound (sym e) (record { idle = λ h. refl; no_seal = All-nil HasNoSeal })

-- its lanes could not be sealed
pub sound-unsealed : (told : Bool) (t after : Transaction) → after ≡ record t { state = txn.Failed; lanes = after.lanes } → length after.lanes ≡ length t.lanes
    → ((n : ℕ) → n < length t.lanes → IsUnsealed told (lane_at t.lanes n) (lane_at after.lanes n)) → IsSound t → IsSound after
sound-unsealed told t after e count each s = record {
  idle = λ h. absurd (failed-is-not-idle (sym (ap (λ (x : Transaction). x.state) e) ∙ h));
  no_seal = λ i d within b lt.
      let there : i < length t.lanes = omega (arith, within, count) in
      subst (λ (l : LaneState). HasNoSeal l) (same-at after.lanes i no_lane d within) (fresh i there) b lt;
}
  where
    same-at : (xs : List LaneState) (i : ℕ) (d e : LaneState) → i < length xs → get_or xs i d ≡ get_or xs i e
    same-at [] i d e h = absurd (omega arith)
    same-at (x ∷ xs) zero d e h = refl
    same-at (x ∷ xs) (suc i) d e h = same-at xs i d e (omega (arith, h))

    fresh : (i : ℕ) → i < length t.lanes → HasNoSeal (lane_at after.lanes i)
    fresh i there b lt = ((each i there).files b lt).fresh ∙ s.no_seal i no_lane there b lt

abbrev slot : ℕ → ℕ → ℕ × ℕ
slot t n = (t, n)

slot-same : (x y : LaneState) → x.table ≡ y.table → x.number ≡ y.number → slot_of x ≡ slot_of y
slot-same x y p q = ap (λ (t : ℕ). slot t x.number) p ∙ ap (λ (n : ℕ). slot y.table n) q

-- lanes of which each has its table and its number still
pub same-slots : (old new : List LaneState) → length new ≡ length old → ((n : ℕ) → n < length old → slot_of (lane_at new n) ≡ slot_of (lane_at old n)) → slots new ≡ slots old
same-slots [] [] e h = refl
same-slots [] (y ∷ ys) e h = absurd (omega (arith, e))
same-slots (x ∷ xs) [] e h = absurd (omega (arith, e))
same-slots (x ∷ xs) (y ∷ ys) e h =
    ap (λ s. s ∷ slots ys) (h 0 (omega arith))
    ∙ ap (λ ss. slot_of x ∷ ss) (same-slots xs ys (omega (arith, e)) (λ n lt. h (suc n) (omega (arith, lt))))

pub unsealed-slots : (told : Bool) (old new : List LaneState) → length new ≡ length old → ((n : ℕ) → n < length old → IsUnsealed told (lane_at old n) (lane_at new n))
    → slots new ≡ slots old
unsealed-slots told old new count each = same-slots old new count (λ n lt. slot-same (lane_at new n) (lane_at old n) (each n lt).table (each n lt).number)
