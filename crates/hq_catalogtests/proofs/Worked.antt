-- What a session has once it has worked on its lane.
use Rattle.std.proofs.Common.{◌≡◌, ◌⊎◌, ℕ, false, List, [], ◌∷◌, ◌++◌, sym, ◌∙◌, ap, subst, inl, inr}
use Rattle.hq_log.specs.declared.place.Place.{Place}
use Rattle.hq_log.specs.declared.place.Place.TheVariants.{Out, Sweeping}
use Rattle.hq_log.specs.Legal.{IsAt}
use Rattle.hq_lane.specs.BucketFiles.{KeepsBase, KeepsBytes, KeepsFile}
use Rattle.hq_lane.specs.Lanes.{LaneState, id_of, EachFile, AreWhole, AreSealed, HaveNoSeal}
use Rattle.hq_history.specs.declared.noted.Noted.{Noted}
use Rattle.hq_history.specs.History.{entries_of}
use Rattle.hq_history.specs.Deposits.{length_left}
use Rattle.hq_catalog.specs.Asks.{HasLane}
use Rattle.hq_catalogtests.specs.declared.hand.Hand.{Hand}
use Rattle.hq_catalogtests.specs.declared.hand.Held.{Held}
use Rattle.hq_catalogtests.specs.declared.hand.Held.TheVariants as held
use Rattle.hq_catalogtests.specs.Turns.{HasSealed, HasJust, HasBeside, IsReady, IsSameLane, GetsNoSeal, Stays, StaysHeld}
use Rattle.hq_catalogtests.proofs.Hands.{sealed_more, no_other_more}

only_same : (lanes : List LaneState) (l new : LaneState) (t n : ℕ) → IsSameLane l new → ((t ≡ l.table) × (n ≡ l.number)) ⊎ HasLane lanes t n → ((t ≡ new.table) × (n ≡ new.number)) ⊎ HasLane lanes t n
only_same lanes l new t n same (inl o) = inl (o.0 ∙ sym same.table, o.1 ∙ sym same.number)
only_same lanes l new t n same (inr o) = inr o

just_same : (k : ℕ) (history : List Noted) (lanes : List LaneState) (place : Place) (l new : LaneState) → IsSameLane l new → HasJust k history lanes place l → HasJust k history lanes place new
just_same k history lanes place l new same has = record {
  at = subst (λ t. IsAt (entries_of history) t new.number place) (sym same.table) (subst (λ n. IsAt (entries_of history) l.table n place) (sym same.number) has.at);
  beside = λ one. has.beside (one.0, one.1, one.2 ∙ same.table, one.3 ∙ same.number);
  only = λ t n p h at. only_same lanes l new t n same (has.only t n p h at);
  agrees = record {
    base = λ b lt. same.base b lt ∙ has.agrees.base b lt ∙ ap (λ t. length_left history (id_of t l.number b)) (sym same.table) ∙ ap (λ n. length_left history (id_of new.table n b)) (sym same.number);
    bytes = λ told b lt. absurd (cc);
  };
}

no_seal_same : (l new : LaneState) → GetsNoSeal l new → HaveNoSeal l.files → HaveNoSeal new.files
no_seal_same l new same none = λ b lt. same b lt ∙ none b lt

-- rows were appended, and no append failed
pub writes_on : (l new : LaneState) → IsSameLane l new → GetsNoSeal l new → AreWhole new.files → StaysHeld (held.Writes l) (held.Writes new)
writes_on l new same seals whole = λ k history lanes has. (just_same k history lanes (Out k) l new same has.0, no_seal_same l new seals has.1, whole)

-- or one did
pub torn_now : (l new : LaneState) → IsSameLane l new → GetsNoSeal l new → StaysHeld (held.Writes l) (held.Torn new)
torn_now l new same seals = λ k history lanes has. (just_same k history lanes (Out k) l new same has.0, no_seal_same l new seals has.1)

-- or cut
pub sweeps_on : (l new : LaneState) → IsSameLane l new → GetsNoSeal l new → StaysHeld (held.Sweeps l) (held.Sweeps new)
sweeps_on l new same seals = λ k history lanes has. (just_same k history lanes (Sweeping k) l new same has.0, no_seal_same l new seals has.1)

-- a lane whose files were flushed
pub flushed_same : (l new : LaneState) → new ≡ record l { files = new.files } → EachFile (KeepsBytes false) l.files new.files → IsSameLane l new
flushed_same l new is kept = record {
  table = ap (λ (x : LaneState). x.table) is;
  number = ap (λ (x : LaneState). x.number) is;
  base = λ b lt. (kept b lt).base;
}

pub flushed_seals : (l new : LaneState) → EachFile (KeepsBytes false) l.files new.files → GetsNoSeal l new
flushed_seals l new kept = λ b lt. (kept b lt).fresh

-- or sealed
pub sealed_same : (l new : LaneState) → new ≡ record l { files = new.files } → EachFile (KeepsFile false) l.files new.files → IsSameLane l new
sealed_same l new is kept = record {
  table = ap (λ (x : LaneState). x.table) is;
  number = ap (λ (x : LaneState). x.number) is;
  base = λ b lt. (kept b lt).base;
}

-- or cut
pub cut_same : (l new : LaneState) → new ≡ record l { files = new.files } → EachFile (KeepsBase false) l.files new.files → IsSameLane l new
cut_same l new is kept = record {
  table = ap (λ (x : LaneState). x.table) is;
  number = ap (λ (x : LaneState). x.number) is;
  base = λ b lt. (kept b lt).base;
}

pub cut_seals : (l new : LaneState) → EachFile (KeepsBase false) l.files new.files → GetsNoSeal l new
cut_seals l new kept = λ b lt. (kept b lt).fresh

-- one after the other
pub same_same : (a b c : LaneState) → IsSameLane a b → IsSameLane b c → IsSameLane a c
same_same a b c x y = record {
  table = y.table ∙ x.table;
  number = y.number ∙ x.number;
  base = λ i lt. y.base i lt ∙ x.base i lt;
}

-- what is had is ready
pub ready : (k : ℕ) (history : List Noted) (lanes : List LaneState) (h : Held) → HasBeside k history lanes h → IsReady h
ready k history lanes held.Nothing has = tt
ready k history lanes (held.Writes l) has = has.2
ready k history lanes (held.Torn l) has = tt
ready k history lanes (held.Sweeps l) has = has.1

-- what was held by another name
pub stays_as : (old was new : Held) → old ≡ was → StaysHeld was new → StaysHeld old new
stays_as old was new is stays = λ k history lanes has. stays k history lanes (subst (λ (h : Held). HasBeside k history lanes h) is has)

-- what is held has changed, and the lanes beside it are the same
pub held_stays : (old new : Hand) (h : Held) → new.sealed.items ≡ old.sealed.items → new.held ≡ h → StaysHeld old.held h → Stays old new
held_stays old new h these is stays = λ k history has. (
    let now = stays k history old.sealed.items has.held in
    record {
      sealed = subst (λ (ls : List LaneState). HasSealed k history ls) (sym these) has.sealed;
      held = subst (λ (ls : List LaneState). HasBeside k history ls new.held) (sym these) (subst (λ (x : Held). HasBeside k history old.sealed.items x) (sym is) now);
    }
    )

-- the lane that was written is sealed
pub sealed_now : (old new : Hand) (l sealed : LaneState) → old.held ≡ held.Writes l → new.sealed.items ≡ old.sealed.items ++ sealed ∷ [] → new.held ≡ held.Nothing → IsSameLane l sealed → AreSealed false false sealed.files → Stays old new
sealed_now old new l sealed wrote these is same files = λ k history has. (
    let lanes = old.sealed.items in
    let had = subst (λ (h : Held). HasBeside k history lanes h) wrote has.held in
    let just = just_same k history lanes (Out k) l sealed same had.0 in
    record {
      sealed = subst (λ (ls : List LaneState). HasSealed k history ls) (sym these) (sealed_more k history lanes sealed has.sealed just files);
      held = subst (λ (ls : List LaneState). HasBeside k history ls new.held) (sym these) (subst (λ (x : Held). HasBeside k history (lanes ++ sealed ∷ []) x) (sym is) (no_other_more k history lanes sealed just));
    }
    )
