-- What a session has once it is answered, and that it may ask what it asks.
use Rattle.std.proofs.Common.{◌≡◌, ◌⊎◌, ℕ, ◌<◌, ◌≤◌, eqb, Bool, true, false, cond, List, [], ◌∷◌, ◌++◌, length, map, Some, slice_get, slice_set, refl, sym, ◌∙◌, ap, subst, arith, inl, inr}
use Rattle.hq_value.specs.declared.entry.EntryKind.{EntryKind}
use Rattle.hq_value.specs.declared.entry.EntryKind.TheVariants as entry
use Rattle.hq_log.specs.declared.place.Place.{Place}
use Rattle.hq_log.specs.declared.place.Place.TheVariants.{Out, Sweeping}
use Rattle.hq_log.specs.declared.place.Next.{Next}
use Rattle.hq_log.specs.declared.place.Next.TheVariants as which
use Rattle.hq_log.specs.Places.{is_clean, is_dirty, is_unborn, is_out_to, is_swept_by, is_held_by, next_place}
use Rattle.hq_log.specs.Pools.{pool, places_after, home, committed}
use Rattle.hq_log.specs.Legal.{IsAt}
use Rattle.hq_log.proofs.Nexts.{next_place-Clean, next_place-Dirty, next_place-Unborn, IsLowest-position}
use Rattle.hq_lane.specs.Lanes.{LaneState, id_of, are_clean, AreClean, AreWhole, HaveNoSeal}
use Rattle.hq_history.specs.declared.noted.Noted.{Noted}
use Rattle.hq_history.specs.declared.noted.Deposit.{Deposit}
use Rattle.hq_history.specs.declared.noted.Deposit.TheVariants.{Nothing, Published}
use Rattle.hq_history.specs.History.{entries_of}
use Rattle.hq_history.specs.Deposits.{growths_in, tables_left, length_left}
use Rattle.hq_catalog.specs.declared.ask.Answer.{Answer}
use Rattle.hq_catalog.specs.declared.ask.Answer.TheVariants as answer
use Rattle.hq_catalog.specs.Lanes.{Agrees, IsGiven, IsGivenClean, growths_of}
use Rattle.hq_catalog.specs.Asks.{MayLend, MayAdopt, MayBack, MayCommit, MayCommitOne, HasLane, lane_at}
use Rattle.hq_catalog.specs.CatStep.{LendStep, LendsNext, AdoptStep, CommitStep, BackStep, SweepAnyStep, Notes, noted, places_of}
use Rattle.hq_catalogtests.specs.declared.hand.Held.{Held}
use Rattle.hq_catalogtests.specs.declared.hand.Held.TheVariants as held
use Rattle.hq_catalogtests.specs.Turns.{HasSealed, HasNoOther, HasJust, HasBeside, held_of, has_table, are_below}
use Rattle.hq_catalogtests.proofs.Places.{no_truth, out_held, swept_held, holds_out, holds_swept, home_free, clean_free, dirty_free, unborn_free, apart, none_any, passes_there, own_set, kept_set, found_after, found_mapped, committed_held}
use Rattle.hq_catalogtests.proofs.Hands.{none_sealed, of_no_table, of_made, sealed_still, no_other_still}
use Rattle.hq_catalogtests.proofs.Kept.{quiet, pool_new, length_same}

-- the places of each table behind an entry that sets lane n of table u
abbrev Sets : (old : List Noted) (x : Noted) (u n : ℕ) → Place → Type 0
Sets old x u n place = (t : ℕ) → places_after t (pool (entries_of old) t) x.entry.session x.entry.kind ≡ cond (eqb t u) (slice_set (pool (entries_of old) t) n place) (pool (entries_of old) t)

-- lane n of table u has gone from place p to another, no other lane has, and no file has grown
record Moves (old new : List Noted) (u n : ℕ) (p place : Place) : Type 0 where
  from : IsAt (entries_of old) u n p
  to : IsAt (entries_of new) u n place
  found : (t m : ℕ) (y : Place) → IsAt (entries_of new) t m y → ((t ≡ u) × (m ≡ n) × (y ≡ place)) ⊎ (((t ≡ u) → (m ≡ n) → ⊥) × IsAt (entries_of old) t m y)
  stay : (t m : ℕ) (y : Place) → ((t ≡ u) → (m ≡ n) → ⊥) → IsAt (entries_of old) t m y → IsAt (entries_of new) t m y
  lengths : (t m b : ℕ) → length_left new (id_of t m b) ≡ length_left old (id_of t m b)

moved_on : (old : List Noted) (x : Noted) (u n : ℕ) (p place : Place) → Sets old x u n place → growths_in x.deposit ≡ [] → IsAt (entries_of old) u n p → Moves old (old ++ x ∷ []) u n p place
moved_on old x u n p place sets none there = record {
  from = there;
  to = subst (λ ps. slice_get ps n ≡ Some place) (sym (pool_new old x u ∙ sets u)) (own_set u n p place (pool (entries_of old) u) there);
  found = λ t m y at.
      (let own : t ≡ u → slice_get (pool (entries_of old) t) n ≡ Some p = λ e. subst (λ s. slice_get (pool (entries_of old) s) n ≡ Some p) (sym e) there in
      found_after t u n m p place y (pool (entries_of old) t) own (subst (λ ps. slice_get ps m ≡ Some y) (pool_new old x t ∙ sets t) at));
  stay = λ t m y other at. subst (λ ps. slice_get ps m ≡ Some y) (sym (pool_new old x t ∙ sets t)) (kept_set t u n m place y (pool (entries_of old) t) other at);
  lengths = λ t m b. length_same old x none t m b;
}

moved : (k m : ℕ) (kind : EntryKind) (old new : List Noted) (u n : ℕ) (p place : Place) → Sets old (noted k m kind Nothing) u n place → IsAt (entries_of old) u n p → Notes k m kind Nothing old new → Moves old new u n p place
moved k m kind old new u n p place sets there notes =
    subst (λ (h : List Noted). Moves old h u n p place) (sym notes) (moved_on old (noted k m kind Nothing) u n p place sets refl there)

agrees_still : (old new : List Noted) (u n : ℕ) (p place : Place) (l : LaneState) → Moves old new u n p place → Agrees false old l → Agrees false new l
agrees_still old new u n p place l mv a = record {
  base = λ b lt. a.base b lt ∙ sym (mv.lengths l.table l.number b);
  bytes = λ told b lt. absurd (cc);
}

-- the lanes beside it are as they were
sealed_on : (k : ℕ) (old new : List Noted) (lanes : List LaneState) (u n : ℕ) (p place : Place) → Moves old new u n p place → (HasLane lanes u n → ⊥) → HasSealed k old lanes → HasSealed k new lanes
sealed_on k old new lanes u n p place mv none has = record {
  at = λ i lt. mv.stay (lane_at lanes i).table (lane_at lanes i).number (Out k) (λ t m. none (i, lt, t, m)) (has.at i lt);
  agrees = λ i lt. agrees_still old new u n p place (lane_at lanes i) mv (has.agrees i lt);
  sealed = has.sealed;
  once = has.once;
}

-- a lane that the session didn't have is none of these
free_none : (k : ℕ) (old : List Noted) (lanes : List LaneState) (u n : ℕ) (p : Place) → is_held_by k p ≡ false → IsAt (entries_of old) u n p → HasSealed k old lanes → HasLane lanes u n → ⊥
free_none k old lanes u n p free there has one =
    let l = lane_at lanes one.0 in
    let at : IsAt (entries_of old) u n (Out k) = subst (λ i. IsAt (entries_of old) u i (Out k)) one.3 (subst (λ t. IsAt (entries_of old) t l.number (Out k)) one.2 (has.at one.0 one.1)) in
    let is : p ≡ Out k = (let e : Some p ≡ Some (Out k) = sym there ∙ at in cc) in
    no_truth (is_held_by k (Out k)) (holds_out k) (subst (λ q. is_held_by k q ≡ false) is free)

-- a lane that is handed out is all that the session has beside these
handed : (k : ℕ) (old new : List Noted) (lanes : List LaneState) (u n : ℕ) (p place : Place) (l : LaneState) → Moves old new u n p place → (HasLane lanes u n → ⊥)
    → ((t m : ℕ) (y : Place) → is_held_by k y ≡ true → IsAt (entries_of old) t m y → ((t ≡ u) × (m ≡ n)) ⊎ HasLane lanes t m) → l.table ≡ u → l.number ≡ n → Agrees false old l → HasJust k new lanes place l
handed k old new lanes u n p place l mv none only table number agrees = record {
  at = subst (λ t. IsAt (entries_of new) t l.number place) (sym table) (subst (λ i. IsAt (entries_of new) u i place) (sym number) mv.to);
  beside = λ one. none (one.0, one.1, one.2 ∙ table, one.3 ∙ number);
  only = λ t m y h at. of_found k old lanes u n t m place y l only table number h (mv.found t m y at);
  agrees = agrees_still old new u n p place l mv agrees;
}
  where
    of_found : (k : ℕ) (old : List Noted) (lanes : List LaneState) (u n t m : ℕ) (place y : Place) (l : LaneState)
        → ((s i : ℕ) (z : Place) → is_held_by k z ≡ true → IsAt (entries_of old) s i z → ((s ≡ u) × (i ≡ n)) ⊎ HasLane lanes s i) → l.table ≡ u → l.number ≡ n → is_held_by k y ≡ true
        → ((t ≡ u) × (m ≡ n) × (y ≡ place)) ⊎ (((t ≡ u) → (m ≡ n) → ⊥) × IsAt (entries_of old) t m y) → ((t ≡ l.table) × (m ≡ l.number)) ⊎ HasLane lanes t m
    of_found k old lanes u n t m place y l only table number h (inl f) = inl (f.0 ∙ sym table, f.1 ∙ sym number)
    of_found k old lanes u n t m place y l only table number h (inr f) = of_old lanes u n t m l table number (only t m y h f.1)
      where
        of_old : (lanes : List LaneState) (u n t m : ℕ) (l : LaneState) → l.table ≡ u → l.number ≡ n → ((t ≡ u) × (m ≡ n)) ⊎ HasLane lanes t m → ((t ≡ l.table) × (m ≡ l.number)) ⊎ HasLane lanes t m
        of_old lanes u n t m l table number (inl o) = inl (o.0 ∙ sym table, o.1 ∙ sym number)
        of_old lanes u n t m l table number (inr o) = inr o

whole_if_clean : (l : LaneState) → AreClean l.files → AreWhole l.files
whole_if_clean l clean = λ b lt. (clean b lt).0

-- what the session has of an answer: these lanes, and what is held beside them
abbrev pub HasBoth : ℕ → List Noted → List LaneState → Held → Type 0
HasBoth k history lanes h = HasSealed k history lanes × HasBeside k history lanes h

-- the session has what was lent to it
lent_clean : (k m : ℕ) (old new : List Noted) (lanes : List LaneState) (u n : ℕ) (p : Place) (l : LaneState) → HasBoth k old lanes held.Nothing → is_held_by k p ≡ false → IsAt (entries_of old) u n p → Notes k m (entry.Lend u n) Nothing old new → IsGivenClean false old u n l → HasBoth k new lanes (held.Writes l)
lent_clean k m old new lanes u n p l has free there notes g =
    let mv = moved k m (entry.Lend u n) old new u n p (Out k) (λ t. refl) there notes in
    let none = free_none k old lanes u n p free there has.0 in (
      sealed_on k old new lanes u n p (Out k) mv none has.0,
      (handed k old new lanes u n p (Out k) l mv none (λ t i y h at. inr (has.1 t i y h at)) g.given.table g.given.number g.given.agrees, g.given.no_seal, whole_if_clean l g.clean),
    )

lent_dirty : (k m : ℕ) (old new : List Noted) (lanes : List LaneState) (u n : ℕ) (p : Place) (l : LaneState) → HasBoth k old lanes held.Nothing → is_held_by k p ≡ false → IsAt (entries_of old) u n p → Notes k m (entry.Sweep u n) Nothing old new → IsGiven false old u n l → HasBoth k new lanes (held.Sweeps l)
lent_dirty k m old new lanes u n p l has free there notes g =
    let mv = moved k m (entry.Sweep u n) old new u n p (Sweeping k) (λ t. refl) there notes in
    let none = free_none k old lanes u n p free there has.0 in (
      sealed_on k old new lanes u n p (Sweeping k) mv none has.0,
      (handed k old new lanes u n p (Sweeping k) l mv none (λ t i y h at. inr (has.1 t i y h at)) g.table g.number g.agrees, g.no_seal),
    )

clean_there : (k : ℕ) (old : List Noted) (t n : ℕ) → next_place (places_of old t) ≡ which.Clean n → (p : Place) × IsAt (entries_of old) t n p × (is_held_by k p ≡ false)
clean_there k old t n e = (let at = passes_there is_clean (places_of old t) n (next_place-Clean (places_of old t) n e).0 in (at.0, at.1, clean_free k at.0 at.2))

dirty_there : (k : ℕ) (old : List Noted) (t n : ℕ) → next_place (places_of old t) ≡ which.Dirty n → (p : Place) × IsAt (entries_of old) t n p × (is_held_by k p ≡ false)
dirty_there k old t n e = (let at = passes_there is_dirty (places_of old t) n (next_place-Dirty (places_of old t) n e).0.0 in (at.0, at.1, dirty_free k at.0 at.2))

unborn_there : (k : ℕ) (old : List Noted) (t n : ℕ) → next_place (places_of old t) ≡ which.Unborn n → (p : Place) × IsAt (entries_of old) t n p × (is_held_by k p ≡ false)
unborn_there k old t n e = (let at = passes_there is_unborn (places_of old t) n (next_place-Unborn (places_of old t) n e).0.0 in (at.0, at.1, unborn_free k at.0 at.2))

nothing_still : (k m : ℕ) (kind : EntryKind) (old new : List Noted) (lanes : List LaneState) → ((t : ℕ) → places_after t (pool (entries_of old) t) k kind ≡ pool (entries_of old) t) → HasBoth k old lanes held.Nothing → Notes k m kind Nothing old new → HasBoth k new lanes held.Nothing
nothing_still k m kind old new lanes stays has notes =
    let ks = quiet k m kind Nothing old new stays refl notes in
    (sealed_still k old new lanes ks has.0, no_other_still k old new lanes ks has.1)

-- nothing is left but the lanes beside it
all_home : (k m : ℕ) (old new : List Noted) (lanes : List LaneState) (place : Place) (l : LaneState) (clean : Bool) → HasSealed k old lanes → HasJust k old lanes place l → Notes k m (entry.Back l.table l.number clean) Nothing old new → HasBoth k new lanes held.Nothing
all_home k m old new lanes place l clean sealed has notes =
    let mv = moved k m (entry.Back l.table l.number clean) old new l.table l.number place (home clean) (λ t. refl) has.at notes in (
      sealed_on k old new lanes l.table l.number place (home clean) mv has.beside sealed,
      λ t n y h at. left k old lanes place l clean has t n y h (mv.found t n y at),
    )
  where
    left : (k : ℕ) (old : List Noted) (lanes : List LaneState) (place : Place) (l : LaneState) (clean : Bool) → HasJust k old lanes place l → (t n : ℕ) (y : Place) → is_held_by k y ≡ true
        → ((t ≡ l.table) × (n ≡ l.number) × (y ≡ home clean)) ⊎ (((t ≡ l.table) → (n ≡ l.number) → ⊥) × IsAt (entries_of old) t n y) → HasLane lanes t n
    left k old lanes place l clean has t n y h (inl f) = absurd (no_truth (is_held_by k (home clean)) (subst (λ q. is_held_by k q ≡ true) f.2 h) (home_free k clean))
    left k old lanes place l clean has t n y h (inr f) = other lanes l t n f.0 (has.only t n y h f.1)
      where
        other : (lanes : List LaneState) (l : LaneState) (t n : ℕ) → ((t ≡ l.table) → (n ≡ l.number) → ⊥) → ((t ≡ l.table) × (n ≡ l.number)) ⊎ HasLane lanes t n → HasLane lanes t n
        other lanes l t n d (inl o) = absurd (d o.0 o.1)
        other lanes l t n d (inr o) = o

-- what the session is sweeping is none of the lanes that it has to write
swept_none : (k : ℕ) (old : List Noted) (lanes : List LaneState) → HasBoth k old lanes held.Nothing → (t n : ℕ) (y : Place) → y ≡ Sweeping k → IsAt (entries_of old) t n y → ⊥
swept_none k old lanes has t n y is at =
    let now : IsAt (entries_of old) t n (Sweeping k) = subst (IsAt (entries_of old) t n) is at in
    let one = has.1 t n (Sweeping k) (holds_swept k) now in
    let l = lane_at lanes one.0 in
    let here : IsAt (entries_of old) t n (Out k) = subst (λ i. IsAt (entries_of old) t i (Out k)) one.3 (subst (λ u. IsAt (entries_of old) u l.number (Out k)) one.2 (has.0.at one.0 one.1)) in
    apart k (slice_get (pool (entries_of old) t) n) here now

all_committed : (k m : ℕ) (old new : List Noted) (deposit : Deposit) (lanes : List LaneState) → HasBoth k old lanes held.Nothing → Notes k m entry.Commit deposit old new → HasBoth k new [] held.Nothing
all_committed k m old new deposit lanes has notes =
    let x = noted k m entry.Commit deposit in
    let none : HasNoOther k (old ++ x ∷ []) [] = λ t n y h at. absurd (committed_none k old lanes has t n y h (subst (λ ps. slice_get ps n ≡ Some y) (pool_new old x t) at)) in
    (none_sealed k new, subst (λ (h : List Noted). HasNoOther k h []) (sym notes) none)
  where
    committed_none : (k : ℕ) (old : List Noted) (lanes : List LaneState) → HasBoth k old lanes held.Nothing → (t n : ℕ) (y : Place) → is_held_by k y ≡ true → slice_get (map (committed k) (pool (entries_of old) t)) n ≡ Some y → ⊥
    committed_none k old lanes has t n y h at =
        let f = found_mapped (committed k) (pool (entries_of old) t) n y at in
        swept_none k old lanes has t n f.0 (committed_held k f.0 (ap (is_held_by k) f.2 ∙ h)) f.1

adopted : (k m : ℕ) (old new : List Noted) (lanes : List LaneState) (l : LaneState) → HasBoth k old lanes (held.Sweeps l) → AreClean l.files → Notes k m (entry.Adopt l.table l.number) Nothing old new → HasBoth k new lanes (held.Writes l)
adopted k m old new lanes l has clean notes =
    let just = has.1.0 in
    let mv = moved k m (entry.Adopt l.table l.number) old new l.table l.number (Sweeping k) (Out k) (λ t. refl) just.at notes in (
      sealed_on k old new lanes l.table l.number (Sweeping k) (Out k) mv just.beside has.0,
      (handed k old new lanes l.table l.number (Sweeping k) (Out k) l mv just.beside just.only refl refl just.agrees, has.1.1, whole_if_clean l clean),
    )

module _ {F Z : Type 0} (nodes k m : ℕ) (old new : List Noted) (lanes : List LaneState) where
  lends_next : (t : ℕ) (w : Next) → next_place (places_of old t) ≡ w → HasBoth k old lanes held.Nothing → (r : Answer F Z) → LendsNext {F = F} {Z = Z} false nodes k m old new t w r → HasBoth k new lanes (held_of {F = F} {Z = Z} r)
  lends_next t (which.Clean n) e has (answer.Clean l) s = (let at = clean_there k old t n e in lent_clean k m old new lanes t n at.0 l has at.2 at.1 s.0 s.1)
  lends_next t (which.Dirty n) e has (answer.Sweep l) s = (let at = dirty_there k old t n e in lent_dirty k m old new lanes t n at.0 l has at.2 at.1 s.0 s.1)
  lends_next t (which.Unborn n) e has (answer.Fresh l) s = (let at = unborn_there k old t n e in lent_clean k m old new lanes t n at.0 l has at.2 at.1 s.0 s.1)
  lends_next t which.AllOut e has (answer.AllOut out) s = nothing_still k m (entry.Full t) old new lanes (λ u. refl) has s.0
  lends_next t (which.Clean n) e has answer.NoMemory s = subst (λ (h : List Noted). HasBoth k h lanes held.Nothing) (sym s) has
  lends_next t (which.Dirty n) e has answer.NoMemory s = subst (λ (h : List Noted). HasBoth k h lanes held.Nothing) (sym s) has
  lends_next t (which.Unborn n) e has answer.NoMemory s = subst (λ (h : List Noted). HasBoth k h lanes held.Nothing) (sym s) has
  lends_next t which.AllOut e has answer.NoMemory s = subst (λ (h : List Noted). HasBoth k h lanes held.Nothing) (sym s) has
  lends_next t _ e has _ s = absurd s

  pub lends : (t : ℕ) (r : Answer F Z) → HasBoth k old lanes held.Nothing → LendStep {F = F} {Z = Z} false nodes k m old new t r → HasBoth k new lanes (held_of {F = F} {Z = Z} r)
  lends t r has s = lends_next t (next_place (places_of old t)) refl has r s

  pub sweeps : (r : Answer F Z) → HasBoth k old lanes held.Nothing → SweepAnyStep {F = F} {Z = Z} false nodes k m old new r → HasBoth k new lanes (held_of {F = F} {Z = Z} r)
  sweeps (answer.Sweep l) has s =
      let first = IsLowest-position is_dirty (pool (entries_of old) l.table) l.number s.1.1 in
      let at = passes_there is_dirty (pool (entries_of old) l.table) l.number first.0 in
      lent_dirty k m old new lanes l.table l.number at.0 l has (dirty_free k at.0 at.2) at.1 s.0 s.2
  sweeps answer.Nothing has s = nothing_still k m entry.Idle old new lanes (λ u. refl) has s.0
  sweeps answer.NoMemory has s = subst (λ (h : List Noted). HasBoth k h lanes held.Nothing) (sym s) has
  sweeps _ has s = absurd s

  pub adopts : (l : LaneState) (r : Answer F Z) → HasBoth k old lanes (held.Sweeps l) → AreClean l.files → AdoptStep {F = F} {Z = Z} false nodes k m old new l r → HasBoth k new lanes (held_of {F = F} {Z = Z} r)
  adopts l (answer.Adopted one) has clean s = subst (λ (x : LaneState). HasBoth k new lanes (held.Writes x)) (sym s.1) (adopted k m old new lanes l has clean s.0)
  adopts l _ has clean s = absurd s

  pub backs : (place : Place) (l : LaneState) (r : Answer F Z) → HasSealed k old lanes → HasJust k old lanes place l → BackStep {F = F} {Z = Z} false nodes k m old new l r → HasBoth k new lanes (held_of {F = F} {Z = Z} r)
  backs place l answer.Done sealed has s = all_home k m old new lanes place l (are_clean l.files) sealed has s
  backs place l _ sealed has s = absurd s

  pub commits : (r : Answer F Z) → HasBoth k old lanes held.Nothing → CommitStep {F = F} {Z = Z} false nodes k m old new lanes r → HasBoth k new [] (held_of {F = F} {Z = Z} r)
  commits answer.Done has s = all_committed k m old new (Published (growths_of false lanes)) lanes has s
  commits _ has s = absurd s

-- what may be asked
pub may_lend : (k : ℕ) (old : List Noted) (lanes : List LaneState) (t : ℕ) → t < length (tables_left old) → HasNoOther k old lanes → has_table lanes t ≡ false → MayLend k old t
may_lend k old lanes t made has none = record { made = made; no_lane = none_any (is_held_by k) (pool (entries_of old) t) (λ n p h at. of_no_table lanes t n none (has t n p h at)) }

pub may_back : (k : ℕ) (old : List Noted) (lanes : List LaneState) (l : LaneState) → HasJust k old lanes (Out k) l ⊎ HasJust k old lanes (Sweeping k) l → HaveNoSeal l.files → MayBack false k old l
may_back k old lanes l (inl has) no_seal = record { held = inl has.at; agrees = has.agrees; no_seal = no_seal }
may_back k old lanes l (inr has) no_seal = record { held = inr has.at; agrees = has.agrees; no_seal = no_seal }

pub may_adopt : (k : ℕ) (old : List Noted) (lanes : List LaneState) (l : LaneState) → HasJust k old lanes (Sweeping k) l → has_table lanes l.table ≡ false → HaveNoSeal l.files → AreClean l.files → MayAdopt false k old l
may_adopt k old lanes l has none no_seal clean = record {
  swept = has.at;
  none_out = none_any (is_out_to k) (pool (entries_of old) l.table) (λ n p h at. no_out k old lanes l has none n p (out_held k p h) at);
  agrees = has.agrees;
  clean = clean;
  no_seal = no_seal;
}
  where
    out_twice : (k : ℕ) (old : List Noted) (lanes : List LaneState) (l : LaneState) → HasJust k old lanes (Sweeping k) l → has_table lanes l.table ≡ false → (n : ℕ) → IsAt (entries_of old) l.table n (Out k) → ((l.table ≡ l.table) × (n ≡ l.number)) ⊎ HasLane lanes l.table n → ⊥
    out_twice k old lanes l has none n at (inl o) = apart k (slice_get (pool (entries_of old) l.table) l.number) (subst (λ i. IsAt (entries_of old) l.table i (Out k)) o.1 at) has.at
    out_twice k old lanes l has none n at (inr o) = of_no_table lanes l.table n none o

    no_out : (k : ℕ) (old : List Noted) (lanes : List LaneState) (l : LaneState) → HasJust k old lanes (Sweeping k) l → has_table lanes l.table ≡ false → (n : ℕ) (p : Place) → (p ≡ Out k) × (is_held_by k p ≡ true) → IsAt (entries_of old) l.table n p → ⊥
    no_out k old lanes l has none n p h at = out_twice k old lanes l has none n (subst (IsAt (entries_of old) l.table n) h.0 at) (has.only l.table n p h.1 at)

commit_one : (k : ℕ) (old : List Noted) (lanes : List LaneState) (tables : ℕ) → tables ≤ length (tables_left old) → are_below lanes tables ≡ true → HasSealed k old lanes → (i : ℕ) → i < length lanes → MayCommitOne false false k old (lane_at lanes i)
commit_one k old lanes tables made below has i lt = record {
  made = (let one : (lane_at lanes i).table < tables = of_made lanes tables below i lt in omega (arith, one, made));
  out = has.at i lt;
  agrees = has.agrees i lt;
  sealed = has.sealed i lt;
  blocks = λ told b lt. absurd (cc);
}

pub may_commit : (k : ℕ) (old : List Noted) (lanes : List LaneState) (tables : ℕ) → tables ≤ length (tables_left old) → 0 < length lanes → are_below lanes tables ≡ true → HasBoth k old lanes held.Nothing → MayCommit false false k old lanes
may_commit k old lanes tables made some below has = record {
  some = some;
  each = λ i lt. commit_one k old lanes tables made below has.0 i lt;
  once = has.0.once;
  all = λ t n at. has.1 t n (Out k) (holds_out k) at;
  none_swept = λ t. none_any (is_swept_by k) (pool (entries_of old) t) (λ n p h at. swept_none k old lanes has t n p (swept_held k p h).0 at);
}
