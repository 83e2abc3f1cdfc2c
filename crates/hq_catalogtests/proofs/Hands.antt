-- The lanes that a session has sealed: they stay as others are answered, and one more joins them.
use Rattle.std.proofs.Common.{◌≡◌, ◌≢◌, ◌⊎◌, ℕ, zero, suc, ◌<◌, ◌==◌, ◌&&◌, ◌||◌, Bool, true, false, List, [], ◌∷◌, ◌++◌, length, nat_lt, refl, sym, ◌∙◌, ap, subst, arith, inl, inr}
use Rattle.std.specs.List.{list_all, list_any}
use Rattle.std.proofs.lemmas.Bool.{eqb-true, ltb-true}
use Rattle.hq_log.specs.declared.place.Place.{Place}
use Rattle.hq_log.specs.declared.place.Place.TheVariants.{Out}
use Rattle.hq_log.specs.Places.{is_held_by}
use Rattle.hq_log.specs.Legal.{IsAt}
use Rattle.hq_lane.specs.Lanes.{LaneState, AreSealed}
use Rattle.hq_history.specs.declared.noted.Noted.{Noted}
use Rattle.hq_history.specs.History.{entries_of}
use Rattle.hq_catalog.specs.Lanes.{Agrees}
use Rattle.hq_catalog.specs.Asks.{HasLane, lane_at}
use Rattle.hq_catalog.proofs.Seen.{is_same}
use Rattle.hq_catalogtests.specs.Turns.{Keeps, HasSealed, HasNoOther, HasJust, has_table, are_below}
use Rattle.hq_catalogtests.proofs.Places.{no_truth, holds_out}

pub none_sealed : (k : ℕ) (history : List Noted) → HasSealed k history []
none_sealed k history = record {
  at = λ i lt. absurd (omega (arith, lt));
  agrees = λ i lt. absurd (omega (arith, lt));
  sealed = λ i lt. absurd (omega (arith, lt));
  once = λ i j below lt. absurd (omega (arith, lt));
}

-- no lane passes
or_right : (b c : Bool) → (b || c) ≡ false → c ≡ false
or_right true c e = absurd (cc)
or_right false c e = e

or_left : (b c : Bool) → (b || c) ≡ false → b ≡ false
or_left true c e = absurd (cc)
or_left false c e = refl

and_right : (b c : Bool) → (b && c) ≡ true → c ≡ true
and_right true c e = e
and_right false c e = absurd (cc)

and_left : (b c : Bool) → (b && c) ≡ true → b ≡ true
and_left true c e = refl
and_left false c e = absurd (cc)

none_at : (test : LaneState → Bool) (lanes : List LaneState) → list_any test lanes ≡ false → (i : ℕ) → i < length lanes → test (lane_at lanes i) ≡ false
none_at test [] e i lt = absurd (omega (arith, lt))
none_at test (l ∷ ls) e zero lt = or_left (test l) (list_any test ls) e
none_at test (l ∷ ls) e (suc i) lt = none_at test ls (or_right (test l) (list_any test ls) e) i (omega (arith, lt))

all_at : (test : LaneState → Bool) (lanes : List LaneState) → list_all test lanes ≡ true → (i : ℕ) → i < length lanes → test (lane_at lanes i) ≡ true
all_at test [] e i lt = absurd (omega (arith, lt))
all_at test (l ∷ ls) e zero lt = and_left (test l) (list_all test ls) e
all_at test (l ∷ ls) e (suc i) lt = all_at test ls (and_right (test l) (list_all test ls) e) i (omega (arith, lt))

pub some_lane : (lanes : List LaneState) (n : ℕ) → length lanes ≡ n → (n == 0) ≡ false → 0 < length lanes
some_lane lanes zero len e = absurd (no_truth (0 == 0) (is_same 0) e)
some_lane lanes (suc n) len e = omega (arith, len)

-- none of them is of the table
pub of_no_table : (lanes : List LaneState) (t n : ℕ) → has_table lanes t ≡ false → HasLane lanes t n → ⊥
of_no_table lanes t n none one =
    let l = lane_at lanes one.0 in
    let other : (l.table == t) ≡ false = none_at (λ (x : LaneState). x.table == t) lanes none one.0 one.1 in
    no_truth (l.table == t) (subst (λ u. (u == t) ≡ true) (sym one.2) (is_same t)) other

-- each of them is of a table that is made
pub of_made : (lanes : List LaneState) (tables : ℕ) → are_below lanes tables ≡ true → (i : ℕ) → i < length lanes → (lane_at lanes i).table < tables
of_made lanes tables below i lt = ltb-true (lane_at lanes i).table tables (all_at (λ (x : LaneState). nat_lt x.table tables) lanes below i lt)

pub agrees_still : (k : ℕ) (old new : List Noted) (place : Place) (l : LaneState) → is_held_by k place ≡ true → Keeps k old new → IsAt (entries_of old) l.table l.number place → Agrees false old l → Agrees false new l
agrees_still k old new place l holds ks at a = record {
  base = λ b lt. a.base b lt ∙ sym (ks.lengths l.table l.number place holds at b);
  bytes = λ told b lt. absurd (cc);
}

-- the session has what it had
pub sealed_still : (k : ℕ) (old new : List Noted) (lanes : List LaneState) → Keeps k old new → HasSealed k old lanes → HasSealed k new lanes
sealed_still k old new lanes ks has = record {
  at = λ i lt. ks.there (lane_at lanes i).table (lane_at lanes i).number (Out k) (holds_out k) (has.at i lt);
  agrees = λ i lt. agrees_still k old new (Out k) (lane_at lanes i) (holds_out k) ks (has.at i lt) (has.agrees i lt);
  sealed = has.sealed;
  once = has.once;
}

pub no_other_still : (k : ℕ) (old new : List Noted) (lanes : List LaneState) → Keeps k old new → HasNoOther k old lanes → HasNoOther k new lanes
no_other_still k old new lanes ks has = λ t n p h at. has t n p h (ks.only t n p h at)

-- one lane more
pub at_first : (ls : List LaneState) (l : LaneState) (i : ℕ) → i < length ls → lane_at (ls ++ l ∷ []) i ≡ lane_at ls i
at_first [] l i lt = absurd (omega (arith, lt))
at_first (x ∷ xs) l zero lt = refl
at_first (x ∷ xs) l (suc i) lt = at_first xs l i (omega (arith, lt))

pub at_last : (ls : List LaneState) (l : LaneState) → lane_at (ls ++ l ∷ []) (length ls) ≡ l
at_last [] l = refl
at_last (x ∷ xs) l = at_last xs l

pub one_longer : (ls : List LaneState) (l : LaneState) → length (ls ++ l ∷ []) ≡ suc (length ls)
one_longer [] l = refl
one_longer (x ∷ xs) l = ap suc (one_longer xs l)

below_or_last : (n i : ℕ) → i < suc n → (i < n) ⊎ (i ≡ n)
below_or_last zero zero lt = inr refl
below_or_last zero (suc i) lt = absurd (omega (arith, lt))
below_or_last (suc n) zero lt = inl (omega arith)
below_or_last (suc n) (suc i) lt = up n i (below_or_last n i (omega (arith, lt)))
  where
    up : (n i : ℕ) → (i < n) ⊎ (i ≡ n) → (suc i < suc n) ⊎ (suc i ≡ suc n)
    up n i (inl l) = inl (omega (arith, l))
    up n i (inr e) = inr (ap suc e)

-- what holds of each lane and of the last holds of all
pub each_and_last : (P : LaneState → Type 0) (ls : List LaneState) (l : LaneState) → ((i : ℕ) → i < length ls → P (lane_at ls i)) → P l → (i : ℕ) → i < length (ls ++ l ∷ []) → P (lane_at (ls ++ l ∷ []) i)
each_and_last P ls l each last i lt = by P ls l each last i (below_or_last (length ls) i (omega (arith, lt, one_longer ls l)))
  where
    by : (P : LaneState → Type 0) (ls : List LaneState) (l : LaneState) → ((i : ℕ) → i < length ls → P (lane_at ls i)) → P l → (i : ℕ) → (i < length ls) ⊎ (i ≡ length ls) → P (lane_at (ls ++ l ∷ []) i)
    by P ls l each last i (inl b) = subst P (sym (at_first ls l i b)) (each i b)
    by P ls l each last i (inr e) = subst P (sym (ap (lane_at (ls ++ l ∷ [])) e ∙ at_last ls l)) last

-- two places that are apart
abbrev pub AreApart : LaneState → LaneState → Type 0
AreApart a b = (a.table ≢ b.table) ⊎ (a.number ≢ b.number)

-- those before are among those with one more, and so is that one
pub has_first : (ls : List LaneState) (l : LaneState) (t n : ℕ) → HasLane ls t n → HasLane (ls ++ l ∷ []) t n
has_first ls l t n one =
    let is = at_first ls l one.0 one.1 in (
      one.0,
      omega (arith, one.1, one_longer ls l),
      ap (λ (x : LaneState). x.table) is ∙ one.2,
      ap (λ (x : LaneState). x.number) is ∙ one.3,
    )

pub has_last : (ls : List LaneState) (l : LaneState) → HasLane (ls ++ l ∷ []) l.table l.number
has_last ls l = (length ls, omega (arith, one_longer ls l), ap (λ (x : LaneState). x.table) (at_last ls l), ap (λ (x : LaneState). x.number) (at_last ls l))

-- a lane that is none of these is apart from each
pub none_apart : (ls : List LaneState) (l : LaneState) → (HasLane ls l.table l.number → ⊥) → (i : ℕ) → i < length ls → AreApart (lane_at ls i) l
none_apart ls l none i lt = by ls l none i lt ((lane_at ls i).table == l.table) refl
  where
    by : (ls : List LaneState) (l : LaneState) → (HasLane ls l.table l.number → ⊥) → (i : ℕ) → i < length ls → (b : Bool) → ((lane_at ls i).table == l.table) ≡ b → AreApart (lane_at ls i) l
    by ls l none i lt true e = inr (λ number. none (i, lt, eqb-true (lane_at ls i).table l.table e, number))
    by ls l none i lt false e = inl (λ same. no_truth ((lane_at ls i).table == l.table) (subst (λ u. (u == l.table) ≡ true) (sym same) (is_same l.table)) e)

-- a lane that the session has sealed joins them
pub sealed_more : (k : ℕ) (history : List Noted) (ls : List LaneState) (l : LaneState) → HasSealed k history ls → HasJust k history ls (Out k) l → AreSealed false false l.files → HasSealed k history (ls ++ l ∷ [])
sealed_more k history ls l has just sealed = record {
  at = each_and_last (λ x. IsAt (entries_of history) x.table x.number (Out k)) ls l has.at just.at;
  agrees = each_and_last (λ x. Agrees false history x) ls l has.agrees just.agrees;
  sealed = each_and_last (λ x. AreSealed false false x.files) ls l has.sealed sealed;
  once = λ i j below lt. once_more k history ls l has just i j below (below_or_last (length ls) j (omega (arith, lt, one_longer ls l)));
}
  where
    once_more : (k : ℕ) (history : List Noted) (ls : List LaneState) (l : LaneState) → HasSealed k history ls → HasJust k history ls (Out k) l → (i j : ℕ) → i < j → (j < length ls) ⊎ (j ≡ length ls) → AreApart (lane_at (ls ++ l ∷ []) i) (lane_at (ls ++ l ∷ []) j)
    once_more k history ls l has just i j below (inl b) =
        let first : i < length ls = omega (arith, below, b) in
        subst (λ (x : LaneState). AreApart x (lane_at (ls ++ l ∷ []) j)) (sym (at_first ls l i first)) (subst (AreApart (lane_at ls i)) (sym (at_first ls l j b)) (has.once i j below b))
    once_more k history ls l has just i j below (inr e) =
        let first : i < length ls = omega (arith, below, e) in
        let last : lane_at (ls ++ l ∷ []) j ≡ l = ap (lane_at (ls ++ l ∷ [])) e ∙ at_last ls l in
        subst (λ (x : LaneState). AreApart x (lane_at (ls ++ l ∷ []) j)) (sym (at_first ls l i first)) (subst (AreApart (lane_at ls i)) (sym last) (none_apart ls l just.beside i first))

pub no_other_more : (k : ℕ) (history : List Noted) (ls : List LaneState) (l : LaneState) → HasJust k history ls (Out k) l → HasNoOther k history (ls ++ l ∷ [])
no_other_more k history ls l just = λ t n p h at. among ls l t n (just.only t n p h at)
  where
    among : (ls : List LaneState) (l : LaneState) (t n : ℕ) → ((t ≡ l.table) × (n ≡ l.number)) ⊎ HasLane ls t n → HasLane (ls ++ l ∷ []) t n
    among ls l t n (inl o) = (let last = has_last ls l in (last.0, last.1, last.2 ∙ sym o.0, last.3 ∙ sym o.1))
    among ls l t n (inr o) = has_first ls l t n o
