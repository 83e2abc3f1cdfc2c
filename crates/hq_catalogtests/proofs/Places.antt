-- Places of lanes, one of which is set, or those of a session cleaned.
use Rattle.std.proofs.Common.{◌≡◌, ◌≢◌, ◌⊎◌, ℕ, zero, suc, ◌==◌, ◌||◌, eqb, Bool, true, false, cond, List, [], ◌∷◌, map, Option, Some, slice_get, slice_set, refl, sym, ◌∙◌, ap, subst, inl, inr, eq-eqb}
use Rattle.std.specs.List.{list_any}
use Rattle.std.proofs.lemmas.Bool.{eqb-true}
use Rattle.hq_log.specs.declared.place.Place.{Place}
use Rattle.hq_log.specs.declared.place.Place.TheVariants.{Unborn, Clean, Dirty, Out, Sweeping}
use Rattle.hq_log.specs.Places.{is_clean, is_dirty, is_unborn, is_out_to, is_swept_by, is_held_by, passes_at}
use Rattle.hq_log.specs.Pools.{home, committed}
use Rattle.hq_catalog.proofs.Seen.{is_same}

pub no_truth : (b : Bool) → b ≡ true → b ≡ false → ⊥
no_truth b t f = (let e : true ≡ false = sym t ∙ f in cc)

pub held_is : (k : ℕ) (p : Place) → is_held_by k p ≡ true → (p ≡ Out k) ⊎ (p ≡ Sweeping k)
held_is k Unborn e = absurd (cc)
held_is k Clean e = absurd (cc)
held_is k Dirty e = absurd (cc)
held_is k (Out j) e = inl (ap Out (sym (eqb-true k j e)))
held_is k (Sweeping j) e = inr (ap Sweeping (sym (eqb-true k j e)))

pub out_held : (k : ℕ) (p : Place) → is_out_to k p ≡ true → (p ≡ Out k) × (is_held_by k p ≡ true)
out_held k Unborn e = absurd (cc)
out_held k Clean e = absurd (cc)
out_held k Dirty e = absurd (cc)
out_held k (Out j) e = (ap Out (sym (eqb-true k j e)), e)
out_held k (Sweeping j) e = absurd (cc)

pub swept_held : (k : ℕ) (p : Place) → is_swept_by k p ≡ true → (p ≡ Sweeping k) × (is_held_by k p ≡ true)
swept_held k Unborn e = absurd (cc)
swept_held k Clean e = absurd (cc)
swept_held k Dirty e = absurd (cc)
swept_held k (Out j) e = absurd (cc)
swept_held k (Sweeping j) e = (ap Sweeping (sym (eqb-true k j e)), e)

pub holds_out : (k : ℕ) → is_held_by k (Out k) ≡ true
holds_out k = is_same k

pub holds_swept : (k : ℕ) → is_held_by k (Sweeping k) ≡ true
holds_swept k = is_same k

pub home_free : (k : ℕ) (clean : Bool) → is_held_by k (home clean) ≡ false
home_free k true = refl
home_free k false = refl

-- a place that is at home is nobody's
pub clean_free : (k : ℕ) (p : Place) → is_clean p ≡ true → is_held_by k p ≡ false
clean_free k Unborn e = refl
clean_free k Clean e = refl
clean_free k Dirty e = refl
clean_free k (Out j) e = absurd (cc)
clean_free k (Sweeping j) e = absurd (cc)

pub dirty_free : (k : ℕ) (p : Place) → is_dirty p ≡ true → is_held_by k p ≡ false
dirty_free k Unborn e = refl
dirty_free k Clean e = refl
dirty_free k Dirty e = refl
dirty_free k (Out j) e = absurd (cc)
dirty_free k (Sweeping j) e = absurd (cc)

pub unborn_free : (k : ℕ) (p : Place) → is_unborn p ≡ true → is_held_by k p ≡ false
unborn_free k Unborn e = refl
unborn_free k Clean e = refl
unborn_free k Dirty e = refl
unborn_free k (Out j) e = absurd (cc)
unborn_free k (Sweeping j) e = absurd (cc)

pub apart : (k : ℕ) (o : Option Place) → o ≡ Some (Out k) → o ≡ Some (Sweeping k) → ⊥
apart k o a b = (let e : Some (Out k) ≡ Some (Sweeping k) = sym a ∙ b in cc)

false_unless : (b : Bool) → (b ≡ true → ⊥) → b ≡ false
false_unless true h = absurd (h refl)
false_unless false h = refl

-- no place passes
pub none_any : (test : Place → Bool) (ps : List Place) → ((n : ℕ) (p : Place) → test p ≡ true → slice_get ps n ≡ Some p → ⊥) → list_any test ps ≡ false
none_any test [] h = refl
none_any test (p ∷ ps) h = ap (λ b. b || list_any test ps) (false_unless (test p) (λ e. h zero p e refl)) ∙ none_any test ps (λ n q e at. h (suc n) q e at)

-- a place that passes is there
pub passes_there : (test : Place → Bool) (ps : List Place) (n : ℕ) → passes_at test ps n ≡ true → (p : Place) × (slice_get ps n ≡ Some p) × (test p ≡ true)
passes_there test [] n e = absurd (cc)
passes_there test (p ∷ ps) zero e = (p, refl, e)
passes_there test (p ∷ ps) (suc n) e = passes_there test ps n e

get_set_same : (ps : List Place) (n : ℕ) (p q : Place) → slice_get ps n ≡ Some p → slice_get (slice_set ps n q) n ≡ Some q
get_set_same [] n p q e = absurd (cc)
get_set_same (x ∷ ps) zero p q e = refl
get_set_same (x ∷ ps) (suc n) p q e = get_set_same ps n p q e

get_set_other : (ps : List Place) (n m : ℕ) (q : Place) → m ≢ n → slice_get (slice_set ps n q) m ≡ slice_get ps m
get_set_other [] zero m q d = refl
get_set_other [] (suc n) m q d = refl
get_set_other (x ∷ ps) zero zero q d = absurd (d refl)
get_set_other (x ∷ ps) zero (suc m) q d = refl
get_set_other (x ∷ ps) (suc n) zero q d = refl
get_set_other (x ∷ ps) (suc n) (suc m) q d = get_set_other ps n m q (λ e. d (ap suc e))

-- the place that is set
pub own_set : (u n : ℕ) (p q : Place) (ps : List Place) → slice_get ps n ≡ Some p → slice_get (cond (eqb u u) (slice_set ps n q) ps) n ≡ Some q
own_set u n p q ps e = ap (λ b. slice_get (cond b (slice_set ps n q) ps) n) (is_same u) ∙ get_set_same ps n p q e

-- and any other
kept_lane : (t u n m : ℕ) (q x : Place) (ps : List Place) (b : Bool) → eqb t u ≡ b → ((t ≡ u) → (m ≡ n) → ⊥) → slice_get ps m ≡ Some x → slice_get (cond b (slice_set ps n q) ps) m ≡ Some x
kept_lane t u n m q x ps true e other at = get_set_other ps n m q (λ lane. other (eqb-true t u e) lane) ∙ at
kept_lane t u n m q x ps false e other at = at

pub kept_set : (t u n m : ℕ) (q x : Place) (ps : List Place) → ((t ≡ u) → (m ≡ n) → ⊥) → slice_get ps m ≡ Some x → slice_get (cond (eqb t u) (slice_set ps n q) ps) m ≡ Some x
kept_set t u n m q x ps other at = kept_lane t u n m q x ps (eqb t u) refl other at

-- what a place of table t is once lane n of table u is set
abbrev pub IsFound : (t u n m : ℕ) (q x : Place) → List Place → Type 0
IsFound t u n m q x ps = ((t ≡ u) × (m ≡ n) × (x ≡ q)) ⊎ (((t ≡ u) → (m ≡ n) → ⊥) × (slice_get ps m ≡ Some x))

by_lane : (t u n m : ℕ) (p q x : Place) (ps : List Place) (b : Bool) → eqb m n ≡ b → t ≡ u → slice_get ps n ≡ Some p → slice_get (slice_set ps n q) m ≡ Some x → IsFound t u n m q x ps
by_lane t u n m p q x ps true e same there at =
    let lane : m ≡ n = eqb-true m n e in
    let one : Some q ≡ Some x = sym (get_set_same ps n p q there) ∙ subst (λ i. slice_get (slice_set ps n q) i ≡ Some x) lane at in
    let place : x ≡ q = cc in
    inl (same, lane, place)
by_lane t u n m p q x ps false e same there at =
    let other : m ≢ n = λ lane. no_truth (eqb m n) (eq-eqb m n lane) e in
    inr (λ table lane. other lane, sym (get_set_other ps n m q other) ∙ at)

by_table : (t u n m : ℕ) (p q x : Place) (ps : List Place) (b : Bool) → eqb t u ≡ b → (t ≡ u → slice_get ps n ≡ Some p) → slice_get (cond b (slice_set ps n q) ps) m ≡ Some x → IsFound t u n m q x ps
by_table t u n m p q x ps true e there at = by_lane t u n m p q x ps (eqb m n) refl (eqb-true t u e) (there (eqb-true t u e)) at
by_table t u n m p q x ps false e there at = inr (λ table lane. no_truth (eqb t u) (eq-eqb t u table) e, at)

pub found_after : (t u n m : ℕ) (p q x : Place) (ps : List Place) → (t ≡ u → slice_get ps n ≡ Some p) → slice_get (cond (eqb t u) (slice_set ps n q) ps) m ≡ Some x → IsFound t u n m q x ps
found_after t u n m p q x ps there at = by_table t u n m p q x ps (eqb t u) refl there at

-- what a place was of which another was made
pub found_mapped : (f : Place → Place) (ps : List Place) (m : ℕ) (y : Place) → slice_get (map f ps) m ≡ Some y → (z : Place) × (slice_get ps m ≡ Some z) × (f z ≡ y)
found_mapped f [] m y e = absurd (cc)
found_mapped f (p ∷ ps) zero y e = (let is : f p ≡ y = cc in (p, refl, is))
found_mapped f (p ∷ ps) (suc m) y e = found_mapped f ps m y e

held_if_not_own : (k j : ℕ) (b : Bool) → (k == j) ≡ b → is_held_by k (cond b Clean (Out j)) ≡ true → ⊥
held_if_not_own k j true e h = (cc)
held_if_not_own k j false e h = no_truth (k == j) h e

-- after a commit the session has just what it sweeps
pub committed_held : (k : ℕ) (z : Place) → is_held_by k (committed k z) ≡ true → z ≡ Sweeping k
committed_held k Unborn e = absurd (cc)
committed_held k Clean e = absurd (cc)
committed_held k Dirty e = absurd (cc)
committed_held k (Out j) e = absurd (held_if_not_own k j (k == j) refl e)
committed_held k (Sweeping j) e = ap Sweeping (sym (eqb-true k j e))
