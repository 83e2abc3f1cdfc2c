-- What all sessions have, once one of them was answered or has worked on its lane.
use Rattle.std.proofs.Common.{◌≡◌, ◌≢◌, ℕ, zero, suc, ◌≤◌, eqb, Bool, true, false, List, [], ◌∷◌, ◌++◌, Some, length, replicate, slice_get, slice_set, refl, sym, ◌∙◌, ap, subst, arith, eq-eqb}
use Rattle.std.proofs.lemmas.Bool.{eqb-true}
use Rattle.std.proofs.lemmas.List.{length-replicate}
use Rattle.hq_value.specs.declared.entry.Entry.{Entry}
use Rattle.hq_log.specs.declared.place.Place.{Place}
use Rattle.hq_log.specs.declared.place.Place.TheVariants.{Unborn}
use Rattle.hq_log.specs.Places.{is_held_by}
use Rattle.hq_lane.specs.Lanes.{LaneState}
use Rattle.hq_history.specs.declared.noted.Noted.{Noted}
use Rattle.hq_history.specs.Deposits.{tables_left}
use Rattle.hq_catalog.specs.State.{CatState}
use Rattle.hq_catalog.specs.History.{history, history_from}
use Rattle.hq_catalogtests.specs.declared.hand.Hand.{Hand}
use Rattle.hq_catalogtests.specs.declared.hand.Held.{Held}
use Rattle.hq_catalogtests.specs.declared.hand.Held.TheVariants as held
use Rattle.hq_catalogtests.specs.Turns.{AreEmpty, HasSealed, HasNoOther, HasBeside, Has, HasTurned, IsWorld}
use Rattle.hq_catalogtests.proofs.Hands.{none_sealed}
use Rattle.hq_catalogtests.proofs.Places.{no_truth}
use Rattle.hq_catalogtests.proofs.Kept.{has_still, others_same}

-- the hand of the session, and those of the others
set_same : (hands : List Hand) (k : ℕ) (h x : Hand) → slice_get (slice_set hands k h) k ≡ Some x → x ≡ h
set_same [] k h x e = absurd (cc)
set_same (y ∷ ys) zero h x e = (let is : x ≡ h = cc in is)
set_same (y ∷ ys) (suc k) h x e = set_same ys k h x e

set_other : (hands : List Hand) (k j : ℕ) (h : Hand) → j ≢ k → slice_get (slice_set hands k h) j ≡ slice_get hands j
set_other [] k j h d = refl
set_other (y ∷ ys) zero zero h d = absurd (d refl)
set_other (y ∷ ys) zero (suc j) h d = refl
set_other (y ∷ ys) (suc k) zero h d = refl
set_other (y ∷ ys) (suc k) (suc j) h d = set_other ys k j h (λ e. d (ap suc e))

one_on : (old new : List Noted) (hands : List Hand) (k tables : ℕ) (none h : Hand) → IsWorld old hands tables → HasTurned k old new h → (j : ℕ) (x : Hand) (b : Bool) → eqb j k ≡ b → slice_get (slice_set (slice_set hands k none) k h) j ≡ Some x → Has j new x
one_on old new hands k tables none h w turned j x true e at =
    let is : j ≡ k = eqb-true j k e in
    let own : x ≡ h = set_same (slice_set hands k none) k h x (subst (λ i. slice_get (slice_set (slice_set hands k none) k h) i ≡ Some x) is at) in
    subst (λ i. Has i new x) (sym is) (subst (λ (y : Hand). Has k new y) (sym own) turned.has)
one_on old new hands k tables none h w turned j x false e at =
    let d : j ≢ k = λ is. no_truth (eqb j k) (eq-eqb j k is) e in
    let had : slice_get hands j ≡ Some x = sym (set_other (slice_set hands k none) k j h d ∙ set_other hands k j none d) ∙ at in
    has_still j old new x (turned.keep.others j d) (w.has j x had)

-- all hands, behind an answer
pub world_on : (old new : List Noted) (hands taken after : List Hand) (k tables made : ℕ) (none h : Hand) → IsWorld old hands tables → HasTurned k old new h → taken ≡ slice_set hands k none → after ≡ slice_set taken k h → made ≤ length (tables_left new) → IsWorld new after made
world_on old new hands taken after k tables made none h w turned out put le =
    let is : after ≡ slice_set (slice_set hands k none) k h = put ∙ ap (λ (xs : List Hand). slice_set xs k h) out in
    record {
      has = λ j x at. one_on old new hands k tables none h w turned j x (eqb j k) refl (subst (λ (xs : List Hand). slice_get xs j ≡ Some x) is at);
      made = le;
    }

-- and behind what a session did to its lane
pub world_same : (history : List Noted) (hands taken after : List Hand) (k tables : ℕ) (none h : Hand) → IsWorld history hands tables → Has k history h → taken ≡ slice_set hands k none → after ≡ slice_set taken k h → IsWorld history after tables
world_same history hands taken after k tables none h w has out put =
    world_on history history hands taken after k tables tables none h w (record { keep = others_same k history; has = has }) out put w.made

-- one empty hand more
pub one_more : (hands : List Hand) (one : Hand) → AreEmpty hands → (one.sealed.items ≡ []) × (one.held ≡ held.Nothing) → AreEmpty (hands ++ one ∷ [])
one_more hands one none is = λ k hand at. more hands one none is k hand at
  where
    more : (hands : List Hand) (one : Hand) → AreEmpty hands → (one.sealed.items ≡ []) × (one.held ≡ held.Nothing) → (k : ℕ) (hand : Hand) → slice_get (hands ++ one ∷ []) k ≡ Some hand → (hand.sealed.items ≡ []) × (hand.held ≡ held.Nothing)
    more [] one none is zero hand at = (let own : hand ≡ one = cc in (ap (λ (h : Hand). h.sealed.items) own ∙ is.0, ap (λ (h : Hand). h.held) own ∙ is.1))
    more [] one none is (suc k) hand at = absurd (cc)
    more (x ∷ xs) one none is zero hand at = none zero hand at
    more (x ∷ xs) one none is (suc k) hand at = more xs one (λ i h e. none (suc i) h e) is k hand at

unborn_at : (m n : ℕ) (p : Place) → slice_get (replicate m Unborn) n ≡ Some p → p ≡ Unborn
unborn_at zero n p e = absurd (cc)
unborn_at (suc m) zero p e = (let is : p ≡ Unborn = cc in is)
unborn_at (suc m) (suc n) p e = unborn_at m n p e

nothing_yet : (k : ℕ) → HasNoOther k [] []
nothing_yet k = λ t n p h at. absurd (no_truth (is_held_by k p) h (ap (is_held_by k) (unborn_at 64 n p at)))

has_none : (k : ℕ) (hand : Hand) → (hand.sealed.items ≡ []) × (hand.held ≡ held.Nothing) → Has k [] hand
has_none k hand is = record {
  sealed = subst (λ (ls : List LaneState). HasSealed k [] ls) (sym is.0) (none_sealed k []);
  held = subst (λ (ls : List LaneState). HasBeside k [] ls hand.held) (sym is.0) (subst (λ (h : Held). HasBeside k [] [] h) (sym is.1) (nothing_yet k));
}

none_noted : (c : CatState) → c.log ≡ [] → history false c ≡ []
none_noted c e = ap (λ (log : List Entry). history_from false c 0 log) e

-- a catalogue that was just made
pub world_new : (nodes : ℕ) (c : CatState) (hands : List Hand) → c ≡ record { marks = replicate nodes true; tables = []; log = []; changes = []; grown = [] } → AreEmpty hands → IsWorld (history false c) hands 0 × (nodes ≡ length c.marks)
world_new nodes c hands new none =
    let empty : history false c ≡ [] = none_noted c (ap (λ (x : CatState). x.log) new) in (
      subst (λ (h : List Noted). IsWorld h hands 0) (sym empty) (record { has = λ k hand at. has_none k hand (none k hand at); made = omega arith }),
      sym (ap (λ (x : CatState). length x.marks) new ∙ length-replicate nodes true),
    )
