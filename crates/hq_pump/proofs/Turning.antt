-- Turns of an exchange over its streams, one after another.
use Rattle.std.proofs.Common.{◌≡◌, ℕ, zero, suc, ◌+◌, ◌*◌, ◌<◌, ◌≤◌, Bool, true, false, ◌&&◌, cond, ltb, List, [], ◌∷◌, ◌++◌, length, get_or, take, drop, map, Option, Some, None, refl, sym, ap, subst, ◌∙◌, arith, inl, inr}
use Rattle.std.specs.Prelude.{slice_get, slice_set, position}
use Rattle.std.specs.List.{list_all, position_from, position_or_len}
use Rattle.std.proofs.lemmas.Iterator.Adapters.{position_from-zero}
use Rattle.std.proofs.lemmas.Bool.{and_parts, cases_lt, ltb-true}
use Rattle.std.proofs.lemmas.List.Quantifiers.{position-Some}
use Rattle.hq_link.specs.declared.datagram.Datagram.{Datagram}
use Rattle.hq_link.specs.declared.link.LinkFault.{LinkFault}
use Rattle.hq_link.specs.Link.{LinkState}
use Rattle.hq_send.specs.Sending.{due_now}
use Rattle.hq_pump.specs.declared.lane.Lane.{Lane}
use Rattle.hq_pump.specs.Exchange.{Exchange, Run, IsItsOwn, IsNobodys, is_from, is_done, asked_again}
use Rattle.hq_pump.specs.Pumping.{at, StandsAt, moved, AreIdle, stream_left, streams_left, again_weight, link_left, work_left, place_in, all_done}
use Rattle.hq_pump.proofs.Steps.{joined}
use Rattle.hq_pump.proofs.Safety.{get_set_other}

pub place_read : {A : Type 0} (xs : List A) (i : ℕ) (x : A) → i < length xs → x ≡ get_or xs i x → slice_get xs i ≡ Some x
place_read [] i x lt e = absurd (omega (arith, lt))
place_read (y ∷ xs) zero x lt e = ap Some (sym e)
place_read (y ∷ xs) (suc i) x lt e = place_read xs i x (omega (arith, lt)) e

-- a stream more has done its part
pub one_more_lane : (lanes now : List Lane) (old link new : LinkState) (i : ℕ) (lane left : Lane) (base : ℕ) (taken : ℕ → List ℕ) (fault : Option LinkFault) → Run (at lanes old base taken None) (at now link base taken None) → slice_get now i ≡ Some lane → ((s : Exchange) (j : ℕ) → StandsAt s j lane link → Run s (moved s j left new fault)) → Run (at lanes old base taken None) (at (slice_set now i left) new base taken fault)
one_more_lane lanes now old link new i lane left base taken fault first there second =
    joined (at lanes old base taken None) (at now link base taken None) (at (slice_set now i left) new base taken fault) first
    (second (at now link base taken None) i (record { lane_is = there; link_is = refl; owed = refl; whole = refl }))

pub idle_more : (lanes : List Lane) (i : ℕ) (left : Lane) → AreIdle lanes i → due_now left.sender ≡ None → AreIdle (slice_set lanes i left) (i + 1)
idle_more lanes i left idle none j z lt e = elim (get_set_other lanes i j left z e) [
  | inl p ↦ subst (λ (l : Lane). due_now l.sender ≡ None) p.1 none
  | inr h ↦ idle j z (elim (cases_lt j i) [ inl below ↦ below | inr above ↦ absurd (h.1 (omega (arith, above, lt))) ]) h.0
]

streams_set : (lanes : List Lane) (i : ℕ) (lane left : Lane) → slice_get lanes i ≡ Some lane → streams_left (slice_set lanes i left) + stream_left lane.sender ≡ streams_left lanes + stream_left left.sender
streams_set [] i lane left e = absurd cc
streams_set (x ∷ xs) zero lane left e = let same : x ≡ lane = cc in omega (arith, ap (λ (l : Lane). stream_left l.sender) same)
streams_set (x ∷ xs) (suc i) lane left e = omega (arith, streams_set xs i lane left e)

pub work_set : (lanes : List Lane) (i : ℕ) (lane left : Lane) (k l : LinkState) (base most : ℕ) → slice_get lanes i ≡ Some lane → stream_left left.sender + link_left l base ≤ stream_left lane.sender + link_left k base + most → work_left (slice_set lanes i left) l base ≤ work_left lanes k base + most
work_set lanes i lane left k l base most e le = plain (streams_left (slice_set lanes i left)) (streams_left lanes) (stream_left lane.sender) (stream_left left.sender) (link_left k base) (link_left l base) most (streams_set lanes i lane left e) le
  where
    plain : (a b x y p q m : ℕ) → a + x ≡ b + y → y + q ≤ x + p + m → a + q ≤ b + p + m
    plain a b x y p q m e h = omega (arith, e, h)

-- places in front are changed, those behind aren't
pub front_read : (f : Lane → Lane) (xs : List Lane) (i : ℕ) (x : Lane) → slice_get (map f (take i xs) ++ drop i xs) i ≡ Some x → slice_get xs i ≡ Some x
front_read f [] zero x e = absurd cc
front_read f [] (suc i) x e = absurd cc
front_read f (y ∷ xs) zero x e = e
front_read f (y ∷ xs) (suc i) x e = front_read f xs i x e

pub front_set : (f : Lane → Lane) (xs : List Lane) (i : ℕ) (x : Lane) → slice_get xs i ≡ Some x → slice_set (map f (take i xs) ++ drop i xs) i (f x) ≡ map f (take (i + 1) xs) ++ drop (i + 1) xs
front_set f [] i x e = absurd cc
front_set f (y ∷ xs) zero x e = let same : y ≡ x = cc in ap (λ l. f l ∷ xs) (sym same)
front_set f (y ∷ xs) (suc i) x e =
    ap (λ l. f y ∷ l) (front_set f xs i x e)
    ∙ ap (λ n. map f (take n (y ∷ xs)) ++ drop n (y ∷ xs)) (let e : suc (i + 1) ≡ suc i + 1 = omega arith in e)

pub front_all : (f : Lane → Lane) (xs : List Lane) → map f (take (length xs) xs) ++ drop (length xs) xs ≡ map f xs
front_all f [] = refl
front_all f (x ∷ xs) = ap (λ l. f x ∷ l) (front_all f xs)

-- no place is none of the streams
from_none : (n : ℕ) (lanes : List Lane) (start i : ℕ) (lane : Lane) → position_from (is_from n) start lanes ≡ None → slice_get lanes i ≡ Some lane → is_from n lane ≡ false
from_none n [] start i lane e at = absurd cc
from_none n (x ∷ xs) start i lane e at = by i (is_from n x) refl (λ j f there. from_none n xs (start + 1) j lane f there) e at
  where
    by : (i : ℕ) (b : Bool) → is_from n x ≡ b → ((j : ℕ) → position_from (is_from n) (start + 1) xs ≡ None → slice_get xs j ≡ Some lane → is_from n lane ≡ false) → cond b (Some start) (position_from (is_from n) (start + 1) xs) ≡ None → slice_get (x ∷ xs) i ≡ Some lane → is_from n lane ≡ false
    by i true d rest e at = absurd cc
    by zero false d rest e at = subst (λ (l : Lane). is_from n l ≡ false) (let same : x ≡ lane = cc in same) d
    by (suc i) false d rest e at = rest i e at

position_none : (n : ℕ) (lanes : List Lane) → position (is_from n) lanes ≡ None → (i : ℕ) (lane : Lane) → slice_get lanes i ≡ Some lane → is_from n lane ≡ false
position_none n lanes e i lane at = from_none n lanes 0 i lane (sym (position_from-zero (is_from n) lanes) ∙ e) at

pub nobodys : (lanes : List Lane) (o : Option Datagram) → place_in lanes o ≡ None → IsNobodys lanes o
nobodys lanes None e = tt
nobodys lanes (Some d) e = position_none d.from lanes e

-- where not all are done, one isn't
pub record IsOpen (lanes : List Lane) : Type 0 where
  pub place : ℕ
  pub lane : Lane
  pub at : slice_get lanes place ≡ Some lane
  pub goes_on : is_done lane ≡ false

pub one_open : (lanes : List Lane) → all_done lanes ≡ false → IsOpen lanes
one_open [] e = absurd cc
one_open (x ∷ xs) e = by (is_done x) refl (one_open xs) e
  where
    by : (b : Bool) → is_done x ≡ b → (list_all is_done xs ≡ false → IsOpen xs) → (b && list_all is_done xs) ≡ false → IsOpen (x ∷ xs)
    by false d rest e = record { place = 0; lane = x; at = refl; goes_on = d }
    by true d rest e = let h = rest e in record { place = suc h.place; lane = h.lane; at = h.at; goes_on = h.goes_on }

pub set_length : (xs : List Lane) (i : ℕ) (x : Lane) → length (slice_set xs i x) ≡ length xs
set_length [] i x = refl
set_length (y ∷ xs) zero x = refl
set_length (y ∷ xs) (suc i) x = ap suc (set_length xs i x)

again_left : (b : Bool) → again_weight b ≤ 3
again_left true = omega arith
again_left false = omega arith

-- numbers that are due again weigh little
pub asked_left : (lanes : List Lane) → streams_left (map asked_again lanes) ≤ streams_left lanes + 3 * length lanes
asked_left [] = omega arith
asked_left (lane ∷ lanes) = omega (arith, asked_left lanes, again_left (asked_again lane).sender.again)

pub done_set : (xs : List Lane) (i : ℕ) (lane left : Lane) → slice_get xs i ≡ Some lane → is_done left ≡ is_done lane → all_done (slice_set xs i left) ≡ all_done xs
done_set [] i lane left e same = refl
done_set (x ∷ xs) zero lane left e same = ap (λ b. b && list_all is_done xs) (same ∙ ap is_done (let here : lane ≡ x = cc in here))
done_set (x ∷ xs) (suc i) lane left e same = ap (λ b. is_done x && b) (done_set xs i lane left e same)

-- the same where the count of troubles begins anew
pub work_anew : (lanes : List Lane) (i : ℕ) (lane left : Lane) (k l : LinkState) (base now most : ℕ) → slice_get lanes i ≡ Some lane → stream_left left.sender + link_left l now ≤ stream_left lane.sender + link_left k base + most → work_left (slice_set lanes i left) l now ≤ work_left lanes k base + most
work_anew lanes i lane left k l base now most e le = plain (streams_left (slice_set lanes i left)) (streams_left lanes) (stream_left lane.sender) (stream_left left.sender) (link_left k base) (link_left l now) most (streams_set lanes i lane left e) le
  where
    plain : (a b x y p q m : ℕ) → a + x ≡ b + y → y + q ≤ x + p + m → a + q ≤ b + p + m
    plain a b x y p q m e h = omega (arith, e, h)

below_some : (b : Bool) (k n p : ℕ) → (b ≡ true → k < n) → cond b (Some k) None ≡ Some p → p < n
below_some true k n p lt e = omega (arith, lt refl, (let same : k ≡ p = cc in same))
below_some false k n p lt e = absurd cc

-- a place that was found is one
pub place_below : (lanes : List Lane) (o : Option Datagram) (p : ℕ) → place_in lanes o ≡ Some p → p < length lanes
place_below lanes None p e = absurd cc
place_below lanes (Some d) p e = below_some (ltb (position_or_len (is_from d.from) lanes) (length lanes)) (position_or_len (is_from d.from) lanes) (length lanes) p (ltb-true (position_or_len (is_from d.from) lanes) (length lanes)) e

get_read : (xs : List Lane) (i : ℕ) (x : Lane) → slice_get xs i ≡ Some x → get_or xs i x ≡ x
get_read [] i x e = absurd cc
get_read (y ∷ xs) zero x e = let same : y ≡ x = cc in same
get_read (y ∷ xs) (suc i) x e = get_read xs i x e

-- and the datagram is from its node
pub own_at : (lanes : List Lane) (o : Option Datagram) (p : ℕ) (lane : Lane) → place_in lanes o ≡ Some p → slice_get lanes p ≡ Some lane → IsItsOwn lane o
own_at lanes None p lane e at = absurd cc
own_at lanes (Some d) p lane e at =
    let found = position-Some (is_from d.from) lanes p lane e in
    subst (λ (l : Lane). is_from d.from l ≡ true) (get_read lanes p lane at) found.1

-- where all are done, each is
pub done_at : (lanes : List Lane) (i : ℕ) (lane : Lane) → all_done lanes ≡ true → slice_get lanes i ≡ Some lane → is_done lane ≡ true
done_at [] i lane done e = absurd cc
done_at (x ∷ xs) zero lane done e = ap is_done (let same : lane ≡ x = cc in same) ∙ (and_parts (is_done x) (list_all is_done xs) done).0
done_at (x ∷ xs) (suc i) lane done e = done_at xs i lane (and_parts (is_done x) (list_all is_done xs) done).1 e
