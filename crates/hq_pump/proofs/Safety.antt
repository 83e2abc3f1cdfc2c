-- An exchange stays safe, step by step.
use Rattle.std.proofs.Common.{◌≡◌, ◌⊎◌, ℕ, zero, suc, ◌+◌, ◌-◌, ◌*◌, ◌^◌, ◌<◌, ◌≤◌, min, max, Bool, true, false, ◌&&◌, cond, ltb, leb, nat_eq, List, [], ◌∷◌, ◌++◌, length, take, drop, map, Option, Some, None, Result, Ok, Err, refl, sym, ap, subst, ◌∙◌, append_assoc, arith, inl, inr}
use Rattle.std.specs.Prelude.{slice_get, slice_set}
use Rattle.std.proofs.lemmas.Bool.{eq-eqb, eqb-true, and_from, lt-ltb, le-leb}
use Rattle.std.proofs.lemmas.List.{length-take, length-drop}
use Rattle.hq_stream.specs.Piece.{Bytes, End, piece_at}
use Rattle.hq_stream.specs.TwoEnds.{Sent}
use Rattle.hq_stream.specs.Receiving.{Receiving, IsOf, came}
use Rattle.hq_stream.proofs.Taking.{bytes_at, came_is, came_grows}
use Rattle.hq_link.specs.declared.datagram.Packet.{Packet}
use Rattle.hq_link.specs.declared.datagram.Packet.TheVariants.{Data, Eos, Ack, Probe}
use Rattle.hq_link.specs.declared.link.LinkFault.{LinkFault}
use Rattle.hq_link.specs.declared.link.LinkFault.TheVariants as link_fault
use Rattle.hq_link.specs.declared.route.Route.{Route}
use Rattle.hq_link.specs.Gram.{Fits, gram_bytes, may_bring}
use Rattle.hq_link.specs.Link.{LinkState, Told, IsIn, added, IsLess, MayCome, IsSent}
use Rattle.hq_link.specs.Streams.{gram, ack_of, is_of, piece_of, number_of, piece_for, ack_for, piece_in, ack_in}
use Rattle.hq_link.proofs.GramLaws.{gram_again}
use Rattle.hq_send.specs.Sending.{Sending, after_due, is_new, in_window}
use Rattle.hq_recv.specs.Taking.{Taker, after, drained, with_more}
use Rattle.hq_pump.specs.declared.lane.Lane.{Lane}
use Rattle.hq_pump.specs.Exchange.{Exchange, Says, piece, probe, Step, sends, answers_it, is_told, hears, misses, rests, fails, hands_over, gives_up, Run, still, more, acknowledged, received, asked_again}
use Rattle.hq_pump.specs.Safe.{IsHonest, IsRouted, IsFront, WhereKnown, AreHonest, IsKnown, IsSafe, IsWithin, Grows}
use Rattle.hq_pump.proofs.Steps.{due_route, due_stream}

-- a place of a list that was set is that place, or stands as before
pub get_set_cases : {A : Type 0} (xs : List A) (i j : ℕ) (y z : A) → slice_get (slice_set xs i y) j ≡ Some z → ((i ≡ j) × (y ≡ z)) ⊎ (slice_get xs j ≡ Some z)
get_set_cases [] i j y z e = inr e
get_set_cases (x ∷ xs) zero zero y z e = inl (refl, (let same : y ≡ z = cc in same))
get_set_cases (x ∷ xs) zero (suc j) y z e = inr e
get_set_cases (x ∷ xs) (suc i) zero y z e = inr e
get_set_cases (x ∷ xs) (suc i) (suc j) y z e = elim (get_set_cases xs i j y z e) [ inl p ↦ inl (ap suc p.0, p.1) | inr h ↦ inr h ]

pub get_map : {A : Type 0} (f : A → A) (xs : List A) (j : ℕ) (z : A) → slice_get (map f xs) j ≡ Some z → (y : A) × (slice_get xs j ≡ Some y) × (f y ≡ z)
get_map f [] j z e = absurd cc
get_map f (x ∷ xs) zero z e = (x, refl, (let same : f x ≡ z = cc in same))
get_map f (x ∷ xs) (suc j) z e = get_map f xs j z e

-- the same, which says that it is another place
pub get_set_other : {A : Type 0} (xs : List A) (i j : ℕ) (y z : A) → slice_get (slice_set xs i y) j ≡ Some z → ((i ≡ j) × (y ≡ z)) ⊎ ((slice_get xs j ≡ Some z) × (i ≡ j → ⊥))
get_set_other [] i j y z e = absurd cc
get_set_other (x ∷ xs) zero zero y z e = inl (refl, (let same : y ≡ z = cc in same))
get_set_other (x ∷ xs) zero (suc j) y z e = inr (e, λ same. absurd (omega (arith, same)))
get_set_other (x ∷ xs) (suc i) zero y z e = inr (e, λ same. absurd (omega (arith, same)))
get_set_other (x ∷ xs) (suc i) (suc j) y z e = elim (get_set_other xs i j y z e) [ inl p ↦ inl (ap suc p.0, p.1) | inr h ↦ inr (h.0, λ same. h.1 (omega (arith, same))) ]

pub same_some : {A : Type 0} (o : Option A) (x y : A) → o ≡ Some x → o ≡ Some y → x ≡ y
same_some o x y e f = let both : Some x ≡ Some y = sym e ∙ f in cc

-- what no step changes of a stream
pub record Same (y z : Lane) : Type 0 where
  pub sends : z.sender.route ≡ y.sender.route
  pub takes : z.receiver.route ≡ y.receiver.route
  pub stream : z.sender.stream ≡ y.sender.stream

-- the stream that stood there
pub record Before (s : Exchange) (j : ℕ) (z : Lane) : Type 0 where
  pub lane : Lane
  pub at : slice_get s.lanes j ≡ Some lane
  pub same : Same lane z

pub same_lane : (y : Lane) → Same y y
same_lane y = record { sends = refl; takes = refl; stream = refl }

pub said_same : (lane left : Lane) (bytes : List ℕ) → Says lane bytes left → Same lane left
said_same lane left bytes (piece n p small due at) = record { sends = due_route lane.sender; takes = refl; stream = due_stream lane.sender }
said_same lane left bytes (probe small) = same_lane lane

pub acked_same : (lane : Lane) (n : ℕ) → Same lane (acknowledged lane n)
acked_same lane n = by (is_new lane.sender n)
  where
    by : (b : Bool) → Same lane (record lane { sender = cond b (record lane.sender { acked = n; next = max lane.sender.next n; again = false }) lane.sender })
    by true = record { sends = refl; takes = refl; stream = refl }
    by false = record { sends = refl; takes = refl; stream = refl }

set_before : (s : Exchange) (i j : ℕ) (lane left z : Lane) → slice_get s.lanes i ≡ Some lane → Same lane left → slice_get (slice_set s.lanes i left) j ≡ Some z → Before s j z
set_before s i j lane left z at same e = elim (get_set_cases s.lanes i j left z e) [
  | inl p ↦ record { lane = lane; at = subst (λ k. slice_get s.lanes k ≡ Some lane) p.0 at; same = subst (Same lane) p.1 same }
  | inr h ↦ record { lane = z; at = h; same = same_lane z }
]

still_before : (s : Exchange) (j : ℕ) (z : Lane) → slice_get s.lanes j ≡ Some z → Before s j z
still_before s j z e = record { lane = z; at = e; same = same_lane z }

lanes_are : (t u : Exchange) (j : ℕ) (z : Lane) → t ≡ u → slice_get t.lanes j ≡ Some z → slice_get u.lanes j ≡ Some z
lanes_are t u j z is e = subst (λ (x : Exchange). slice_get x.lanes j ≡ Some z) is e

pub before : (s t : Exchange) (j : ℕ) (z : Lane) → Step s t → slice_get t.lanes j ≡ Some z → Before s j z
before s t j z (sends h) e = set_before s h.place j h.lane h.left z h.at (said_same h.lane h.left h.bytes h.says) (lanes_are t _ j z h.is e)
before s t j z (answers_it h) e = still_before s j z (lanes_are t _ j z h.is e)
before s t j z (is_told h) e = set_before s h.place j h.lane (acknowledged h.lane h.n) z h.at (acked_same h.lane h.n) (lanes_are t _ j z h.is e)
before s t j z (hears h) e = set_before s h.place j h.lane (record h.lane { receiver = received h.lane.receiver (take h.count h.into) }) z h.at (record { sends = refl; takes = refl; stream = refl }) (lanes_are t _ j z h.is e)
before s t j z (misses h) e = still_before s j z (lanes_are t _ j z h.is e)
before s t j z (rests h) e =
    let m = get_map asked_again s.lanes j z (lanes_are t _ j z h.is e) in
    record { lane = m.0; at = m.1; same = subst (Same m.0) m.2 (record { sends = refl; takes = refl; stream = refl }) }
before s t j z (fails h) e = still_before s j z (lanes_are t _ j z h.is e)
before s t j z (hands_over h) e = set_before s h.place j h.lane (record h.lane { receiver = drained h.lane.receiver }) z h.at (record { sends = refl; takes = refl; stream = refl }) (lanes_are t _ j z h.is e)
before s t j z (gives_up is) e = still_before s j z (lanes_are t _ j z is e)

pub fits : (q m to : ℕ) (kind : Packet) (lane : Lane) (n : ℕ) (payload : List ℕ) → IsWithin q m to → IsRouted q m to lane → n < 2 ^ 64 → may_bring kind (length payload) ≡ true → Fits (gram kind lane.sender.route n payload)
fits q m to kind lane n payload within routed small brings = record {
  from = routed.from_node;
  to = omega (arith, routed.to, within.to);
  motion = omega (arith, routed.motion, within.motion);
  query = omega (arith, routed.query, within.query);
  seq = small;
  payload = brings;
}

is_own : (kind : Packet) (route : Route) (n : ℕ) (payload : List ℕ) → is_of route (gram kind route n payload) ≡ true
is_own kind route n payload =
    and_from (nat_eq route.from route.from) _ (eq-eqb _ _ refl) (and_from (nat_eq route.to route.to) _ (eq-eqb _ _ refl) (and_from (nat_eq route.query route.query) _ (eq-eqb _ _ refl) (eq-eqb _ _ refl)))

-- what a datagram of a route brings to it, and to a stream from elsewhere
pub own_piece : (kind : Packet) (route : Route) (n : ℕ) (payload : List ℕ) → Fits (gram kind route n payload) → piece_in route (gram_bytes (gram kind route n payload)) ≡ piece_of kind n payload
own_piece kind route n payload fit =
    ap (piece_for route) (gram_again (gram kind route n payload) fit) ∙ ap (λ b. cond b (piece_of kind n payload) None) (is_own kind route n payload)

pub own_number : (kind : Packet) (route : Route) (n : ℕ) (payload : List ℕ) → Fits (gram kind route n payload) → ack_in route (gram_bytes (gram kind route n payload)) ≡ number_of kind n
own_number kind route n payload fit =
    ap (ack_for route) (gram_again (gram kind route n payload) fit) ∙ ap (λ b. cond b (number_of kind n) None) (is_own kind route n payload)

foreign : (kind : Packet) (route other : Route) (n : ℕ) (payload : List ℕ) → (nat_eq route.from other.from ≡ false) → Fits (gram kind route n payload) → (piece_in other (gram_bytes (gram kind route n payload)) ≡ None) × (ack_in other (gram_bytes (gram kind route n payload)) ≡ None)
foreign kind route other n payload differs fit =
    let off : is_of other (gram kind route n payload) ≡ false = ap (λ b. b && (nat_eq route.to other.to && (nat_eq route.query other.query && nat_eq route.motion other.motion))) differs in (
      ap (piece_for other) (gram_again (gram kind route n payload) fit) ∙ ap (λ b. cond b (piece_of kind n payload) None) off,
      ap (ack_for other) (gram_again (gram kind route n payload) fit) ∙ ap (λ b. cond b (number_of kind n) None) off,
    )

pub brings : (stream : List ℕ) (n : ℕ) (bytes : List ℕ) → piece_at stream n ≡ Some (Bytes bytes) → may_bring Data (length bytes) ≡ true
brings stream n bytes e =
    let at = bytes_at stream n bytes e in
    let len : length bytes ≡ min (1200 * n + 1200 - 1200 * n) (length stream - 1200 * n) = ap length at.1 ∙ length-take (1200 * n + 1200 - 1200 * n) (drop (1200 * n) stream) ∙ ap (min (1200 * n + 1200 - 1200 * n)) (length-drop (1200 * n) stream) in
    and_from (ltb 0 (length bytes)) (leb (length bytes) 1200) (lt-ltb _ _ (omega (arith, len, at.0))) (le-leb _ _ (omega (arith, len)))

sent_is : (s t : Sent) → Some s ≡ Some t → s ≡ t
sent_is s t e = cc

number_is : (m n : ℕ) → Some m ≡ Some n → m ≡ n
number_is m n e = cc

-- a datagram is honest to each stream where it is to its own
honest_to_all : (kind : Packet) (lane y : Lane) (n : ℕ) (payload : List ℕ) → Fits (gram kind lane.sender.route n payload) → (lane.sender.route.from ≡ y.sender.route.from → y ≡ lane) → IsHonest lane.sender.route lane.sender.stream lane.receiver.state.wanted (gram_bytes (gram kind lane.sender.route n payload)) → IsHonest y.sender.route y.sender.stream y.receiver.state.wanted (gram_bytes (gram kind lane.sender.route n payload))
honest_to_all kind lane y n payload fit alone own = by (nat_eq lane.sender.route.from y.sender.route.from) refl
  where
    by : (b : Bool) → nat_eq lane.sender.route.from y.sender.route.from ≡ b → IsHonest y.sender.route y.sender.stream y.receiver.state.wanted (gram_bytes (gram kind lane.sender.route n payload))
    by true e = subst (λ (z : Lane). IsHonest z.sender.route z.sender.stream z.receiver.state.wanted (gram_bytes (gram kind lane.sender.route n payload))) (sym (alone (eqb-true _ _ e))) own
    by false e =
        let f = foreign kind lane.sender.route y.sender.route n payload e fit in
        record { piece = λ p h. (let no : None ≡ Some p = sym f.0 ∙ h in absurd cc); ack = λ m h. (let no : None ≡ Some m = sym f.1 ∙ h in absurd cc) }

honest_own : (kind : Packet) (lane : Lane) (n : ℕ) (payload : List ℕ) → Fits (gram kind lane.sender.route n payload) → ((p : Sent) → piece_of kind n payload ≡ Some p → piece_at lane.sender.stream p.number ≡ Some p.piece) → ((m : ℕ) → number_of kind n ≡ Some m → m ≤ lane.receiver.state.wanted) → IsHonest lane.sender.route lane.sender.stream lane.receiver.state.wanted (gram_bytes (gram kind lane.sender.route n payload))
honest_own kind lane n payload fit pieces acks = record {
  piece = λ p e. pieces p (sym (own_piece kind lane.sender.route n payload fit) ∙ e);
  ack = λ m e. acks m (sym (own_number kind lane.sender.route n payload fit) ∙ e);
}

said_honest : (q m to : ℕ) (lane left y : Lane) (bytes : List ℕ) → IsWithin q m to → IsRouted q m to lane → (lane.sender.route.from ≡ y.sender.route.from → y ≡ lane) → Says lane bytes left → IsHonest y.sender.route y.sender.stream y.receiver.state.wanted bytes
said_honest q m to lane left y bytes within routed alone (piece n (Bytes b) small due at) =
    let fit = fits q m to Data lane n b within routed small (brings lane.sender.stream n b at) in
    honest_to_all Data lane y n b fit alone (honest_own Data lane n b fit (λ p e. subst (λ (t : Sent). piece_at lane.sender.stream t.number ≡ Some t.piece) (sent_is (record { number = n; piece = Bytes b }) p e) at) (λ k e. absurd cc))
said_honest q m to lane left y bytes within routed alone (piece n End small due at) =
    let fit = fits q m to Eos lane n [] within routed small refl in
    honest_to_all Eos lane y n [] fit alone (honest_own Eos lane n [] fit (λ p e. subst (λ (t : Sent). piece_at lane.sender.stream t.number ≡ Some t.piece) (sent_is (record { number = n; piece = End }) p e) at) (λ k e. absurd cc))
said_honest q m to lane left y bytes within routed alone (probe small) =
    let fit = fits q m to Probe lane lane.sender.acked [] within routed small refl in
    honest_to_all Probe lane y lane.sender.acked [] fit alone (honest_own Probe lane lane.sender.acked [] fit (λ p e. absurd cc) (λ k e. absurd cc))

ack_honest : (q m to : ℕ) (lane y : Lane) → IsWithin q m to → IsRouted q m to lane → lane.receiver.state.wanted < 2 ^ 64 → (lane.sender.route.from ≡ y.sender.route.from → y ≡ lane) → IsHonest y.sender.route y.sender.stream y.receiver.state.wanted (gram_bytes (ack_of lane.receiver.route lane.receiver.state.wanted))
ack_honest q m to lane y within routed small alone =
    let fit = fits q m to Ack lane lane.receiver.state.wanted [] within routed small refl in
    subst (λ r. IsHonest y.sender.route y.sender.stream y.receiver.state.wanted (gram_bytes (ack_of r lane.receiver.state.wanted))) (sym routed.same)
    (honest_to_all Ack lane y lane.receiver.state.wanted [] fit alone (honest_own Ack lane lane.receiver.state.wanted [] fit (λ p e. absurd cc) (λ k e. (let same = number_is lane.receiver.state.wanted k e in omega (arith, same)))))

-- what `send` and `next` leave of what can arrive
in_added : (x y : List ℕ) (xs : List (List ℕ)) → IsIn x (xs ++ y ∷ []) → IsIn x xs ⊎ (y ≡ x)
in_added x y [] (inl e) = inr e
in_added x y [] (inr h) = absurd h
in_added x y (d ∷ xs) (inl e) = inl (inl e)
in_added x y (d ∷ xs) (inr h) = elim (in_added x y xs h) [ inl i ↦ inl (inr i) | inr e ↦ inr e ]

pub grows_added : (old new : Told) (y : List ℕ) → new ≡ added old y → Grows old new (λ x. y ≡ x)
grows_added None None y e = tt
grows_added (Some xs) (Some ys) y e = λ x h. in_added x y xs (subst (IsIn x) (let same : ys ≡ xs ++ y ∷ [] = cc in same) h)
grows_added None (Some ys) y e = absurd cc
grows_added (Some xs) None y e = absurd cc

pub grows_same : (old new : Told) (P : List ℕ → Type 0) → new ≡ old → Grows old new P
grows_same None None P e = tt
grows_same (Some xs) (Some ys) P e = λ x h. inl (subst (IsIn x) (let same : ys ≡ xs = cc in same) h)
grows_same None (Some ys) P e = absurd cc
grows_same (Some xs) None P e = absurd cc

pub grows_less : (old new : Told) (P : List ℕ → Type 0) → IsLess old new → Grows old new P
grows_less None None P less = tt
grows_less (Some xs) (Some ys) P less = λ x h. inl (less x h)
grows_less None (Some ys) P less = absurd less
grows_less (Some xs) None P less = absurd less

pub grows_sent : (old new : LinkState) (y : List ℕ) (result : Result Unit LinkFault) → IsSent old y result new → Grows old.may new.may (λ x. y ≡ x)
grows_sent old new y (Ok done) sent = grows_added old.may new.may y sent.sent.may
grows_sent old new y (Err e) sent = grows_same old.may new.may (λ x. y ≡ x) sent.refused.may

-- what is known of a stream after a step
record Carry (first : ℕ → List ℕ) (s t : Exchange) (P : List ℕ → Type 0) (j : ℕ) (z : Lane) : Type 0 where
  lane : Lane
  at : slice_get s.lanes j ≡ Some lane
  same : Same lane z
  wanted : lane.receiver.state.wanted ≤ z.receiver.state.wanted
  front : IsFront first t.taken z
  honest : (x : List ℕ) → P x → IsHonest z.sender.route z.sender.stream z.receiver.state.wanted x

honest_on : (y z : Lane) (x : List ℕ) → Same y z → y.receiver.state.wanted ≤ z.receiver.state.wanted → IsHonest y.sender.route y.sender.stream y.receiver.state.wanted x → IsHonest z.sender.route z.sender.stream z.receiver.state.wanted x
honest_on y z x same le is = subst (λ r. IsHonest r z.sender.stream z.receiver.state.wanted x) (sym same.sends) (subst (λ l. IsHonest y.sender.route l z.receiver.state.wanted x) (sym same.stream)
    (record { piece = is.piece; ack = λ n e. omega (arith, is.ack n e, le) }))

known_is : (first : ℕ → List ℕ) (s t : Exchange) (P : List ℕ → Type 0) (K : Type 0) (old new : Told) → s.link.may ≡ old → t.link.may ≡ new → Grows old new P → (K → IsKnown first s) → ((j : ℕ) (z : Lane) → slice_get t.lanes j ≡ Some z → K → Carry first s t P j z) → WhereKnown old K → WhereKnown new (IsKnown first t)
known_is first s t P K None None was is grows tells carry known = tt
known_is first s t P K None (Some ys) was is grows tells carry known = absurd grows
known_is first s t P K (Some xs) None was is grows tells carry known = absurd grows
known_is first s t P K (Some xs) (Some ys) was is grows tells carry known = record {
  front = λ j z e. (carry j z e known).front;
  coming = λ j z e.
      let c = carry j z e known in
      let came_in : AreHonest c.lane.sender.route c.lane.sender.stream c.lane.receiver.state.wanted (Some xs) = subst (AreHonest c.lane.sender.route c.lane.sender.stream c.lane.receiver.state.wanted) was ((tells known).coming j c.lane c.at) in
      subst (AreHonest z.sender.route z.sender.stream z.receiver.state.wanted) (sym is)
      (λ x h. elim (grows x h) [ inl i ↦ honest_on c.lane z x c.same c.wanted (came_in x i) | inr p ↦ c.honest x p ]);
}

-- a stream that did not change
carry_still : (first : ℕ → List ℕ) (s t : Exchange) (P : List ℕ → Type 0) (j : ℕ) (z : Lane) → t.taken ≡ s.taken → slice_get s.lanes j ≡ Some z → IsKnown first s → ((x : List ℕ) → P x → IsHonest z.sender.route z.sender.stream z.receiver.state.wanted x) → Carry first s t P j z
carry_still first s t P j z taken at known honest = record {
  lane = z;
  at = at;
  same = same_lane z;
  wanted = omega arith;
  front = subst (λ (f : ℕ → List ℕ). IsFront first f z) (sym taken) (known.front j z at);
  honest = honest;
}

front_on : (first now : ℕ → List ℕ) (y z : Lane) → Same y z → z.receiver.state ≡ y.receiver.state → z.sender.acked ≤ z.receiver.state.wanted → IsFront first now y → IsFront first now z
front_on first now y z same state acked front = record {
  gone = front.gone;
  taken = subst (λ (r : Route). now r.from ≡ first r.from ++ front.gone) (sym same.sends) front.taken;
  is_of = subst (λ l. IsOf l front.gone z.receiver.state) (sym same.stream) (subst (IsOf y.sender.stream front.gone) (sym state) front.is_of);
  acked = acked;
}

pub due_acked : (s : Sending) → (after_due s).acked ≡ s.acked
due_acked s = by s.again (in_window s s.next)
  where
    by : (a b : Bool) → (cond a (record s { again = false }) (cond b (record s { next = suc s.next }) s)).acked ≡ s.acked
    by true b = refl
    by false true = refl
    by false false = refl

pub due_next : (s : Sending) → s.next ≤ (after_due s).next
due_next s = by s.again (in_window s s.next)
  where
    by : (a b : Bool) → s.next ≤ (cond a (record s { again = false }) (cond b (record s { next = suc s.next }) s)).next
    by true b = omega arith
    by false true = omega arith
    by false false = omega arith

said_front : (first now : ℕ → List ℕ) (lane left : Lane) (bytes : List ℕ) → Says lane bytes left → IsFront first now lane → IsFront first now left
said_front first now lane left bytes (piece n p small due at) front =
    front_on first now lane (record lane { sender = after_due lane.sender }) (record { sends = due_route lane.sender; takes = refl; stream = due_stream lane.sender }) refl (omega (arith, front.acked, due_acked lane.sender)) front
said_front first now lane left bytes (probe small) front = front

pub said_receiver : (lane left : Lane) (bytes : List ℕ) → Says lane bytes left → left.receiver ≡ lane.receiver
said_receiver lane left bytes (piece n p small due at) = refl
said_receiver lane left bytes (probe small) = refl

-- two streams from one node are one
alone_is : (q m to : ℕ) (first : ℕ → List ℕ) (s : Exchange) (i j : ℕ) (x y : Lane) → IsSafe q m to first s → slice_get s.lanes i ≡ Some x → slice_get s.lanes j ≡ Some y → x.sender.route.from ≡ y.sender.route.from → y ≡ x
alone_is q m to first s i j x y safe ex ey same = same_some (slice_get s.lanes j) y x ey (subst (λ k. slice_get s.lanes k ≡ Some x) (safe.alone i j x y ex ey same) ex)

known_sends : (q m to : ℕ) (first : ℕ → List ℕ) (s : Exchange) (place : ℕ) (lane left : Lane) (bytes : List ℕ) (result : Result Unit LinkFault) (link : LinkState) (fault : Option LinkFault) → IsWithin q m to → slice_get s.lanes place ≡ Some lane → Says lane bytes left → IsSent s.link bytes result link → IsSafe q m to first s → WhereKnown link.may (IsKnown first (record s { lanes = slice_set s.lanes place left; link = link; fault = fault }))
known_sends q m to first s place lane left bytes result link fault within at says sent safe =
    let t : Exchange = record s { lanes = slice_set s.lanes place left; link = link; fault = fault } in
    known_is first s t (λ x. bytes ≡ x) (IsKnown first s) s.link.may link.may refl refl (grows_sent s.link link bytes result sent) (λ k. k)
    (λ j z e known.
    let honest : (y : Lane) → slice_get s.lanes j ≡ Some y → (x : List ℕ) → bytes ≡ x → IsHonest y.sender.route y.sender.stream y.receiver.state.wanted x =
    λ y ey x is. subst (IsHonest y.sender.route y.sender.stream y.receiver.state.wanted) is (said_honest q m to lane left y bytes within (safe.routed place lane at) (alone_is q m to first s place j lane y safe at ey) says) in
    elim (get_set_cases s.lanes place j left z e) [
      | inl p ↦
          let here : slice_get s.lanes j ≡ Some lane = subst (λ k. slice_get s.lanes k ≡ Some lane) p.0 at in
          let same = said_same lane left bytes says in
          let state : left.receiver.state ≡ lane.receiver.state = ap (λ (r : Taker). r.state) (said_receiver lane left bytes says) in
          subst (Carry first s t (λ x. bytes ≡ x) j) p.1 (record {
            lane = lane;
            at = here;
            same = same;
            wanted = omega (arith, ap (λ (r : Receiving). r.wanted) state);
            front = said_front first s.taken lane left bytes says (known.front j lane here);
            honest = λ x is. honest_on lane left x same (omega (arith, ap (λ (r : Receiving). r.wanted) state)) (honest lane here x is);
          })
      | inr h ↦ carry_still first s t (λ x. bytes ≡ x) j z refl h known (honest z h)
    ])
    safe.known

known_answers : (q m to : ℕ) (first : ℕ → List ℕ) (s : Exchange) (place : ℕ) (lane : Lane) (result : Result Unit LinkFault) (link : LinkState) (fault : Option LinkFault) → IsWithin q m to → slice_get s.lanes place ≡ Some lane → lane.receiver.state.wanted < 2 ^ 64 → IsSent s.link (gram_bytes (ack_of lane.receiver.route lane.receiver.state.wanted)) result link → IsSafe q m to first s → WhereKnown link.may (IsKnown first (record s { link = link; owed = None; fault = fault }))
known_answers q m to first s place lane result link fault within at small sent safe =
    let bytes = gram_bytes (ack_of lane.receiver.route lane.receiver.state.wanted) in
    let t : Exchange = record s { link = link; owed = None; fault = fault } in
    known_is first s t (λ x. bytes ≡ x) (IsKnown first s) s.link.may link.may refl refl (grows_sent s.link link bytes result sent) (λ k. k)
    (λ j z e known. carry_still first s t (λ x. bytes ≡ x) j z refl e known
    (λ x is. subst (IsHonest z.sender.route z.sender.stream z.receiver.state.wanted) is (ack_honest q m to lane z within (safe.routed place lane at) small (alone_is q m to first s place j lane z safe at e))))
    safe.known

-- nothing is new, and no stream changed
known_link : (q m to : ℕ) (first : ℕ → List ℕ) (s : Exchange) (link : LinkState) (owed : Option ℕ) (fault : Option LinkFault) → IsLess s.link.may link.may → IsSafe q m to first s → WhereKnown link.may (IsKnown first (record s { link = link; owed = owed; fault = fault }))
known_link q m to first s link owed fault less safe =
    let t : Exchange = record s { link = link; owed = owed; fault = fault } in
    known_is first s t (λ x. ⊥) (IsKnown first s) s.link.may link.may refl refl (grows_less s.link.may link.may (λ x. ⊥) less) (λ k. k)
    (λ j z e known. carry_still first s t (λ x. ⊥) j z refl e known (λ x no. absurd no)) safe.known

known_same : (q m to : ℕ) (first : ℕ → List ℕ) (s : Exchange) → IsSafe q m to first s → WhereKnown s.link.may (IsKnown first (record s { owed = None; fault = Some link_fault.NoMemory }))
known_same q m to first s safe =
    let t : Exchange = record s { owed = None; fault = Some link_fault.NoMemory } in
    known_is first s t (λ x. ⊥) (IsKnown first s) s.link.may s.link.may refl refl (grows_same s.link.may s.link.may (λ x. ⊥) refl) (λ k. k)
    (λ j z e known. carry_still first s t (λ x. ⊥) j z refl e known (λ x no. absurd no)) safe.known

known_rests : (q m to : ℕ) (first : ℕ → List ℕ) (s : Exchange) (link : LinkState) → IsLess s.link.may link.may → IsSafe q m to first s → WhereKnown link.may (IsKnown first (record s { lanes = map asked_again s.lanes; link = link }))
known_rests q m to first s link less safe =
    let t : Exchange = record s { lanes = map asked_again s.lanes; link = link } in
    known_is first s t (λ x. ⊥) (IsKnown first s) s.link.may link.may refl refl (grows_less s.link.may link.may (λ x. ⊥) less) (λ k. k)
    (λ j z e known.
    let y = get_map asked_again s.lanes j z e in
    subst (Carry first s t (λ x. ⊥) j) y.2 (record {
      lane = y.0;
      at = y.1;
      same = record { sends = refl; takes = refl; stream = refl };
      wanted = omega arith;
      front = front_on first s.taken y.0 (asked_again y.0) (record { sends = refl; takes = refl; stream = refl }) refl ((known.front j y.0 y.1).acked) (known.front j y.0 y.1);
      honest = λ x no. absurd no;
    })) safe.known

-- one stream changed, and nothing is new
known_set : (q m to : ℕ) (first : ℕ → List ℕ) (s : Exchange) (place : ℕ) (lane left : Lane) (link : LinkState) (base : ℕ) (owed : Option ℕ) → slice_get s.lanes place ≡ Some lane → Same lane left → lane.receiver.state.wanted ≤ left.receiver.state.wanted → IsLess s.link.may link.may → WhereKnown s.link.may (IsKnown first s × IsFront first s.taken left) → WhereKnown link.may (IsKnown first (record s { lanes = slice_set s.lanes place left; link = link; base = base; owed = owed }))
known_set q m to first s place lane left link base owed at same grown less front =
    let t : Exchange = record s { lanes = slice_set s.lanes place left; link = link; base = base; owed = owed } in
    known_is first s t (λ x. ⊥) (IsKnown first s × IsFront first s.taken left) s.link.may link.may refl refl (grows_less s.link.may link.may (λ x. ⊥) less) (λ k. k.0)
    (λ j z e known. elim (get_set_cases s.lanes place j left z e) [
      | inl p ↦ subst (Carry first s t (λ x. ⊥) j) p.1 (record {
        lane = lane;
        at = subst (λ k. slice_get s.lanes k ≡ Some lane) p.0 at;
        same = same;
        wanted = grown;
        front = known.1;
        honest = λ x no. absurd no;
      })
      | inr h ↦ carry_still first s t (λ x. ⊥) j z refl h known.0 (λ x no. absurd no)
    ]) front

-- what came was told to be able to
pub honest_came : (first : ℕ → List ℕ) (s : Exchange) (x : List ℕ) (j : ℕ) (z : Lane) (may : Told) → s.link.may ≡ may → MayCome may x → slice_get s.lanes j ≡ Some z → WhereKnown may (IsKnown first s) → WhereKnown may (IsHonest z.sender.route z.sender.stream z.receiver.state.wanted x)
honest_came first s x j z None was came at known = tt
honest_came first s x j z (Some xs) was came at known = subst (AreHonest z.sender.route z.sender.stream z.receiver.state.wanted) was (known.coming j z at) x came

front_acked : (first now : ℕ → List ℕ) (lane : Lane) (n : ℕ) (x : List ℕ) → ack_in lane.sender.route x ≡ Some n → IsHonest lane.sender.route lane.sender.stream lane.receiver.state.wanted x → IsFront first now lane → IsFront first now (acknowledged lane n)
front_acked first now lane n x is honest front = by (is_new lane.sender n)
  where
    by : (b : Bool) → IsFront first now (record lane { sender = cond b (record lane.sender { acked = n; next = max lane.sender.next n; again = false }) lane.sender })
    by true = record { gone = front.gone; taken = front.taken; is_of = front.is_of; acked = honest.ack n is }
    by false = front

front_received : (q m to : ℕ) (first now : ℕ → List ℕ) (lane : Lane) (x : List ℕ) → IsRouted q m to lane → IsHonest lane.sender.route lane.sender.stream lane.receiver.state.wanted x → IsFront first now lane → IsFront first now (record lane { receiver = received lane.receiver x })
front_received q m to first now lane x routed honest front = by (piece_in lane.receiver.route x) (ap (λ r. piece_in r x) (sym routed.same))
  where
    by : (o : Option Sent) → piece_in lane.sender.route x ≡ o → IsFront first now (record lane { receiver = record lane.receiver { state = after lane.receiver.state o } })
    by None e = front
    by (Some p) e = record {
      gone = front.gone;
      taken = front.taken;
      is_of = came_is lane.sender.stream front.gone lane.receiver.state p.number p.piece (honest.piece p e) front.is_of;
      acked = omega (arith, front.acked, came_grows lane.receiver.state p.number p.piece);
    }

received_grows : (r : Taker) (x : List ℕ) → r.state.wanted ≤ (received r x).state.wanted
received_grows r x = by (piece_in r.route x)
  where
    by : (o : Option Sent) → r.state.wanted ≤ (after r.state o).wanted
    by None = omega arith
    by (Some p) = came_grows r.state p.number p.piece

acked_wanted : (lane : Lane) (n : ℕ) → lane.receiver.state.wanted ≤ (acknowledged lane n).receiver.state.wanted
acked_wanted lane n = omega arith

-- known ones, where the link tells
from_known : (may : Told) (P Q : Type 0) → (P → Q) → WhereKnown may P → WhereKnown may Q
from_known None P Q f known = tt
from_known (Some xs) P Q f known = f known

both_known : (may : Told) (P Q : Type 0) → WhereKnown may P → WhereKnown may Q → WhereKnown may (P × Q)
both_known None P Q p q = tt
both_known (Some xs) P Q p q = (p, q)

-- a front with what is known, after a change that needs what came to be honest
front_where : (first : ℕ → List ℕ) (s : Exchange) (x : List ℕ) (j : ℕ) (lane left : Lane) → MayCome s.link.may x → slice_get s.lanes j ≡ Some lane → (IsHonest lane.sender.route lane.sender.stream lane.receiver.state.wanted x → IsFront first s.taken lane → IsFront first s.taken left) → WhereKnown s.link.may (IsKnown first s) → WhereKnown s.link.may (IsKnown first s × IsFront first s.taken left)
front_where first s x j lane left came at then known =
    from_known s.link.may (IsKnown first s × IsHonest lane.sender.route lane.sender.stream lane.receiver.state.wanted x) (IsKnown first s × IsFront first s.taken left)
    (λ (k, h). (k, then h (k.front j lane at)))
    (both_known s.link.may (IsKnown first s) (IsHonest lane.sender.route lane.sender.stream lane.receiver.state.wanted x) known (honest_came first s x j lane s.link.may refl came at known))

-- bytes that are handed over were taken before
append_nothing : (xs : List ℕ) → xs ++ [] ≡ xs
append_nothing [] = refl
append_nothing (x ∷ xs) = ap (λ l. x ∷ l) (append_nothing xs)

front_drained : (first now taken : ℕ → List ℕ) (lane : Lane) (q m to : ℕ) → IsRouted q m to lane → ((n : ℕ) → taken n ≡ with_more now lane.receiver.route.from lane.receiver.state.got n) → IsFront first now lane → IsFront first taken (record lane { receiver = drained lane.receiver })
front_drained first now taken lane q m to routed more_is front =
    let from = lane.sender.route.from in
    let same : lane.receiver.route.from ≡ from = ap (λ (r : Route). r.from) routed.same in
    let here : taken from ≡ now from ++ lane.receiver.state.got = more_is from ∙ ap (λ b. cond b (now from ++ lane.receiver.state.got) (now from)) (eq-eqb from lane.receiver.route.from (sym same)) in
    record {
      gone = front.gone ++ lane.receiver.state.got;
      taken = here ∙ ap (λ l. l ++ lane.receiver.state.got) front.taken ∙ append_assoc (first from) front.gone lane.receiver.state.got;
      is_of = record { front = append_nothing (front.gone ++ lane.receiver.state.got) ∙ front.is_of.front; within = front.is_of.within; ended = front.is_of.ended; not_ended = front.is_of.not_ended; kept = front.is_of.kept };
      acked = front.acked;
    }

front_elsewhere : (first now taken : ℕ → List ℕ) (lane z : Lane) (q m to : ℕ) → IsRouted q m to lane → (nat_eq z.sender.route.from lane.sender.route.from ≡ false) → ((n : ℕ) → taken n ≡ with_more now lane.receiver.route.from lane.receiver.state.got n) → IsFront first now z → IsFront first taken z
front_elsewhere first now taken lane z q m to routed differs more_is front =
    let from = z.sender.route.from in
    let same : lane.receiver.route.from ≡ lane.sender.route.from = ap (λ (r : Route). r.from) routed.same in
    let here : taken from ≡ now from = more_is from ∙ ap (λ b. cond b (now from ++ lane.receiver.state.got) (now from)) (ap (nat_eq from) same ∙ differs) in
    record { gone = front.gone; taken = here ∙ front.taken; is_of = front.is_of; acked = front.acked }

known_hands : (q m to : ℕ) (first : ℕ → List ℕ) (s : Exchange) (place : ℕ) (lane : Lane) (taken : ℕ → List ℕ) → slice_get s.lanes place ≡ Some lane → ((n : ℕ) → taken n ≡ with_more s.taken lane.receiver.route.from lane.receiver.state.got n) → IsSafe q m to first s → WhereKnown s.link.may (IsKnown first (record s { lanes = slice_set s.lanes place (record lane { receiver = drained lane.receiver }); taken = taken }))
known_hands q m to first s place lane taken at more_is safe =
    let left : Lane = record lane { receiver = drained lane.receiver } in
    let t : Exchange = record s { lanes = slice_set s.lanes place left; taken = taken } in
    let routed = safe.routed place lane at in
    known_is first s t (λ x. ⊥) (IsKnown first s) s.link.may s.link.may refl refl (grows_same s.link.may s.link.may (λ x. ⊥) refl) (λ k. k)
    (λ j z e known. elim (get_set_other s.lanes place j left z e) [
      | inl p ↦
          let here = subst (λ k. slice_get s.lanes k ≡ Some lane) p.0 at in
          subst (Carry first s t (λ x. ⊥) j) p.1 (record {
            lane = lane;
            at = here;
            same = record { sends = refl; takes = refl; stream = refl };
            wanted = omega arith;
            front = front_drained first s.taken taken lane q m to routed more_is (known.front j lane here);
            honest = λ x no. absurd no;
          })
      | inr h ↦ by j z h.0 h.1 known (nat_eq z.sender.route.from lane.sender.route.from) refl
    ]) safe.known
  where
    by : (j : ℕ) (z : Lane) → slice_get s.lanes j ≡ Some z → (place ≡ j → ⊥) → IsKnown first s → (b : Bool) → nat_eq z.sender.route.from lane.sender.route.from ≡ b → Carry first s (record s { lanes = slice_set s.lanes place (record lane { receiver = drained lane.receiver }); taken = taken }) (λ x. ⊥) j z
    by j z h other known false e = record { lane = z; at = h; same = same_lane z; wanted = omega arith; front = front_elsewhere first s.taken taken lane z q m to (safe.routed place lane at) e more_is (known.front j z h); honest = λ x no. absurd no }
    by j z h other known true e = absurd (other (safe.alone place j lane z at h (sym (eqb-true _ _ e))))

-- what is known stays known
known_step : (q m to : ℕ) (first : ℕ → List ℕ) (s t : Exchange) → IsWithin q m to → Step s t → IsSafe q m to first s → WhereKnown t.link.may (IsKnown first t)
known_step q m to first s t within (sends h) safe =
    subst (λ (u : Exchange). WhereKnown u.link.may (IsKnown first u)) (sym h.is) (known_sends q m to first s h.place h.lane h.left h.bytes h.result h.link _ within h.at h.says h.sent safe)
known_step q m to first s t within (answers_it h) safe =
    subst (λ (u : Exchange). WhereKnown u.link.may (IsKnown first u)) (sym h.is) (known_answers q m to first s h.place h.lane h.result h.link _ within h.at h.seq h.sent safe)
known_step q m to first s t within (is_told h) safe =
    let x = take h.count h.into in
    subst (λ (u : Exchange). WhereKnown u.link.may (IsKnown first u)) (sym h.is)
    (known_set q m to first s h.place h.lane (acknowledged h.lane h.n) h.link _ s.owed h.at (acked_same h.lane h.n) (omega arith) h.next.may
    (front_where first s x h.place h.lane (acknowledged h.lane h.n) h.next.came.1.may h.at (front_acked first s.taken h.lane h.n x h.ack) safe.known))
known_step q m to first s t within (hears h) safe =
    let x = take h.count h.into in
    let left : Lane = record h.lane { receiver = received h.lane.receiver x } in
    subst (λ (u : Exchange). WhereKnown u.link.may (IsKnown first u)) (sym h.is)
    (known_set q m to first s h.place h.lane left h.link s.base _ h.at (record { sends = refl; takes = refl; stream = refl }) (received_grows h.lane.receiver x) h.next.may
    (front_where first s x h.place h.lane left h.next.came.1.may h.at (front_received q m to first s.taken h.lane x (safe.routed h.place h.lane h.at)) safe.known))
known_step q m to first s t within (misses h) safe =
    subst (λ (u : Exchange). WhereKnown u.link.may (IsKnown first u)) (sym h.is) (known_link q m to first s h.link s.owed h.fault h.next.may safe)
known_step q m to first s t within (rests h) safe =
    subst (λ (u : Exchange). WhereKnown u.link.may (IsKnown first u)) (sym h.is) (known_rests q m to first s h.link h.next.may safe)
known_step q m to first s t within (fails h) safe =
    subst (λ (u : Exchange). WhereKnown u.link.may (IsKnown first u)) (sym h.is) (known_link q m to first s h.link s.owed _ h.next.may safe)
known_step q m to first s t within (hands_over h) safe =
    subst (λ (u : Exchange). WhereKnown u.link.may (IsKnown first u)) (sym h.is) (known_hands q m to first s h.place h.lane h.taken h.at h.more safe)
known_step q m to first s t within (gives_up is) safe =
    subst (λ (u : Exchange). WhereKnown u.link.may (IsKnown first u)) (sym is) (known_same q m to first s safe)

routed_on : (q m to : ℕ) (y z : Lane) → Same y z → IsRouted q m to y → IsRouted q m to z
routed_on q m to y z same routed = record {
  same = same.takes ∙ routed.same ∙ sym same.sends;
  query = ap (λ (r : Route). r.query) same.sends ∙ routed.query;
  motion = ap (λ (r : Route). r.motion) same.sends ∙ routed.motion;
  to = ap (λ (r : Route). r.to) same.sends ∙ routed.to;
  from_node = subst (λ (r : Route). r.from < 16) (sym same.sends) routed.from_node;
}

pub safe_step : (q m to : ℕ) (first : ℕ → List ℕ) (s t : Exchange) → IsWithin q m to → Step s t → IsSafe q m to first s → IsSafe q m to first t
safe_step q m to first s t within step safe = record {
  routed = λ j z e. (let b = before s t j z step e in routed_on q m to b.lane z b.same (safe.routed j b.lane b.at));
  alone = λ i j x y ex ey same.
      let a = before s t i x step ex in
      let b = before s t j y step ey in
      safe.alone i j a.lane b.lane a.at b.at (sym (ap (λ (r : Route). r.from) a.same.sends) ∙ same ∙ ap (λ (r : Route). r.from) b.same.sends);
  known = known_step q m to first s t within step safe;
}

pub safe_run : (q m to : ℕ) (first : ℕ → List ℕ) (s t : Exchange) → IsWithin q m to → Run s t → IsSafe q m to first s → IsSafe q m to first t
safe_run q m to first s t within still safe = safe
safe_run q m to first s t within (more u w run step) safe = safe_step q m to first u w within step (safe_run q m to first s u within run safe)
