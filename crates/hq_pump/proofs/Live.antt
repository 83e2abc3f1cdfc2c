-- Over a sound link that isn't too rough an exchange is not lost: while its lowest number moves, the link isn't empty;
-- and between two Quiets with nothing flying there is a trouble of another sort or a new acknowledgement.
use Rattle.std.proofs.Common.{◌≡◌, ◌⊎◌, ℕ, zero, suc, ◌+◌, ◌-◌, ◌^◌, ◌<◌, ◌≤◌, Bool, true, false, ◌&&◌, ◌||◌, cond, ltb, leb, nat_eq, List, [], ◌∷◌, ◌++◌, length, Option, Some, None, Ok, refl, sym, ap, subst, ◌∙◌, arith, inl, inr}
use Rattle.std.specs.Prelude.{slice_get, slice_set}
use Rattle.std.proofs.lemmas.Bool.{and_from, and_parts, cases_eq, cases_lt, eq-eqb, eqb-true, le-leb, leb-true, lt-ltb, ltb-false, ltb-true}
use Rattle.hq_stream.specs.Piece.{Piece, Bytes, End, eos}
use Rattle.hq_stream.specs.TwoEnds.{Sent}
use Rattle.hq_stream.specs.Receiving.{Receiving, taken, filled_up, is_over, came}
use Rattle.hq_stream.proofs.Taking.{came_grows}
use Rattle.hq_link.specs.declared.datagram.Datagram.{Datagram}
use Rattle.hq_link.specs.declared.datagram.Packet.{Packet}
use Rattle.hq_link.specs.declared.datagram.Packet.TheVariants.{Data, Eos, Ack, Probe}
use Rattle.hq_link.specs.declared.route.Route.{Route}
use Rattle.hq_link.specs.Gram.{gram_bytes}
use Rattle.hq_link.specs.Link.{LinkState, IsSent}
use Rattle.hq_link.specs.Reading.{gram_at}
use Rattle.hq_link.specs.Streams.{gram, ack_of, is_of, piece_of, number_of, piece_for, ack_for, piece_in, ack_in, is_probe_of}
use Rattle.hq_send.specs.Sending.{Sending, due_now, after_due, in_window, is_new}
use Rattle.hq_recv.specs.Taking.{took, took_of, after, drained}
use Rattle.hq_recv.specs.declared.took.Took.TheVariants.{New, Old, Ahead, Foreign}
use Rattle.hq_pump.specs.declared.lane.Lane.{Lane}
use Rattle.hq_pump.specs.Exchange.{Exchange, Says, piece, probe, IsItsOwn, IsNobodys, received, owes, answers, asked_again, is_done}
use Rattle.hq_pump.specs.Safe.{IsFront, IsRouted, IsWithin}
use Rattle.hq_pump.proofs.Safety.{same_some, said_same, due_acked, own_piece, own_number, fits, brings as brings_bytes}
use Rattle.hq_pump.proofs.Steps.{get_set, due_route}
use Rattle.hq_pump.proofs.Flying.{Flies, flies_sent, flies_new}

-- a datagram that will raise the lowest number: it brings the piece of that number, or tells of a higher one
pub data Carries (lane : Lane) (x : List ℕ) : Type 0 where
  brings : (p : Sent) → piece_in lane.sender.route x ≡ Some p → p.number ≡ lane.sender.acked → Carries lane x
  tells : (n : ℕ) → ack_in lane.sender.route x ≡ Some n → lane.sender.acked < n → Carries lane x

-- the lowest number is due
abbrev pub IsDue : Sending → Type 0
IsDue s = (s.again ≡ true) ⊎ (s.next ≡ s.acked)

-- why the lowest number will rise: it is due, a datagram that raises it is flying, or such an answer is owed
pub data Moves (link : LinkState) (owing : Option ℕ) (place : ℕ) (lane : Lane) : Type 0 where
  due : IsDue lane.sender → Moves link owing place lane
  flies : (x : List ℕ) → Flies link x → Carries lane x → Moves link owing place lane
  owed : owing ≡ Some place → lane.sender.acked < lane.receiver.state.wanted → Moves link owing place lane

-- a stream that isn't acknowledged to its end, and whose lowest number will rise
pub record IsAlive (s : Exchange) : Type 0 where
  pub place : ℕ
  pub lane : Lane
  pub at_it : slice_get s.lanes place ≡ Some lane
  pub goes_on : lane.sender.acked ≤ eos lane.sender.stream
  pub moves : Moves s.link s.owed place lane

pub record IsHere (s : Exchange) (place : ℕ) (lane : Lane) : Type 0 where
  pub goes_on : lane.sender.acked ≤ eos lane.sender.stream
  pub moves : Moves s.link s.owed place lane

pub record IsElsewhere (s : Exchange) (place : ℕ) : Type 0 where
  pub alive : IsAlive s
  pub other : place ≡ alive.place → ⊥

-- it is the stream at a place, or another one
pub alive_cases : (s : Exchange) (place : ℕ) (lane : Lane) → slice_get s.lanes place ≡ Some lane → IsAlive s → IsHere s place lane ⊎ IsElsewhere s place
alive_cases s place lane at a = elim (cases_eq place a.place) [
  | inl same ↦
      let is : a.lane ≡ lane = same_some (slice_get s.lanes a.place) a.lane lane a.at_it (subst (λ k. slice_get s.lanes k ≡ Some lane) same at) in
      inl (record {
        goes_on = subst (λ (l : Lane). l.sender.acked ≤ eos l.sender.stream) is a.goes_on;
        moves = subst (λ k. Moves s.link s.owed k lane) (sym same) (subst (Moves s.link s.owed a.place) is a.moves);
      })
  | inr other ↦ inr (record { alive = a; other = other })
]

pub get_other : (xs : List Lane) (i j : ℕ) (y z : Lane) → slice_get xs j ≡ Some z → (i ≡ j → ⊥) → slice_get (slice_set xs i y) j ≡ Some z
get_other [] i j y z e other = absurd cc
get_other (x ∷ xs) zero zero y z e other = absurd (other refl)
get_other (x ∷ xs) zero (suc j) y z e other = e
get_other (x ∷ xs) (suc i) zero y z e other = e
get_other (x ∷ xs) (suc i) (suc j) y z e other = get_other xs i j y z e (λ same. other (ap suc same))

pub carries_on : (y z : Lane) (x : List ℕ) → z.sender.route ≡ y.sender.route → z.sender.acked ≡ y.sender.acked → Carries y x → Carries z x
carries_on y z x route acked (brings p e is) = brings p (subst (λ (r : Route). piece_in r x ≡ Some p) (sym route) e) (is ∙ sym acked)
carries_on y z x route acked (tells n e lt) = tells n (subst (λ (r : Route). ack_in r x ≡ Some n) (sym route) e) (omega (arith, acked, lt))

-- where the lowest number is due, no other is due before it
due_first : (s : Sending) (n : ℕ) → IsDue s → due_now s ≡ Some n → n ≡ s.acked
due_first s n there e = by s.again (in_window s s.next) refl e
  where
    by : (a b : Bool) → s.again ≡ a → cond a (Some s.acked) (cond b (Some s.next) None) ≡ Some n → n ≡ s.acked
    by true b is e = let same : s.acked ≡ n = cc in sym same
    by false true is e =
        let same : s.next ≡ n = cc in
        elim there [ inl on ↦ (let no : true ≡ false = sym on ∙ is in absurd cc) | inr first ↦ sym same ∙ first ]
    by false false is e = absurd cc

-- where nothing is due, the lowest number isn't
pub not_due : (s : Sending) → due_now s ≡ None → s.acked ≤ eos s.stream → IsDue s → ⊥
not_due s e within there = by s.again (in_window s s.next) refl refl e
  where
    by : (a b : Bool) → s.again ≡ a → in_window s s.next ≡ b → cond a (Some s.acked) (cond b (Some s.next) None) ≡ None → ⊥
    by true b is window e = absurd cc
    by false true is window e = absurd cc
    by false false is window e = elim there [
      | inl on ↦ (let no : true ≡ false = sym on ∙ is in absurd cc)
      | inr first ↦
          let inside : in_window s s.next ≡ true = and_from (leb s.next (eos s.stream)) (ltb s.next (s.acked + 16)) (le-leb _ _ (omega (arith, first, within))) (lt-ltb _ _ (omega (arith, first))) in
          let no : true ≡ false = sym inside ∙ window in
          absurd cc
    ]

-- what is said where the lowest number is due is that one, or it is due still
said_due : (q m to : ℕ) (lane left : Lane) (bytes : List ℕ) → IsWithin q m to → IsRouted q m to lane → Says lane bytes left → IsDue lane.sender → Carries left bytes ⊎ IsDue left.sender
said_due q m to lane left bytes within routed (piece n (Bytes b) small is there) again =
    let fit = fits q m to Data lane n b within routed small (brings_bytes lane.sender.stream n b there) in
    let own : Carries lane (gram_bytes (gram Data lane.sender.route n b)) = brings (record { number = n; piece = Bytes b }) (own_piece Data lane.sender.route n b fit) (due_first lane.sender n again is) in
    inl (carries_on lane (record lane { sender = after_due lane.sender }) _ (due_route lane.sender) (due_acked lane.sender) own)
said_due q m to lane left bytes within routed (piece n End small is there) again =
    let fit = fits q m to Eos lane n [] within routed small refl in
    let own : Carries lane (gram_bytes (gram Eos lane.sender.route n [])) = brings (record { number = n; piece = End }) (own_piece Eos lane.sender.route n [] fit) (due_first lane.sender n again is) in
    inl (carries_on lane (record lane { sender = after_due lane.sender }) _ (due_route lane.sender) (due_acked lane.sender) own)
said_due q m to lane left bytes within routed (probe small) again = inr again

pub said_acked : (lane left : Lane) (bytes : List ℕ) → Says lane bytes left → left.sender.acked ≡ lane.sender.acked
said_acked lane left bytes (piece n p small is there) = due_acked lane.sender
said_acked lane left bytes (probe small) = refl

no_owed : (o : Option ℕ) (i : ℕ) → o ≡ None → o ≡ Some i → ⊥
no_owed o i none e = let no : None ≡ Some i = sym none ∙ e in absurd cc

-- an end has sent something
pub alive_sends : (q m to : ℕ) (s t : Exchange) (place : ℕ) (lane left : Lane) (bytes : List ℕ) (all : List (List ℕ)) → IsWithin q m to → IsRouted q m to lane → slice_get s.lanes place ≡ Some lane → Says lane bytes left → s.owed ≡ None → s.link.flying ≡ Some all → IsSent s.link bytes (Ok tt) t.link → t.lanes ≡ slice_set s.lanes place left → t.owed ≡ s.owed → IsAlive s → IsAlive t
alive_sends q m to s t place lane left bytes all within routed at says none told sent lanes owing a = elim (alive_cases s place lane at a) [
  | inl here ↦ record {
    place = place;
    lane = left;
    at_it = subst (λ (xs : List Lane). slice_get xs place ≡ Some left) (sym lanes) (get_set s.lanes place lane left at);
    goes_on = (let acked = said_acked lane left bytes says in let stream : eos left.sender.stream ≡ eos lane.sender.stream = ap eos (said_same lane left bytes says).stream in omega (arith, acked, stream, here.goes_on));
    moves = by here.moves;
  }
  | inr e ↦ record {
    place = e.alive.place;
    lane = e.alive.lane;
    at_it = subst (λ (xs : List Lane). slice_get xs e.alive.place ≡ Some e.alive.lane) (sym lanes) (get_other s.lanes place e.alive.place left e.alive.lane e.alive.at_it e.other);
    goes_on = e.alive.goes_on;
    moves = on e.alive.place e.alive.lane e.alive.moves;
  }
]
  where
    by : Moves s.link s.owed place lane → Moves t.link t.owed place left
    by (due d) = elim (said_due q m to lane left bytes within routed says d) [
      | inl c ↦ flies bytes (flies_new s.link t.link bytes all told sent.sent.flying) c
      | inr still ↦ due still
    ]
    by (flies x f c) = flies x (flies_sent s.link t.link bytes x sent.sent.flying f) (carries_on lane left x (said_same lane left bytes says).sends (said_acked lane left bytes says) c)
    by (owed e lt) = absurd (no_owed s.owed place none e)

    on : (i : ℕ) (z : Lane) → Moves s.link s.owed i z → Moves t.link t.owed i z
    on i z (due d) = due d
    on i z (flies x f c) = flies x (flies_sent s.link t.link bytes x sent.sent.flying f) c
    on i z (owed e lt) = absurd (no_owed s.owed i none e)

-- the answer that was owed is on its way
pub alive_answers : (q m to : ℕ) (s t : Exchange) (place : ℕ) (lane : Lane) (all : List (List ℕ)) → IsWithin q m to → IsRouted q m to lane → slice_get s.lanes place ≡ Some lane → s.owed ≡ Some place → lane.receiver.state.wanted < 2 ^ 64 → s.link.flying ≡ Some all → IsSent s.link (gram_bytes (ack_of lane.receiver.route lane.receiver.state.wanted)) (Ok tt) t.link → t.lanes ≡ s.lanes → IsAlive s → IsAlive t
alive_answers q m to s t place lane all within routed at owing small told sent lanes a = record {
  place = a.place;
  lane = a.lane;
  at_it = subst (λ (xs : List Lane). slice_get xs a.place ≡ Some a.lane) (sym lanes) a.at_it;
  goes_on = a.goes_on;
  moves = by a.moves;
}
  where
    told_of : (z : Lane) → z ≡ lane → z.sender.acked < z.receiver.state.wanted → Carries z (gram_bytes (ack_of lane.receiver.route lane.receiver.state.wanted))
    told_of z is lt =
        let fit = fits q m to Ack lane lane.receiver.state.wanted [] within routed small refl in
        let here : ack_in lane.sender.route (gram_bytes (ack_of lane.sender.route lane.receiver.state.wanted)) ≡ Some lane.receiver.state.wanted = own_number Ack lane.sender.route lane.receiver.state.wanted [] fit in
        let there = subst (λ (r : Route). ack_in lane.sender.route (gram_bytes (ack_of r lane.receiver.state.wanted)) ≡ Some lane.receiver.state.wanted) (sym routed.same) here in
        let less : lane.sender.acked < lane.receiver.state.wanted = subst (λ (l : Lane). l.sender.acked < l.receiver.state.wanted) is lt in
        let own : Carries lane (gram_bytes (ack_of lane.receiver.route lane.receiver.state.wanted)) = tells lane.receiver.state.wanted there less in
        subst (λ (l : Lane). Carries l (gram_bytes (ack_of lane.receiver.route lane.receiver.state.wanted))) (sym is) own

    by : Moves s.link s.owed a.place a.lane → Moves t.link t.owed a.place a.lane
    by (due d) = due d
    by (flies x f c) = flies x (flies_sent s.link t.link (gram_bytes (ack_of lane.receiver.route lane.receiver.state.wanted)) x sent.sent.flying f) c
    by (owed e lt) =
        let both : Some place ≡ Some a.place = sym owing ∙ e in
        let same : place ≡ a.place = cc in
        let is : a.lane ≡ lane = same_some (slice_get s.lanes a.place) a.lane lane a.at_it (subst (λ k. slice_get s.lanes k ≡ Some lane) same at) in
        flies (gram_bytes (ack_of lane.receiver.route lane.receiver.state.wanted)) (flies_new s.link t.link (gram_bytes (ack_of lane.receiver.route lane.receiver.state.wanted)) all told sent.sent.flying) (told_of a.lane is lt)

-- what was accepted is handed over
pub alive_hands : (s t : Exchange) (place : ℕ) (lane : Lane) → slice_get s.lanes place ≡ Some lane → t.lanes ≡ slice_set s.lanes place (record lane { receiver = drained lane.receiver }) → t.link ≡ s.link → t.owed ≡ s.owed → IsAlive s → IsAlive t
alive_hands s t place lane at lanes link owing a = elim (alive_cases s place lane at a) [
  | inl here ↦ record {
    place = place;
    lane = record lane { receiver = drained lane.receiver };
    at_it = subst (λ (xs : List Lane). slice_get xs place ≡ Some (record lane { receiver = drained lane.receiver })) (sym lanes) (get_set s.lanes place lane (record lane { receiver = drained lane.receiver }) at);
    goes_on = here.goes_on;
    moves = subst (λ (l : LinkState). Moves l t.owed place (record lane { receiver = drained lane.receiver })) (sym link) (subst (λ (o : Option ℕ). Moves s.link o place (record lane { receiver = drained lane.receiver })) (sym owing) (by here.moves));
  }
  | inr e ↦ record {
    place = e.alive.place;
    lane = e.alive.lane;
    at_it = subst (λ (xs : List Lane). slice_get xs e.alive.place ≡ Some e.alive.lane) (sym lanes) (get_other s.lanes place e.alive.place (record lane { receiver = drained lane.receiver }) e.alive.lane e.alive.at_it e.other);
    goes_on = e.alive.goes_on;
    moves = subst (λ (l : LinkState). Moves l t.owed e.alive.place e.alive.lane) (sym link) (subst (λ (o : Option ℕ). Moves s.link o e.alive.place e.alive.lane) (sym owing) e.alive.moves);
  }
]
  where
    by : Moves s.link s.owed place lane → Moves s.link s.owed place (record lane { receiver = drained lane.receiver })
    by (due d) = due d
    by (flies x f c) = flies x f (carries_on lane (record lane { receiver = drained lane.receiver }) x refl refl c)
    by (owed e lt) = owed e lt

-- where it is time to ask the link, what will raise the lowest number is flying
pub record IsFlying (s : Exchange) (a : IsAlive s) : Type 0 where
  pub x : List ℕ
  pub flying : Flies s.link x
  pub carries : Carries a.lane x

pub alive_flies : (s : Exchange) (a : IsAlive s) → due_now a.lane.sender ≡ None → s.owed ≡ None → IsFlying s a
alive_flies s a idle none = by a.moves
  where
    by : Moves s.link s.owed a.place a.lane → IsFlying s a
    by (due d) = absurd (not_due a.lane.sender idle a.goes_on d)
    by (flies x f c) = record { x = x; flying = f; carries = c }
    by (owed e lt) = absurd (no_owed s.owed a.place none e)

-- whose a datagram is
pub record IsFrom (route : Route) (o : Option Datagram) : Type 0 where
  pub datagram : Datagram
  pub is : o ≡ Some datagram
  pub from : datagram.from ≡ route.from

of_from : (route : Route) (d : Datagram) → is_of route d ≡ true → d.from ≡ route.from
of_from route d e = eqb-true _ _ (and_parts (nat_eq d.from route.from) _ e).0

on_some : {A : Type 0} (b : Bool) (o : Option A) (x : A) → cond b o None ≡ Some x → b ≡ true
on_some true o x e = refl
on_some false o x e = absurd cc

pub from_piece : (route : Route) (o : Option Datagram) (p : Sent) → piece_for route o ≡ Some p → IsFrom route o
from_piece route None p e = absurd cc
from_piece route (Some d) p e = record { datagram = d; is = refl; from = of_from route d (on_some (is_of route d) (piece_of d.kind d.seq d.payload) p e) }

pub from_ack : (route : Route) (o : Option Datagram) (n : ℕ) → ack_for route o ≡ Some n → IsFrom route o
from_ack route None n e = absurd cc
from_ack route (Some d) n e = record { datagram = d; is = refl; from = of_from route d (on_some (is_of route d) (number_of d.kind d.seq) n e) }

pub carries_from : (lane : Lane) (x : List ℕ) → Carries lane x → IsFrom lane.sender.route (gram_at x)
carries_from lane x (brings p e is) = from_piece lane.sender.route (gram_at x) p e
carries_from lane x (tells n e lt) = from_ack lane.sender.route (gram_at x) n e

pub same_datagram : (o : Option Datagram) (d e : Datagram) → o ≡ Some d → o ≡ Some e → d ≡ e
same_datagram o d e f g = let both : Some d ≡ Some e = sym f ∙ g in cc

-- an acknowledgement brings no piece
no_piece : (b c : Bool) (kind : Packet) (k : ℕ) (payload : List ℕ) (n : ℕ) → cond b (number_of kind k) None ≡ Some n → cond c (piece_of kind k payload) None ≡ None
no_piece true c Data k payload n e = absurd cc
no_piece true c Eos k payload n e = absurd cc
no_piece true c Probe k payload n e = absurd cc
no_piece true true Ack k payload n e = refl
no_piece true false Ack k payload n e = refl
no_piece false c kind k payload n e = absurd cc

pub ack_no_piece : (route other : Route) (o : Option Datagram) (n : ℕ) → ack_for route o ≡ Some n → piece_for other o ≡ None
ack_no_piece route other None n e = refl
ack_no_piece route other (Some d) n e = no_piece (is_of route d) (is_of other d) d.kind d.seq d.payload n e

-- an acknowledgement that isn't new raises no lowest number
pub not_carried : (lane y : Lane) (x : List ℕ) (n : ℕ) → ack_in lane.sender.route x ≡ Some n → is_new lane.sender n ≡ false → n ≤ suc (eos lane.sender.stream) → (lane.sender.route.from ≡ y.sender.route.from → y ≡ lane) → Carries y x → ⊥
not_carried lane y x n ack old within alone (brings p e is) =
    let none = ack_no_piece lane.sender.route y.sender.route (gram_at x) n ack in
    let no : None ≡ Some p = sym none ∙ e in
    absurd cc
not_carried lane y x n ack old within alone (tells k e lt) =
    let a = from_ack lane.sender.route (gram_at x) n ack in
    let b = from_ack y.sender.route (gram_at x) k e in
    let same = same_datagram (gram_at x) a.datagram b.datagram a.is b.is in
    let is : y ≡ lane = alone (sym a.from ∙ ap (λ (d : Datagram). d.from) same ∙ b.from) in
    let here : ack_in lane.sender.route x ≡ Some k = subst (λ (l : Lane). ack_in l.sender.route x ≡ Some k) is e in
    let both : Some k ≡ Some n = sym here ∙ ack in
    let number : k ≡ n = cc in
    let less : lane.sender.acked < k = subst (λ (l : Lane). l.sender.acked < k) is lt in
    let new : is_new lane.sender n ≡ true = and_from (ltb lane.sender.acked n) (leb n (suc (eos lane.sender.stream))) (lt-ltb _ _ (omega (arith, number, less))) (le-leb _ _ within) in
    let no : true ≡ false = sym new ∙ old in
    absurd cc

pub taken_grows : (n : ℕ) (got : List ℕ) (kept : List (Option Piece)) → n ≤ (taken n got kept).wanted
taken_grows n got [] = omega arith
taken_grows n got (None ∷ kept) = omega arith
taken_grows n got (Some (Bytes bytes) ∷ kept) = omega (arith, taken_grows (suc n) (got ++ bytes) kept)
taken_grows n got (Some End ∷ kept) = omega arith

first_taken : (n i : ℕ) (got : List ℕ) (kept : List (Option Piece)) (p : Piece) → i ≡ 0 → 0 < length kept → suc n ≤ (taken n got (slice_set kept i (Some p))).wanted
first_taken n i got [] p e some = absurd (omega (arith, some))
first_taken n (suc i) got (k ∷ kept) p e some = absurd (omega (arith, e))
first_taken n zero got (k ∷ kept) (Bytes bytes) e some = taken_grows (suc n) (got ++ bytes) kept
first_taken n zero got (k ∷ kept) End e some = omega arith

-- what holds of both ends of each stream
pub record IsFit (lane : Lane) : Type 0 where
  pub behind : lane.sender.acked ≤ lane.sender.next
  pub places : 0 < length lane.receiver.state.kept
  pub short : eos lane.sender.stream < 2 ^ 60

-- the piece of the lowest number raises the wanted number above it, and is answered
took_lowest : (r : Receiving) (n : ℕ) → n ≤ r.wanted → (r.wanted ≤ n → is_over r ≡ false) → answers (took_of r n) ≡ true
took_lowest r n low over = by (ltb n r.wanted) refl (is_over r) (leb (r.wanted + 16) n) (nat_eq n r.wanted) refl refl refl
  where
    by : (a : Bool) → ltb n r.wanted ≡ a → (b c d : Bool) → is_over r ≡ b → leb (r.wanted + 16) n ≡ c → nat_eq n r.wanted ≡ d → answers (cond a Old (cond (b || c) Foreign (cond d New Ahead))) ≡ true
    by true ea b c d eb ec ed = refl
    by false ea true c d eb ec ed = let no : true ≡ false = sym eb ∙ over (ltb-false n r.wanted ea) in absurd cc
    by false ea false true d eb ec ed = absurd (omega (arith, leb-true (r.wanted + 16) n ec, low))
    by false ea false false true eb ec ed = refl
    by false ea false false false eb ec ed = refl

came_lowest : (r : Receiving) (n : ℕ) (p : Piece) → n ≤ r.wanted → (r.wanted ≤ n → is_over r ≡ false) → 0 < length r.kept → n < (came r n p).wanted
came_lowest r n p low over some = elim (cases_lt n r.wanted) [
  | inl below ↦ omega (arith, below, came_grows r n p)
  | inr above ↦ by above (is_over r) (ltb n r.wanted) (leb (r.wanted + 16) n) refl refl refl
]
  where
    by : r.wanted ≤ n → (a b c : Bool) → is_over r ≡ a → ltb n r.wanted ≡ b → leb (r.wanted + 16) n ≡ c → n < (cond (a || (b || c)) r (filled_up (taken r.wanted r.got (slice_set r.kept (n - r.wanted) (Some p))))).wanted
    by above true b c ea eb ec = let no : true ≡ false = sym ea ∙ over above in absurd cc
    by above false true c ea eb ec = absurd (omega (arith, ltb-true n r.wanted eb, above))
    by above false false true ea eb ec = absurd (omega (arith, leb-true (r.wanted + 16) n ec, low))
    by above false false false ea eb ec = omega (arith, low, above, first_taken r.wanted (n - r.wanted) r.got r.kept p (omega (arith, low)) some)

not_over : (first now : ℕ → List ℕ) (lane : Lane) → IsFront first now lane → IsFit lane → lane.sender.acked ≤ eos lane.sender.stream → lane.receiver.state.wanted ≤ lane.sender.acked → is_over lane.receiver.state ≡ false
not_over first now lane front fit goes_on low = by lane.receiver.state.ended (leb (2 ^ 64 - 16) lane.receiver.state.wanted) refl refl
  where
    by : (a b : Bool) → lane.receiver.state.ended ≡ a → leb (2 ^ 64 - 16) lane.receiver.state.wanted ≡ b → (a || b) ≡ false
    by true b ea eb = absurd (omega (arith, front.is_of.ended ea, low, goes_on))
    by false true ea eb = absurd (omega (arith, leb-true (2 ^ 64 - 16) lane.receiver.state.wanted eb, low, goes_on, fit.short))
    by false false ea eb = refl

pub lowest_heard : (first now : ℕ → List ℕ) (lane : Lane) (x : List ℕ) (p : Sent) → lane.receiver.route ≡ lane.sender.route → IsFront first now lane → IsFit lane → lane.sender.acked ≤ eos lane.sender.stream → piece_in lane.sender.route x ≡ Some p → p.number ≡ lane.sender.acked → (owes lane.receiver x ≡ true) × (lane.sender.acked < (received lane.receiver x).state.wanted)
lowest_heard first now lane x p route front fit goes_on e is =
    let here : piece_in lane.receiver.route x ≡ Some p = subst (λ (r : Route). piece_in r x ≡ Some p) (sym route) e in
    let low : p.number ≤ lane.receiver.state.wanted = omega (arith, is, front.acked) in
    let over : lane.receiver.state.wanted ≤ p.number → is_over lane.receiver.state ≡ false = λ le. not_over first now lane front fit goes_on (omega (arith, le, is)) in
    let answered : answers (took lane.receiver.state (piece_in lane.receiver.route x)) ≡ true = ap (λ (o : Option Sent). answers (took lane.receiver.state o)) here ∙ took_lowest lane.receiver.state p.number low over in
    let rises : lane.sender.acked < (after lane.receiver.state (Some p)).wanted = omega (arith, is, came_lowest lane.receiver.state p.number p.piece low over fit.places) in (
      ap (λ b. b || is_probe_of lane.receiver.route x) answered,
      subst (λ (o : Option Sent). lane.sender.acked < (after lane.receiver.state o).wanted) (sym here) rises,
    )

-- what is heard raises the lowest number, or what raises it still flies
pub alive_hears : (first : ℕ → List ℕ) (s t : Exchange) (a : IsAlive s) (place : ℕ) (lane : Lane) (x : List ℕ) → slice_get s.lanes place ≡ Some lane → due_now a.lane.sender ≡ None → s.owed ≡ None → lane.receiver.route ≡ lane.sender.route → IsFront first s.taken lane → IsFit lane → ((i j : ℕ) (y z : Lane) → slice_get s.lanes i ≡ Some y → slice_get s.lanes j ≡ Some z → y.sender.route.from ≡ z.sender.route.from → i ≡ j) → IsItsOwn lane (gram_at x) → ack_in lane.sender.route x ≡ None → ((z : List ℕ) → Flies s.link z → (z ≡ x) ⊎ Flies t.link z) → t.lanes ≡ slice_set s.lanes place (record lane { receiver = received lane.receiver x }) → t.owed ≡ cond (owes lane.receiver x) (Some place) None → IsAlive t
alive_hears first s t a place lane x at idle none route front fit alone own no_ack on lanes owing =
    let f = alive_flies s a idle none in
    elim (on f.x f.flying) [
      | inl same ↦ came_here (subst (Carries a.lane) same f.carries)
      | inr still ↦ elsewhere f.x still f.carries
    ]
  where
    at_place : slice_get t.lanes place ≡ Some (record lane { receiver = received lane.receiver x })
    at_place = subst (λ (xs : List Lane). slice_get xs place ≡ Some (record lane { receiver = received lane.receiver x })) (sym lanes) (get_set s.lanes place lane (record lane { receiver = received lane.receiver x }) at)

    heard : lane.sender.acked ≤ eos lane.sender.stream → Carries lane x → IsAlive t
    heard goes_on (brings p e is) =
        let h = lowest_heard first s.taken lane x p route front fit goes_on e is in
        record { place = place; lane = record lane { receiver = received lane.receiver x }; at_it = at_place; goes_on = goes_on; moves = owed (owing ∙ ap (λ b. cond b (Some place) None) h.0) h.1 }
    heard goes_on (tells n e lt) = let no : None ≡ Some n = sym no_ack ∙ e in absurd cc

    whose : (o : Option Datagram) (d : Datagram) → o ≡ Some d → IsItsOwn lane o → lane.sender.route.from ≡ d.from
    whose None d e is = absurd is
    whose (Some c) d e is = let same : c ≡ d = cc in eqb-true lane.sender.route.from c.from is ∙ ap (λ (g : Datagram). g.from) same

    came_here : Carries a.lane x → IsAlive t
    came_here c =
        let from = carries_from a.lane x c in
        let same : place ≡ a.place = alone place a.place lane a.lane at a.at_it (whose (gram_at x) from.datagram from.is own ∙ from.from) in
        let is : a.lane ≡ lane = same_some (slice_get s.lanes a.place) a.lane lane a.at_it (subst (λ k. slice_get s.lanes k ≡ Some lane) same at) in
        heard (subst (λ (l : Lane). l.sender.acked ≤ eos l.sender.stream) is a.goes_on) (subst (λ (l : Lane). Carries l x) is c)

    elsewhere : (z : List ℕ) → Flies t.link z → Carries a.lane z → IsAlive t
    elsewhere z f c = elim (cases_eq place a.place) [
      | inl same ↦
          let is : a.lane ≡ lane = same_some (slice_get s.lanes a.place) a.lane lane a.at_it (subst (λ k. slice_get s.lanes k ≡ Some lane) same at) in
          record {
            place = place;
            lane = record lane { receiver = received lane.receiver x };
            at_it = at_place;
            goes_on = subst (λ (l : Lane). l.sender.acked ≤ eos l.sender.stream) is a.goes_on;
            moves = flies z f (carries_on lane (record lane { receiver = received lane.receiver x }) z refl refl (subst (λ (l : Lane). Carries l z) is c));
          }
      | inr other ↦ record {
        place = a.place;
        lane = a.lane;
        at_it = subst (λ (xs : List Lane). slice_get xs a.place ≡ Some a.lane) (sym lanes) (get_other s.lanes place a.place (record lane { receiver = received lane.receiver x }) a.lane a.at_it other);
        goes_on = a.goes_on;
        moves = flies z f c;
      }
    ]

-- what came raises no lowest number, so what raises it still flies
pub alive_still : (s t : Exchange) (a : IsAlive s) (x : List ℕ) → due_now a.lane.sender ≡ None → s.owed ≡ None → (Carries a.lane x → ⊥) → ((z : List ℕ) → Flies s.link z → (z ≡ x) ⊎ Flies t.link z) → t.lanes ≡ s.lanes → IsAlive t
alive_still s t a x idle none never on lanes =
    let f = alive_flies s a idle none in
    elim (on f.x f.flying) [
      | inl same ↦ absurd (never (subst (Carries a.lane) same f.carries))
      | inr still ↦ record { place = a.place; lane = a.lane; at_it = subst (λ (xs : List Lane). slice_get xs a.place ≡ Some a.lane) (sym lanes) a.at_it; goes_on = a.goes_on; moves = flies f.x still f.carries }
    ]

-- nobody's datagram raises none
pub nobodys_not : (lanes : List Lane) (i : ℕ) (lane : Lane) (x : List ℕ) → slice_get lanes i ≡ Some lane → IsNobodys lanes (gram_at x) → Carries lane x → ⊥
nobodys_not lanes i lane x at nobodys c =
    let from = carries_from lane x c in
    let none : IsNobodys lanes (Some from.datagram) = subst (IsNobodys lanes) from.is nobodys in
    let differs : nat_eq lane.sender.route.from from.datagram.from ≡ false = none i lane at in
    let same : nat_eq lane.sender.route.from from.datagram.from ≡ true = eq-eqb _ _ (sym from.from) in
    let no : true ≡ false = sym same ∙ differs in
    absurd cc

-- a stream that isn't done isn't acknowledged to its end
pub not_sent : (first now : ℕ → List ℕ) (lane : Lane) → IsFront first now lane → is_done lane ≡ false → lane.sender.acked ≤ eos lane.sender.stream
not_sent first now lane front e = by (ltb (eos lane.sender.stream) lane.sender.acked) lane.receiver.state.ended refl refl e
  where
    by : (a b : Bool) → ltb (eos lane.sender.stream) lane.sender.acked ≡ a → lane.receiver.state.ended ≡ b → (a && b) ≡ false → lane.sender.acked ≤ eos lane.sender.stream
    by true true ea eb e = absurd cc
    by true false ea eb e = absurd (omega (arith, ltb-true (eos lane.sender.stream) lane.sender.acked ea, front.is_of.not_ended eb, front.acked))
    by false b ea eb e = ltb-false (eos lane.sender.stream) lane.sender.acked ea

-- after a silence the lowest number of an unfinished stream is due
pub asked_due : (lane : Lane) → IsFit lane → IsDue (asked_again lane).sender
asked_due lane fit = by (ltb lane.sender.acked lane.sender.next) refl
  where
    by : (b : Bool) → ltb lane.sender.acked lane.sender.next ≡ b → (b ≡ true) ⊎ (lane.sender.next ≡ lane.sender.acked)
    by true e = inl refl
    by false e = inr (omega (arith, ltb-false lane.sender.acked lane.sender.next e, fit.behind))
