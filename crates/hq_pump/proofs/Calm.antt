-- Over a steady link each number that was sent is on its way, kept, or answered: stream by stream.
use Rattle.std.proofs.Common.{◌≡◌, ◌⊎◌, ℕ, suc, ◌+◌, ◌-◌, ◌^◌, ◌<◌, ◌≤◌, max, Bool, true, false, ◌||◌, cond, ltb, leb, nat_eq, List, [], length, Option, Some, None, Ok, refl, sym, ap, subst, ◌∙◌, arith, inl, inr}
use Rattle.std.specs.Prelude.{slice_get, slice_set}
use Rattle.std.proofs.lemmas.Bool.{and_from, and_parts, cases_lt, le-leb, leb-true, lt-ltb, ltb-true, or_parts}
use Rattle.hq_stream.specs.Piece.{Bytes, End, eos}
use Rattle.hq_stream.specs.TwoEnds.{Sent}
use Rattle.hq_stream.specs.Receiving.{Receiving, is_over, came}
use Rattle.hq_stream.proofs.Taking.{came_grows}
use Rattle.hq_link.specs.declared.datagram.Packet.TheVariants.{Data, Eos, Ack}
use Rattle.hq_link.specs.declared.route.Route.{Route}
use Rattle.hq_link.specs.Gram.{gram_bytes}
use Rattle.hq_link.specs.Link.{LinkState, IsSent}
use Rattle.hq_link.specs.Reading.{gram_at}
use Rattle.hq_link.specs.Streams.{ack_of, piece_in, ack_in, is_probe_of}
use Rattle.hq_send.specs.Sending.{Sending, due_now, after_due, in_window, is_new}
use Rattle.hq_recv.specs.Taking.{Taker, took, after, drained}
use Rattle.hq_recv.specs.declared.took.Took.TheVariants.{New, Old, Ahead, Foreign}
use Rattle.hq_pump.specs.declared.lane.Lane.{Lane}
use Rattle.hq_pump.specs.Exchange.{Exchange, Says, piece, probe, Sends, acknowledged, received, owes, answers}
use Rattle.hq_pump.specs.Safe.{IsFront, IsRouted, IsSafe, IsWithin}
use Rattle.hq_pump.specs.Pumping.{at}
use Rattle.hq_pump.proofs.Safety.{get_set_other, same_some, own_piece, own_number, fits, brings as brings_bytes}
use Rattle.hq_pump.proofs.Kept.{IsKept, came_places, came_first, came_keeps}
use Rattle.hq_pump.proofs.Flying.{Flies, flies_sent, flies_new}
use Rattle.hq_pump.proofs.Live.{not_due, from_piece, from_ack, IsFrom, ack_no_piece}

-- a datagram on its way brings the piece of a number
pub record IsOn (link : LinkState) (route : Route) (n : ℕ) : Type 0 where
  pub x : List ℕ
  pub flying : Flies link x
  pub p : Sent
  pub piece_is : piece_in route x ≡ Some p
  pub number : p.number ≡ n

-- one tells of a number
pub record IsAnswer (link : LinkState) (route : Route) (n : ℕ) : Type 0 where
  pub x : List ℕ
  pub flying : Flies link x
  pub ack_is : ack_in route x ≡ Some n

-- what holds of a stream over a steady link
pub record IsCalm (link : LinkState) (owing : Option ℕ) (place : ℕ) (lane : Lane) : Type 0 where
  pub again : lane.sender.again ≡ false
  pub window : lane.sender.next ≤ lane.sender.acked + 16
  pub within : lane.sender.next ≤ suc (eos lane.sender.stream)
  pub behind : lane.sender.acked ≤ lane.sender.next
  pub places : length lane.receiver.state.kept ≡ 16
  pub first : slice_get lane.receiver.state.kept 0 ≡ Some None
  pub short : eos lane.sender.stream < 2 ^ 60
  pub sent : (n : ℕ) → lane.receiver.state.wanted ≤ n → n < lane.sender.next → IsOn link lane.sender.route n ⊎ IsKept lane.receiver.state.kept (n - lane.receiver.state.wanted)
  pub told : lane.sender.acked < lane.receiver.state.wanted → IsAnswer link lane.sender.route lane.receiver.state.wanted ⊎ (owing ≡ Some place)

-- what is foreign leaves the wanted number
foreign_wanted : (r : Taker) (x : List ℕ) → owes r x ≡ false → (received r x).state.wanted ≡ r.state.wanted
foreign_wanted r x e = by (piece_in r.route x) (or_parts (answers (took r.state (piece_in r.route x))) (is_probe_of r.route x) e).0
  where
    plain : (s k : Receiving) (a b c d : Bool) → answers (cond b Old (cond (a || c) Foreign (cond d New Ahead))) ≡ false → (cond (a || (b || c)) s k).wanted ≡ s.wanted
    plain s k a true c d f = absurd cc
    plain s k true false c d f = refl
    plain s k false false true d f = refl
    plain s k false false false true f = absurd cc
    plain s k false false false false f = absurd cc

    by : (o : Option Sent) → answers (took r.state o) ≡ false → (after r.state o).wanted ≡ r.state.wanted
    by None f = refl
    by (Some p) f = plain r.state _ (is_over r.state) (ltb p.number r.state.wanted) (leb (r.state.wanted + 16) p.number) (nat_eq p.number r.state.wanted) f

-- what is on its way stays so, but for the one that came
on_sent : (old new : LinkState) (bytes : List ℕ) (route : Route) (n : ℕ) → IsSent old bytes (Ok tt) new → IsOn old route n → IsOn new route n
on_sent old new bytes route n is on = record { x = on.x; flying = flies_sent old new bytes on.x is.sent.flying on.flying; p = on.p; piece_is = on.piece_is; number = on.number }

answer_sent : (old new : LinkState) (bytes : List ℕ) (route : Route) (n : ℕ) → IsSent old bytes (Ok tt) new → IsAnswer old route n → IsAnswer new route n
answer_sent old new bytes route n is on = record { x = on.x; flying = flies_sent old new bytes on.x is.sent.flying on.flying; ack_is = on.ack_is }

-- a stream that something was sent beside
calm_sent : (old new : LinkState) (bytes : List ℕ) (owing : Option ℕ) (place : ℕ) (lane : Lane) → IsSent old bytes (Ok tt) new → IsCalm old owing place lane → IsCalm new owing place lane
calm_sent old new bytes owing place lane is c = record {
  again = c.again;
  window = c.window;
  within = c.within;
  behind = c.behind;
  places = c.places;
  first = c.first;
  short = c.short;
  sent = λ n low high. elim (c.sent n low high) [ inl on ↦ inl (on_sent old new bytes lane.sender.route n is on) | inr kept ↦ inr kept ];
  told = λ lt. elim (c.told lt) [ inl on ↦ inl (answer_sent old new bytes lane.sender.route lane.receiver.state.wanted is on) | inr owed ↦ inr owed ];
}

-- with nothing to do again, the next number alone is due, in the window
due_next_alone : (s : Sending) (n : ℕ) → s.again ≡ false → due_now s ≡ Some n → (n ≡ s.next) × (in_window s s.next ≡ true) × (after_due s ≡ record s { next = suc s.next })
due_next_alone s n calm e = by s.again (in_window s s.next) refl refl e
  where
    by : (a b : Bool) → s.again ≡ a → in_window s s.next ≡ b → cond a (Some s.acked) (cond b (Some s.next) None) ≡ Some n → (n ≡ s.next) × (in_window s s.next ≡ true) × (cond a (record s { again = false }) (cond b (record s { next = suc s.next }) s) ≡ record s { next = suc s.next })
    by true b is window e = let no : true ≡ false = sym is ∙ calm in absurd cc
    by false true is window e = let same : s.next ≡ n = cc in (sym same, window, refl)
    by false false is window e = absurd cc

-- the stream that sent the next number
calm_more : (old new : LinkState) (owing : Option ℕ) (place : ℕ) (lane left : Lane) (bytes : List ℕ) (all : List (List ℕ)) (p : Sent) → old.flying ≡ Some all → IsSent old bytes (Ok tt) new → left ≡ record lane { sender = record lane.sender { next = suc lane.sender.next } } → piece_in lane.sender.route bytes ≡ Some p → p.number ≡ lane.sender.next → in_window lane.sender lane.sender.next ≡ true → IsCalm old owing place lane → IsCalm new owing place left
calm_more old new owing place lane left bytes all p told is left_is brings number window c =
    let parts = and_parts (leb lane.sender.next (eos lane.sender.stream)) (ltb lane.sender.next (lane.sender.acked + 16)) window in
    let top = leb-true lane.sender.next (eos lane.sender.stream) parts.0 in
    let near = ltb-true lane.sender.next (lane.sender.acked + 16) parts.1 in
    let d = calm_sent old new bytes owing place lane is c in
    subst (IsCalm new owing place) (sym left_is) (record {
      again = c.again;
      window = omega (arith, near);
      within = omega (arith, top);
      behind = omega (arith, c.behind);
      places = c.places;
      first = c.first;
      short = c.short;
      sent = λ n low high. elim (cases_lt n lane.sender.next) [
        | inl below ↦ d.sent n low below
        | inr above ↦ inl (record { x = bytes; flying = flies_new old new bytes all told is.sent.flying; p = p; piece_is = brings; number = omega (arith, number, above, high) })
      ];
      told = d.told;
    })

calm_says : (q m to : ℕ) (old new : LinkState) (owing : Option ℕ) (place : ℕ) (lane left : Lane) (bytes : List ℕ) (all : List (List ℕ)) → IsWithin q m to → IsRouted q m to lane → old.flying ≡ Some all → IsSent old bytes (Ok tt) new → Says lane bytes left → IsCalm old owing place lane → IsCalm new owing place left
calm_says q m to old new owing place lane left bytes all within routed told is (piece n (Bytes b) small due there) c =
    let d = due_next_alone lane.sender n c.again due in
    let fit = fits q m to Data lane n b within routed small (brings_bytes lane.sender.stream n b there) in
    calm_more old new owing place lane (record lane { sender = after_due lane.sender }) _ all (record { number = n; piece = Bytes b }) told is (ap (λ (s : Sending). record lane { sender = s }) d.2) (own_piece Data lane.sender.route n b fit) d.0 d.1 c
calm_says q m to old new owing place lane left bytes all within routed told is (piece n End small due there) c =
    let d = due_next_alone lane.sender n c.again due in
    let fit = fits q m to Eos lane n [] within routed small refl in
    calm_more old new owing place lane (record lane { sender = after_due lane.sender }) _ all (record { number = n; piece = End }) told is (ap (λ (s : Sending). record lane { sender = s }) d.2) (own_piece Eos lane.sender.route n [] fit) d.0 d.1 c
calm_says q m to old new owing place lane left bytes all within routed told is (probe small) c = calm_sent old new _ owing place lane is c

abbrev pub AreCalm : Exchange → Type 0
AreCalm s = (i : ℕ) (lane : Lane) → slice_get s.lanes i ≡ Some lane → IsCalm s.link s.owed i lane

pub calm_sends : (q m to : ℕ) (first : ℕ → List ℕ) (s : Exchange) (h : (t : Exchange) × Sends s t) (all : List (List ℕ)) → IsWithin q m to → IsSafe q m to first s → s.link.flying ≡ Some all → IsSent s.link h.1.bytes (Ok tt) h.1.link → AreCalm s → AreCalm (record s { lanes = slice_set s.lanes h.1.place h.1.left; link = h.1.link; fault = None })
calm_sends q m to first s h all within safe told is calm i z e =
    let g = h.1 in
    elim (get_set_other s.lanes g.place i g.left z e) [
      | inl p ↦ subst (IsCalm g.link s.owed i) p.1 (subst (λ (k : ℕ). IsCalm g.link s.owed k g.left) p.0 (calm_says q m to s.link g.link s.owed g.place g.lane g.left g.bytes all within (safe.routed g.place g.lane g.at) told is g.says (calm g.place g.lane g.at)))
      | inr o ↦ calm_sent s.link g.link g.bytes s.owed i z is (calm i z o.0)
    ]

-- the answer that was owed is on its way
pub calm_answers : (q m to : ℕ) (s : Exchange) (place : ℕ) (lane : Lane) (link : LinkState) (all : List (List ℕ)) → IsWithin q m to → IsRouted q m to lane → slice_get s.lanes place ≡ Some lane → s.owed ≡ Some place → lane.receiver.state.wanted < 2 ^ 64 → s.link.flying ≡ Some all → IsSent s.link (gram_bytes (ack_of lane.receiver.route lane.receiver.state.wanted)) (Ok tt) link → AreCalm s → (i : ℕ) (z : Lane) → slice_get s.lanes i ≡ Some z → IsCalm link None i z
calm_answers q m to s place lane link all within routed at owing small told is calm i z e =
    let bytes = gram_bytes (ack_of lane.receiver.route lane.receiver.state.wanted) in
    let c = calm i z e in
    let d = calm_sent s.link link bytes s.owed i z is c in
    let fit = fits q m to Ack lane lane.receiver.state.wanted [] within routed small refl in
    let here : ack_in lane.sender.route (gram_bytes (ack_of lane.sender.route lane.receiver.state.wanted)) ≡ Some lane.receiver.state.wanted = own_number Ack lane.sender.route lane.receiver.state.wanted [] fit in
    let there = subst (λ (r : Route). ack_in lane.sender.route (gram_bytes (ack_of r lane.receiver.state.wanted)) ≡ Some lane.receiver.state.wanted) (sym routed.same) here in
    let own : IsAnswer link lane.sender.route lane.receiver.state.wanted = record { x = bytes; flying = flies_new s.link link bytes all told is.sent.flying; ack_is = there } in
    record {
      again = c.again;
      window = c.window;
      within = c.within;
      behind = c.behind;
      places = c.places;
      first = c.first;
      short = c.short;
      sent = d.sent;
      told = λ lt. elim (d.told lt) [
        | inl on ↦ inl on
        | inr owed ↦
            let both : Some place ≡ Some i = sym owing ∙ owed in
            let same : place ≡ i = cc in
            let is : z ≡ lane = same_some (slice_get s.lanes i) z lane e (subst (λ (k : ℕ). slice_get s.lanes k ≡ Some lane) same at) in
            inl (subst (λ (l : Lane). IsAnswer link l.sender.route l.receiver.state.wanted) (sym is) own)
      ];
    }

-- a datagram came in its turn, which is no piece of the stream and no answer to it: all else is on its way still
pub calm_else : (old new : LinkState) (x : List ℕ) (place : ℕ) (lane : Lane) → ((z : List ℕ) → Flies old z → (z ≡ x) ⊎ Flies new z) → (IsFrom lane.sender.route (gram_at x) → ⊥) → IsCalm old None place lane → (owing : Option ℕ) → IsCalm new owing place lane
calm_else old new x place lane on never c owing = record {
  again = c.again;
  window = c.window;
  within = c.within;
  behind = c.behind;
  places = c.places;
  first = c.first;
  short = c.short;
  sent = λ n low high. elim (c.sent n low high) [
    | inl is ↦ elim (on is.x is.flying) [
      | inl same ↦ absurd (never (subst (λ (b : List ℕ). IsFrom lane.sender.route (gram_at b)) same (from_piece lane.sender.route (gram_at is.x) is.p is.piece_is)))
      | inr on_way ↦ inl (record { x = is.x; flying = on_way; p = is.p; piece_is = is.piece_is; number = is.number })
    ]
    | inr kept ↦ inr kept
  ];
  told = λ lt. elim (c.told lt) [
    | inl is ↦ elim (on is.x is.flying) [
      | inl same ↦ absurd (never (subst (λ (b : List ℕ). IsFrom lane.sender.route (gram_at b)) same (from_ack lane.sender.route (gram_at is.x) lane.receiver.state.wanted is.ack_is)))
      | inr on_way ↦ inl (record { x = is.x; flying = on_way; ack_is = is.ack_is })
    ]
    | inr owed ↦ (let no : None ≡ Some place = owed in absurd cc)
  ];
}

-- the stream that an acknowledgement came to
pub calm_told : (old new : LinkState) (x : List ℕ) (place : ℕ) (lane : Lane) (n : ℕ) → ((z : List ℕ) → Flies old z → (z ≡ x) ⊎ Flies new z) → ack_in lane.sender.route x ≡ Some n → n ≤ lane.receiver.state.wanted → lane.receiver.state.wanted ≤ suc (eos lane.sender.stream) → IsCalm old None place lane → IsCalm new None place (acknowledged lane n)
calm_told old new x place lane n on ack below within c = by (is_new lane.sender n) refl
  where
    still_sent : (m : ℕ) → lane.receiver.state.wanted ≤ m → m < lane.sender.next → IsOn new lane.sender.route m ⊎ IsKept lane.receiver.state.kept (m - lane.receiver.state.wanted)
    still_sent m low high = elim (c.sent m low high) [
      | inl is ↦ elim (on is.x is.flying) [
        | inl same ↦
            let here : piece_in lane.sender.route x ≡ Some is.p = subst (λ (b : List ℕ). piece_in lane.sender.route b ≡ Some is.p) same is.piece_is in
            let no : None ≡ Some is.p = sym (ack_no_piece lane.sender.route lane.sender.route (gram_at x) n ack) ∙ here in
            absurd cc
        | inr on_way ↦ inl (record { x = is.x; flying = on_way; p = is.p; piece_is = is.piece_is; number = is.number })
      ]
      | inr kept ↦ inr kept
    ]

    still_told : lane.sender.acked < lane.receiver.state.wanted → (n ≡ lane.receiver.state.wanted → ⊥) → IsAnswer new lane.sender.route lane.receiver.state.wanted ⊎ (None ≡ Some place)
    still_told lt other = elim (c.told lt) [
      | inl is ↦ elim (on is.x is.flying) [
        | inl same ↦
            let here : ack_in lane.sender.route x ≡ Some lane.receiver.state.wanted = subst (λ (b : List ℕ). ack_in lane.sender.route b ≡ Some lane.receiver.state.wanted) same is.ack_is in
            let both : Some n ≡ Some lane.receiver.state.wanted = sym ack ∙ here in
            let number : n ≡ lane.receiver.state.wanted = cc in
            absurd (other number)
        | inr on_way ↦ inl (record { x = is.x; flying = on_way; ack_is = is.ack_is })
      ]
      | inr owed ↦ inr owed
    ]

    by : (b : Bool) → is_new lane.sender n ≡ b → IsCalm new None place (record lane { sender = cond b (record lane.sender { acked = n; next = max lane.sender.next n; again = false }) lane.sender })
    by true e =
        let parts = and_parts (ltb lane.sender.acked n) (leb n (suc (eos lane.sender.stream))) e in
        let above = ltb-true lane.sender.acked n parts.0 in
        let top = leb-true n (suc (eos lane.sender.stream)) parts.1 in
        record {
          again = refl;
          window = omega (arith, c.window, above);
          within = omega (arith, c.within, top);
          behind = omega arith;
          places = c.places;
          first = c.first;
          short = c.short;
          sent = λ m low high. still_sent m low (omega (arith, low, high, below));
          told = λ lt. still_told (omega (arith, lt, above)) (λ same. omega (arith, same, lt));
        }
    by false e = record {
      again = c.again;
      window = c.window;
      within = c.within;
      behind = c.behind;
      places = c.places;
      first = c.first;
      short = c.short;
      sent = still_sent;
      told = λ lt. still_told lt (λ same.
          let new_one : is_new lane.sender n ≡ true = and_from (ltb lane.sender.acked n) (leb n (suc (eos lane.sender.stream))) (lt-ltb _ _ (omega (arith, same, lt))) (le-leb _ _ (omega (arith, below, within))) in
          let no : true ≡ false = sym new_one ∙ e in
          absurd cc);
    }

over_false : (first now : ℕ → List ℕ) (lane : Lane) → IsFront first now lane → eos lane.sender.stream < 2 ^ 60 → lane.receiver.state.wanted ≤ eos lane.sender.stream → is_over lane.receiver.state ≡ false
over_false first now lane front short low = by lane.receiver.state.ended (leb (2 ^ 64 - 16) lane.receiver.state.wanted) refl refl
  where
    by : (a b : Bool) → lane.receiver.state.ended ≡ a → leb (2 ^ 64 - 16) lane.receiver.state.wanted ≡ b → (a || b) ≡ false
    by true b ea eb = absurd (omega (arith, front.is_of.ended ea, low))
    by false true ea eb = absurd (omega (arith, leb-true (2 ^ 64 - 16) lane.receiver.state.wanted eb, low, short))
    by false false ea eb = refl

-- the stream that a piece or a question came to
pub calm_heard : (first now : ℕ → List ℕ) (old new : LinkState) (x : List ℕ) (place : ℕ) (lane : Lane) → ((z : List ℕ) → Flies old z → (z ≡ x) ⊎ Flies new z) → ack_in lane.sender.route x ≡ None → lane.receiver.route ≡ lane.sender.route → IsFront first now lane → ((received lane.receiver x).state.ended ≡ true → (received lane.receiver x).state.wanted ≡ suc (eos lane.sender.stream)) → IsCalm old None place lane → IsCalm new (cond (owes lane.receiver x) (Some place) None) place (record lane { receiver = received lane.receiver x })
calm_heard first now old new x place lane on no_ack route front ended c = record {
  again = c.again;
  window = c.window;
  within = c.within;
  behind = c.behind;
  places = places (piece_in lane.receiver.route x);
  first = first_place (piece_in lane.receiver.route x);
  short = c.short;
  sent = λ n low high. by (piece_in lane.receiver.route x) refl n low high;
  told = λ lt. told (owes lane.receiver x) refl lt;
}
  where
    places : (o : Option Sent) → length (after lane.receiver.state o).kept ≡ 16
    places None = c.places
    places (Some p) = came_places lane.receiver.state p.number p.piece c.places

    first_place : (o : Option Sent) → slice_get (after lane.receiver.state o).kept 0 ≡ Some None
    first_place None = c.first
    first_place (Some p) = came_first lane.receiver.state p.number p.piece c.first

    ended_at : (o : Option Sent) → piece_in lane.receiver.route x ≡ o → (after lane.receiver.state o).ended ≡ true → (after lane.receiver.state o).wanted ≡ suc (eos lane.sender.stream)
    ended_at o e = subst (λ (q : Option Sent). (after lane.receiver.state q).ended ≡ true → (after lane.receiver.state q).wanted ≡ suc (eos lane.sender.stream)) e ended

    goes_on : (p : Sent) (n : ℕ) → piece_in lane.receiver.route x ≡ Some p → (came lane.receiver.state p.number p.piece).wanted ≤ n → n < lane.sender.next → (b : Bool) → (came lane.receiver.state p.number p.piece).ended ≡ b → b ≡ false
    goes_on p n e low high true is = absurd (omega (arith, ended_at (Some p) e is, low, high, c.within))
    goes_on p n e low high false is = refl

    keeps : (p : Sent) (n : ℕ) → piece_in lane.receiver.route x ≡ Some p → (came lane.receiver.state p.number p.piece).wanted ≤ n → n < lane.sender.next → (IsKept lane.receiver.state.kept (n - lane.receiver.state.wanted)) ⊎ (n ≡ p.number) → IsKept (came lane.receiver.state p.number p.piece).kept (n - (came lane.receiver.state p.number p.piece).wanted)
    keeps p n e low high was =
        let grows = came_grows lane.receiver.state p.number p.piece in
        came_keeps lane.receiver.state p.number p.piece n (record {
          was = was;
          low = omega (arith, grows, low);
          high = low;
          goes = goes_on p n e low high (came lane.receiver.state p.number p.piece).ended refl;
          inside = λ same. (omega (arith, same, high, c.window, front.acked), over_false first now lane front c.short (omega (arith, grows, low, high, c.within)));
          places = c.places;
        })

    by : (o : Option Sent) → piece_in lane.receiver.route x ≡ o → (n : ℕ) → (after lane.receiver.state o).wanted ≤ n → n < lane.sender.next → IsOn new lane.sender.route n ⊎ IsKept (after lane.receiver.state o).kept (n - (after lane.receiver.state o).wanted)
    by None e n low high = elim (c.sent n low high) [
      | inl is ↦ elim (on is.x is.flying) [
        | inl same ↦
            let here : piece_in lane.receiver.route x ≡ Some is.p = subst (λ (r : Route). piece_in r x ≡ Some is.p) (sym route) (subst (λ (b : List ℕ). piece_in lane.sender.route b ≡ Some is.p) same is.piece_is) in
            let no : None ≡ Some is.p = sym e ∙ here in
            absurd cc
        | inr on_way ↦ inl (record { x = is.x; flying = on_way; p = is.p; piece_is = is.piece_is; number = is.number })
      ]
      | inr kept ↦ inr kept
    ]
    by (Some p) e n low high =
        let grows = came_grows lane.receiver.state p.number p.piece in
        elim (c.sent n (omega (arith, grows, low)) high) [
          | inl is ↦ elim (on is.x is.flying) [
            | inl same ↦
                let here : piece_in lane.receiver.route x ≡ Some is.p = subst (λ (r : Route). piece_in r x ≡ Some is.p) (sym route) (subst (λ (b : List ℕ). piece_in lane.sender.route b ≡ Some is.p) same is.piece_is) in
                let both : Some p ≡ Some is.p = sym e ∙ here in
                let one : p ≡ is.p = cc in
                inr (keeps p n e low high (inr (sym is.number ∙ ap (λ (q : Sent). q.number) (sym one))))
            | inr on_way ↦ inl (record { x = is.x; flying = on_way; p = is.p; piece_is = is.piece_is; number = is.number })
          ]
          | inr kept ↦ inr (keeps p n e low high (inl kept))
        ]

    told : (b : Bool) → owes lane.receiver x ≡ b → lane.sender.acked < (received lane.receiver x).state.wanted → IsAnswer new lane.sender.route (received lane.receiver x).state.wanted ⊎ (cond b (Some place) None ≡ Some place)
    told true e lt = inr refl
    told false e lt =
        let same_number : (received lane.receiver x).state.wanted ≡ lane.receiver.state.wanted = foreign_wanted lane.receiver x e in
        elim (c.told (omega (arith, same_number, lt))) [
          | inl is ↦ elim (on is.x is.flying) [
            | inl same ↦
                let here : ack_in lane.sender.route x ≡ Some lane.receiver.state.wanted = subst (λ (b : List ℕ). ack_in lane.sender.route b ≡ Some lane.receiver.state.wanted) same is.ack_is in
                let no : None ≡ Some lane.receiver.state.wanted = sym no_ack ∙ here in
                absurd cc
            | inr on_way ↦ inl (record { x = is.x; flying = on_way; ack_is = is.ack_is ∙ ap Some (sym same_number) })
          ]
          | inr owed ↦ (let no : None ≡ Some place = owed in absurd cc)
        ]

-- what was accepted is handed over
pub calm_drained : (link : LinkState) (owing : Option ℕ) (place : ℕ) (lane : Lane) → IsCalm link owing place lane → IsCalm link owing place (record lane { receiver = drained lane.receiver })
calm_drained link owing place lane c = record { again = c.again; window = c.window; within = c.within; behind = c.behind; places = c.places; first = c.first; short = c.short; sent = c.sent; told = c.told }

-- where it is time to ask the link, something is flying
pub some_flies : (first now : ℕ → List ℕ) (link : LinkState) (place : ℕ) (lane : Lane) → IsFront first now lane → due_now lane.sender ≡ None → lane.sender.acked ≤ eos lane.sender.stream → IsCalm link None place lane → (x : List ℕ) × Flies link x
some_flies first now link place lane front idle goes_on c = elim (cases_lt lane.sender.acked lane.receiver.state.wanted) [
  | inl behind ↦ elim (c.told behind) [ inl is ↦ (is.x, is.flying) | inr owed ↦ (let no : None ≡ Some place = owed in absurd cc) ]
  | inr level ↦ elim (cases_lt lane.sender.acked lane.sender.next) [
    | inl some ↦ elim (c.sent lane.receiver.state.wanted (omega arith) (omega (arith, some, level))) [
      | inl is ↦ (is.x, is.flying)
      | inr kept ↦
          let zero_place : lane.receiver.state.wanted - lane.receiver.state.wanted ≡ 0 = omega arith in
          let here : slice_get lane.receiver.state.kept 0 ≡ Some (Some kept.0) = subst (λ (i : ℕ). slice_get lane.receiver.state.kept i ≡ Some (Some kept.0)) zero_place kept.1 in
          let no : Some None ≡ Some (Some kept.0) = sym c.first ∙ here in
          absurd cc
    ]
    | inr none ↦ absurd (not_due lane.sender idle goes_on (inr (omega (arith, none, c.behind))))
  ]
]
