-- Step by step, over a sound link that tells how rough it is: troubles since the last new acknowledgement are at most
-- twice the rough calls, and one more.
use Rattle.std.proofs.Common.{◌≡◌, ◌⊎◌, ℕ, zero, suc, ◌+◌, ◌-◌, ◌*◌, ◌^◌, ◌<◌, ◌≤◌, max, Bool, true, false, cond, List, [], ◌∷◌, ◌++◌, length, take, map, Option, Some, None, Result, Ok, Err, refl, sym, ap, subst, ◌∙◌, arith, inl, inr}
use Rattle.std.specs.Prelude.{All, Vec, replicate, slice_get, slice_set}
use Rattle.std.proofs.lemmas.List.{length-append, length-replicate}
use Rattle.hq_stream.specs.Piece.{Piece, eos}
use Rattle.hq_stream.specs.TwoEnds.{Sent}
use Rattle.hq_stream.specs.Receiving.{Receiving, fresh, taken, filled_up, is_outside}
use Rattle.hq_link.specs.declared.link.Got.TheVariants.{Bytes, Quiet}
use Rattle.hq_link.specs.declared.link.LinkFault.{LinkFault}
use Rattle.hq_link.specs.declared.link.LinkFault.TheVariants as link_fault
use Rattle.hq_link.specs.Gram.{gram_bytes}
use Rattle.hq_link.specs.Link.{LinkState, Told, AreTold, IsToldOf, IsLess, KeepsPromise, IsSent, IsNext}
use Rattle.hq_link.specs.Streams.{ack_of, piece_in}
use Rattle.hq_send.specs.Sending.{after_due, is_new}
use Rattle.hq_recv.specs.Taking.{Taker, after, drained}
use Rattle.hq_pump.specs.declared.end.ExchangeEnd.{ExchangeEnd}
use Rattle.hq_pump.specs.declared.end.ExchangeEnd.TheVariants as end_variant
use Rattle.hq_pump.specs.declared.lane.Lane.{Lane}
use Rattle.hq_pump.specs.Exchange.{Exchange, Says, piece, probe, Sends, Answers, IsTold, Hears, Misses, Rests, HandsOver, Step, sends, answers_it, is_told, hears, misses, rests, fails, hands_over, gives_up, Run, still, more, acknowledged, received, asked_again, fault_of}
use Rattle.hq_pump.specs.Safe.{IsHonest, WhereKnown, IsKnown, IsSafe, IsWithin, AreEarlier, AreAlone}
use Rattle.hq_pump.specs.Seen.{seen}
use Rattle.hq_pump.specs.Promise.{IsToldAtMost, IsRoughAtMost, IsOkOrNoMemory}
use Rattle.hq_pump.specs.Pumping.{at, new_lane, AreShort, AreShortOr, HasRunOr, IsOver}
use Rattle.hq_pump.proofs.Safety.{get_set_cases, get_map, same_some, due_acked, due_next, honest_came, safe_run}
use Rattle.hq_pump.proofs.Start.{get_mapped, new_safe}
use Rattle.hq_pump.proofs.Steps.{due_stream, set_same}
use Rattle.hq_pump.proofs.Flying.{Flies, flies_on, none_flies, told_sent, told_thinned, lowered_some, fallen_some, where_some, HowCame, plain, rough, how_came}
use Rattle.hq_pump.proofs.Live.{IsAlive, IsFit, due, alive_sends, alive_answers, alive_hands, alive_hears, alive_still, alive_flies, not_carried, nobodys_not, not_sent, asked_due}

-- both ends stay fit
received_places : (r : Taker) (x : List ℕ) → 0 < length r.state.kept → 0 < length (received r x).state.kept
received_places r x some = by (piece_in r.route x)
  where
    filled : (t : Receiving) → 0 < length (filled_up t).kept
    filled t =
        let len : length (t.kept ++ replicate (16 - length t.kept) None) ≡ length t.kept + (16 - length t.kept) = length-append t.kept (replicate (16 - length t.kept) None) ∙ ap (λ (n : ℕ). length t.kept + n) (length-replicate (16 - length t.kept) None) in
        omega (arith, len)

    one : (b : Bool) (t : Receiving) → 0 < length (cond b r.state (filled_up t)).kept
    one true t = some
    one false t = filled t

    by : (o : Option Sent) → 0 < length (after r.state o).kept
    by None = some
    by (Some p) = one (is_outside r.state p.number) (taken r.state.wanted r.state.got (slice_set r.state.kept (p.number - r.state.wanted) (Some p.piece)))

said_fit : (lane left : Lane) (bytes : List ℕ) → Says lane bytes left → IsFit lane → IsFit left
said_fit lane left bytes (piece n p small is there) fit = record {
  behind = omega (arith, fit.behind, due_acked lane.sender, due_next lane.sender);
  places = fit.places;
  short = (let same : eos (after_due lane.sender).stream ≡ eos lane.sender.stream = ap eos (due_stream lane.sender) in omega (arith, same, fit.short));
}
said_fit lane left bytes (probe small) fit = fit

acked_fit : (lane : Lane) (n : ℕ) → IsFit lane → IsFit (acknowledged lane n)
acked_fit lane n fit = by (is_new lane.sender n)
  where
    by : (b : Bool) → IsFit (record lane { sender = cond b (record lane.sender { acked = n; next = max lane.sender.next n; again = false }) lane.sender })
    by true = record { behind = omega arith; places = fit.places; short = fit.short }
    by false = fit

abbrev pub AreFit : List Lane → Type 0
AreFit lanes = (i : ℕ) (lane : Lane) → slice_get lanes i ≡ Some lane → IsFit lane

fit_set : (lanes : List Lane) (i : ℕ) (left : Lane) → AreFit lanes → IsFit left → AreFit (slice_set lanes i left)
fit_set lanes i left fit new j z e = elim (get_set_cases lanes i j left z e) [ inl p ↦ subst IsFit p.1 new | inr h ↦ fit j z h ]

-- what holds of an exchange over a sound link that was told to be so rough at most
pub record Goes (limit : ℕ) (s : Exchange) : Type 0 where
  pub left : ℕ
  pub rough_is : s.link.rough ≡ Some left
  pub within : left ≤ limit
  pub sound : s.link.sound ≡ true
  pub flying : (all : List (List ℕ)) × (s.link.flying ≡ Some all)
  pub may : (all : List (List ℕ)) × (s.link.may ≡ Some all)
  pub fit : AreFit s.lanes
  pub most : s.link.troubles + 2 * left ≤ s.base + 2 * limit + 1
  pub alive : s.fault ≡ None → IsAlive s ⊎ (s.link.troubles + 2 * left ≤ s.base + 2 * limit)
  pub works : s.fault ≡ Some link_fault.Failed → ⊥

told_less : (old new : Told) (all : List (List ℕ)) → old ≡ Some all → IsLess old new → (ys : List (List ℕ)) × (new ≡ Some ys)
told_less None new all was less = absurd cc
told_less (Some xs) None all was less = absurd less
told_less (Some xs) (Some ys) all was less = (ys, refl)

pub is_ok : (r : Result Unit LinkFault) → fault_of r ≡ None → r ≡ Ok tt
is_ok (Ok done) e = refl
is_ok (Err f) e = absurd cc

is_failed : (r : Result Unit LinkFault) → fault_of r ≡ Some link_fault.Failed → r ≡ Err link_fault.Failed
is_failed (Ok done) e = absurd cc
is_failed (Err f) e = let same : f ≡ link_fault.Failed = cc in ap Err same

-- a `send` leaves what can arrive and what is flying told
pub told_after : (old new : LinkState) (bytes : List ℕ) (r : Result Unit LinkFault) (all : List (List ℕ)) → old.flying ≡ Some all → IsSent old bytes r new → (ys : List (List ℕ)) × (new.flying ≡ Some ys)
told_after old new bytes (Ok done) all was sent = told_sent old.flying new.flying bytes all was sent.sent.flying
told_after old new bytes (Err f) all was sent = (all, sent.refused.flying ∙ was)

pub may_after : (old new : LinkState) (bytes : List ℕ) (r : Result Unit LinkFault) (all : List (List ℕ)) → old.may ≡ Some all → IsSent old bytes r new → (ys : List (List ℕ)) × (new.may ≡ Some ys)
may_after old new bytes (Ok done) all was sent = told_sent old.may new.may bytes all was sent.sent.may
may_after old new bytes (Err f) all was sent = (all, sent.refused.may ∙ was)

goes_sends : (limit q m to : ℕ) (first : ℕ → List ℕ) (s t : Exchange) → IsWithin q m to → IsSafe q m to first s → Sends s t → Goes limit s → Goes limit t
goes_sends limit q m to first s t within safe h g =
    let low = lowered_some s.link.rough h.link.rough g.left g.rough_is h.sent.rough in
    let same : h.link.troubles ≡ s.link.troubles = where_some s.link.rough g.left (h.link.troubles ≡ s.link.troubles) g.rough_is h.sent.smooth in
    let u : Exchange = record s { lanes = slice_set s.lanes h.place h.left; link = h.link; fault = fault_of h.result } in
    subst (Goes limit) (sym h.is) (record {
      left = low.0;
      rough_is = low.1;
      within = omega (arith, low.2, g.within);
      sound = (h.sent.sound g.sound).sound;
      flying = told_after s.link h.link h.bytes h.result g.flying.0 g.flying.1 h.sent;
      may = may_after s.link h.link h.bytes h.result g.may.0 g.may.1 h.sent;
      fit = fit_set s.lanes h.place h.left g.fit (said_fit h.lane h.left h.bytes h.says (g.fit h.place h.lane h.at));
      most = omega (arith, low.2, same, g.most);
      alive = λ e.
          let ok : IsSent s.link h.bytes (Ok tt) h.link = subst (λ (r : Result Unit LinkFault). IsSent s.link h.bytes r h.link) (is_ok h.result e) h.sent in
          elim (g.alive h.whole) [
            | inl a ↦ inl (alive_sends q m to s u h.place h.lane h.left h.bytes g.flying.0 within (safe.routed h.place h.lane h.at) h.at h.says h.owed g.flying.1 ok refl refl a)
            | inr le ↦ inr (omega (arith, low.2, same, le))
          ];
      works = λ e. h.sent.works g.sound (is_failed h.result e);
    })

goes_answers : (limit q m to : ℕ) (first : ℕ → List ℕ) (s t : Exchange) → IsWithin q m to → IsSafe q m to first s → Answers s t → Goes limit s → Goes limit t
goes_answers limit q m to first s t within safe h g =
    let bytes = gram_bytes (ack_of h.lane.receiver.route h.lane.receiver.state.wanted) in
    let low = lowered_some s.link.rough h.link.rough g.left g.rough_is h.sent.rough in
    let same : h.link.troubles ≡ s.link.troubles = where_some s.link.rough g.left (h.link.troubles ≡ s.link.troubles) g.rough_is h.sent.smooth in
    let u : Exchange = record s { link = h.link; owed = None; fault = fault_of h.result } in
    subst (Goes limit) (sym h.is) (record {
      left = low.0;
      rough_is = low.1;
      within = omega (arith, low.2, g.within);
      sound = (h.sent.sound g.sound).sound;
      flying = told_after s.link h.link bytes h.result g.flying.0 g.flying.1 h.sent;
      may = may_after s.link h.link bytes h.result g.may.0 g.may.1 h.sent;
      fit = g.fit;
      most = omega (arith, low.2, same, g.most);
      alive = λ e.
          let ok : IsSent s.link bytes (Ok tt) h.link = subst (λ (r : Result Unit LinkFault). IsSent s.link bytes r h.link) (is_ok h.result e) h.sent in
          elim (g.alive h.whole) [
            | inl a ↦ inl (alive_answers q m to s u h.place h.lane g.flying.0 within (safe.routed h.place h.lane h.at) h.at h.owed h.seq g.flying.1 ok refl a)
            | inr le ↦ inr (omega (arith, low.2, same, le))
          ];
      works = λ e. h.sent.works g.sound (is_failed h.result e);
    })

-- where a datagram came
pub record CameOn (old : LinkState) (x : List ℕ) (new : LinkState) (left : ℕ) : Type 0 where
  pub now : ℕ
  pub rough_is : new.rough ≡ Some now
  pub lower : now ≤ left
  pub flying : (all : List (List ℕ)) × (new.flying ≡ Some all)
  pub may : (all : List (List ℕ)) × (new.may ≡ Some all)
  -- it came in its turn, or it costs a rough call
  pub how : (((z : List ℕ) → Flies old z → (z ≡ x) ⊎ Flies new z) × (new.troubles ≡ old.troubles)) ⊎ ((now < left) × (new.troubles ≤ old.troubles + 1))

pub came_on : (old new : LinkState) (n : ℕ) (into : List ℕ) (left : ℕ) (all there : List (List ℕ)) → old.rough ≡ Some left → old.flying ≡ Some all → old.may ≡ Some there → IsNext old (Ok (Bytes n)) into new → CameOn old (take n into) new left
came_on old new n into left all there rough_was told may next = by (how_came old new n into left rough_was next)
  where
    by : HowCame old (take n into) new left → CameOn old (take n into) new left
    by (plain s is le turn same) = record { now = s; rough_is = is; lower = le; flying = told_thinned old.flying new.flying all told next.flying; may = told_less old.may new.may there may next.may; how = inl (λ z f. flies_on old new (take n into) z turn.head f, same) }
    by (rough s is lt one) = record { now = s; rough_is = is; lower = omega (arith, lt); flying = told_thinned old.flying new.flying all told next.flying; may = told_less old.may new.may there may next.may; how = inr (lt, one) }

-- troubles and rough calls that are left, once one came
came_most : (old new : LinkState) (x : List ℕ) (left limit base : ℕ) (c : CameOn old x new left) → old.troubles + 2 * left ≤ base + 2 * limit + 1 → new.troubles + 2 * c.now ≤ base + 2 * limit + 1
came_most old new x left limit base c most = elim c.how [
  | inl turn ↦ omega (arith, turn.1, c.lower, most)
  | inr hit ↦ omega (arith, hit.0, hit.1, most)
]

-- where the lowest number moves, it still does, or the call was rough
came_alive : (s t : Exchange) (x : List ℕ) (left limit base : ℕ) (c : CameOn s.link x t.link left) → s.link.troubles + 2 * left ≤ base + 2 * limit + 1 → IsAlive s ⊎ (s.link.troubles + 2 * left ≤ base + 2 * limit) → (IsAlive s → ((z : List ℕ) → Flies s.link z → (z ≡ x) ⊎ Flies t.link z) → IsAlive t) → IsAlive t ⊎ (t.link.troubles + 2 * c.now ≤ base + 2 * limit)
came_alive s t x left limit base c most alive on = elim c.how [
  | inl turn ↦ elim alive [ inl a ↦ inl (on a turn.0) | inr le ↦ inr (omega (arith, turn.1, c.lower, le)) ]
  | inr hit ↦ inr (omega (arith, hit.0, hit.1, most))
]

pub known_some : (may : Told) (all : List (List ℕ)) (P : Type 0) → may ≡ Some all → WhereKnown may P → P
known_some None all P e w = absurd cc
known_some (Some xs) all P e w = w

goes_told : (limit q m to : ℕ) (first : ℕ → List ℕ) (s t : Exchange) → IsSafe q m to first s → IsTold s t → Goes limit s → Goes limit t
goes_told limit q m to first s t safe h g =
    subst (Goes limit) (sym h.is) (by (is_new h.lane.sender h.n) refl)
  where
    by : (b : Bool) → is_new h.lane.sender h.n ≡ b → Goes limit (record s { lanes = slice_set s.lanes h.place (record h.lane { sender = cond b (record h.lane.sender { acked = h.n; next = max h.lane.sender.next h.n; again = false }) h.lane.sender }); link = h.link; base = cond b h.link.troubles s.base })
    by true e =
        let c = came_on s.link h.link h.count h.into g.left g.flying.0 g.may.0 g.rough_is g.flying.1 g.may.1 h.next in
        let fit : IsFit h.lane = g.fit h.place h.lane h.at in
        record {
          left = c.now;
          rough_is = c.rough_is;
          within = omega (arith, c.lower, g.within);
          sound = (h.next.sound g.sound).sound;
          flying = c.flying;
          may = c.may;
          fit = fit_set s.lanes h.place _ g.fit (record { behind = omega arith; places = fit.places; short = fit.short });
          most = omega (arith, c.lower, g.within);
          alive = λ _. inr (omega (arith, c.lower, g.within));
          works = g.works;
        }
    by false e =
        let x = take h.count h.into in
        let u : Exchange = record s { lanes = slice_set s.lanes h.place h.lane; link = h.link; base = s.base } in
        let c : CameOn s.link x u.link g.left = came_on s.link h.link h.count h.into g.left g.flying.0 g.may.0 g.rough_is g.flying.1 g.may.1 h.next in
        let known : IsKnown first s = known_some s.link.may g.may.0 (IsKnown first s) g.may.1 safe.known in
        let honest : IsHonest h.lane.sender.route h.lane.sender.stream h.lane.receiver.state.wanted x = known_some s.link.may g.may.0 (IsHonest h.lane.sender.route h.lane.sender.stream h.lane.receiver.state.wanted x) g.may.1 (honest_came first s x h.place h.lane s.link.may refl h.next.came.1.may h.at safe.known) in
        let below : h.n ≤ suc (eos h.lane.sender.stream) = omega (arith, honest.ack h.n h.ack, (known.front h.place h.lane h.at).is_of.within) in
        record {
          left = c.now;
          rough_is = c.rough_is;
          within = omega (arith, c.lower, g.within);
          sound = (h.next.sound g.sound).sound;
          flying = c.flying;
          may = c.may;
          fit = fit_set s.lanes h.place h.lane g.fit (g.fit h.place h.lane h.at);
          most = came_most s.link h.link x g.left limit s.base c g.most;
          alive = λ _. came_alive s u x g.left limit s.base c g.most (g.alive h.ready.whole) (λ a on.
              alive_still s u a x (h.ready.idle a.place a.lane a.at_it) h.ready.owes_none
              (not_carried h.lane a.lane x h.n h.ack e below (λ same.
              same_some (slice_get s.lanes a.place) a.lane h.lane a.at_it (subst (λ k. slice_get s.lanes k ≡ Some h.lane) (safe.alone h.place a.place h.lane a.lane h.at a.at_it same) h.at))) on (set_same s.lanes h.place h.lane h.at));
          works = g.works;
        }

goes_hears : (limit q m to : ℕ) (first : ℕ → List ℕ) (s t : Exchange) → IsSafe q m to first s → Hears s t → Goes limit s → Goes limit t
goes_hears limit q m to first s t safe h g =
    let x = take h.count h.into in
    let left : Lane = record h.lane { receiver = received h.lane.receiver x } in
    let c : CameOn s.link x t.link g.left = subst (λ (u : Exchange). CameOn s.link x u.link g.left) (sym h.is) (came_on s.link h.link h.count h.into g.left g.flying.0 g.may.0 g.rough_is g.flying.1 g.may.1 h.next) in
    let known : IsKnown first s = known_some s.link.may g.may.0 (IsKnown first s) g.may.1 safe.known in
    let fit : IsFit h.lane = g.fit h.place h.lane h.at in
    let same_base : t.base ≡ s.base = ap (λ (u : Exchange). u.base) h.is in
    let lanes : t.lanes ≡ slice_set s.lanes h.place left = ap (λ (u : Exchange). u.lanes) h.is in
    let most = came_most s.link t.link x g.left limit s.base c g.most in
    record {
      left = c.now;
      rough_is = c.rough_is;
      within = omega (arith, c.lower, g.within);
      sound = subst (λ (u : Exchange). u.link.sound ≡ true) (sym h.is) (h.next.sound g.sound).sound;
      flying = c.flying;
      may = c.may;
      fit = subst AreFit (sym lanes) (fit_set s.lanes h.place left g.fit (record { behind = fit.behind; places = received_places h.lane.receiver x fit.places; short = fit.short }));
      most = omega (arith, same_base, most);
      alive = λ _. subst (λ (n : ℕ). IsAlive t ⊎ (t.link.troubles + 2 * c.now ≤ n + 2 * limit)) (sym same_base) (came_alive s t x g.left limit s.base c g.most (g.alive h.ready.whole) (λ a on.
          alive_hears first s t a h.place h.lane x h.at (h.ready.idle a.place a.lane a.at_it) h.ready.owes_none (safe.routed h.place h.lane h.at).same (known.front h.place h.lane h.at) fit safe.alone h.own h.no_ack on lanes (ap (λ (u : Exchange). u.owed) h.is)));
      works = λ e. g.works (sym (ap (λ (u : Exchange). u.fault) h.is) ∙ e);
    }

goes_misses : (limit : ℕ) (s t : Exchange) → Misses s t → Goes limit s → Goes limit t
goes_misses limit s t h g =
    let x = take h.count h.into in
    let u : Exchange = record s { link = h.link; fault = h.fault } in
    let c : CameOn s.link x u.link g.left = came_on s.link h.link h.count h.into g.left g.flying.0 g.may.0 g.rough_is g.flying.1 g.may.1 h.next in
    subst (Goes limit) (sym h.is) (record {
      left = c.now;
      rough_is = c.rough_is;
      within = omega (arith, c.lower, g.within);
      sound = (h.next.sound g.sound).sound;
      flying = c.flying;
      may = c.may;
      fit = g.fit;
      most = came_most s.link h.link x g.left limit s.base c g.most;
      alive = λ e. came_alive s u x g.left limit s.base c g.most (g.alive h.ready.whole) (λ a on.
          alive_still s u a x (h.ready.idle a.place a.lane a.at_it) h.ready.owes_none (nobodys_not s.lanes a.place a.lane x a.at_it (h.nobodys e)) on refl);
      works = λ e. h.memory e;
    })

-- a silence: with nothing flying no lowest number moved; else it costs a rough call
record Silence (s t : Exchange) (left limit : ℕ) : Type 0 where
  now : ℕ
  rough_is : t.link.rough ≡ Some now
  lower : now ≤ left
  most : t.link.troubles + 2 * now ≤ s.base + 2 * limit + 1
  alive : IsAlive t ⊎ (t.link.troubles + 2 * now ≤ s.base + 2 * limit)

goes_rests : (limit q m to : ℕ) (first : ℕ → List ℕ) (s t : Exchange) → IsSafe q m to first s → Rests s t → Goes limit s → Goes limit t
goes_rests limit q m to first s t safe h g =
    let u : Exchange = record s { lanes = map asked_again s.lanes; link = h.link } in
    let low = lowered_some s.link.rough h.link.rough g.left g.rough_is h.next.rough in
    let one : h.link.troubles ≤ s.link.troubles + 1 = where_some s.link.rough g.left (h.link.troubles ≤ s.link.troubles + 1) g.rough_is h.next.one in
    let known : IsKnown first s = known_some s.link.may g.may.0 (IsKnown first s) g.may.1 safe.known in
    let there : slice_get (map asked_again s.lanes) h.ready.place ≡ Some (asked_again h.ready.lane) = mapped_at s.lanes h.ready.place h.ready.lane h.ready.at in
    let alive : IsAlive u = record {
      place = h.ready.place;
      lane = asked_again h.ready.lane;
      at_it = there;
      goes_on = not_sent first s.taken h.ready.lane (known.front h.ready.place h.ready.lane h.ready.at) h.ready.goes_on;
      moves = due (asked_due h.ready.lane (g.fit h.ready.place h.ready.lane h.ready.at));
    } in
    let silence : Silence s u g.left limit = elim (where_some s.link.rough g.left (KeepsPromise s.link (Ok Quiet) h.into h.link) g.rough_is h.next.promise) [
      | inl empty ↦ elim (g.alive h.ready.whole) [
        | inl a ↦ (let f = alive_flies s a (h.ready.idle a.place a.lane a.at_it) h.ready.owes_none in absurd (none_flies s.link f.x empty f.flying))
        | inr le ↦ record { now = low.0; rough_is = low.1; lower = low.2; most = omega (arith, low.2, one, le); alive = inl alive }
      ]
      | inr fallen ↦ (let f = fallen_some s.link.rough h.link.rough g.left g.rough_is fallen in record { now = f.0; rough_is = f.1; lower = omega (arith, f.2); most = omega (arith, f.2, one, g.most); alive = inl alive })
    ] in
    subst (Goes limit) (sym h.is) (record {
      left = silence.now;
      rough_is = silence.rough_is;
      within = omega (arith, silence.lower, g.within);
      sound = (h.next.sound g.sound).sound;
      flying = told_thinned s.link.flying h.link.flying g.flying.0 g.flying.1 h.next.flying;
      may = told_less s.link.may h.link.may g.may.0 g.may.1 h.next.may;
      fit = λ i z e. (let y = get_map asked_again s.lanes i z e in let fit : IsFit y.0 = g.fit i y.0 y.1 in subst IsFit y.2 (record { behind = fit.behind; places = fit.places; short = fit.short }));
      most = silence.most;
      alive = λ _. silence.alive;
      works = g.works;
    })
  where
    mapped_at : (lanes : List Lane) (j : ℕ) (y : Lane) → slice_get lanes j ≡ Some y → slice_get (map asked_again lanes) j ≡ Some (asked_again y)
    mapped_at [] j y e = absurd cc
    mapped_at (x ∷ xs) zero y e = ap (λ z. Some (asked_again z)) (let same : x ≡ y = cc in same)
    mapped_at (x ∷ xs) (suc j) y e = mapped_at xs j y e

goes_hands : (limit : ℕ) (s t : Exchange) → HandsOver s t → Goes limit s → Goes limit t
goes_hands limit s t h g =
    let left : Lane = record h.lane { receiver = drained h.lane.receiver } in
    let u : Exchange = record s { lanes = slice_set s.lanes h.place left; taken = h.taken } in
    let fit : IsFit h.lane = g.fit h.place h.lane h.at in
    subst (Goes limit) (sym h.is) (record {
      left = g.left;
      rough_is = g.rough_is;
      within = g.within;
      sound = g.sound;
      flying = g.flying;
      may = g.may;
      fit = fit_set s.lanes h.place left g.fit (record { behind = fit.behind; places = fit.places; short = fit.short });
      most = g.most;
      alive = λ e. elim (g.alive h.whole) [ inl a ↦ inl (alive_hands s u h.place h.lane h.at refl refl refl a) | inr le ↦ inr le ];
      works = g.works;
    })

no_memory : Some link_fault.NoMemory ≡ None → ⊥
no_memory e = absurd cc

not_failed : Some link_fault.NoMemory ≡ Some link_fault.Failed → ⊥
not_failed e = absurd cc

goes_step : (limit q m to : ℕ) (first : ℕ → List ℕ) (s t : Exchange) → IsWithin q m to → IsSafe q m to first s → Step s t → Goes limit s → Goes limit t
goes_step limit q m to first s t within safe (sends h) g = goes_sends limit q m to first s t within safe h g
goes_step limit q m to first s t within safe (answers_it h) g = goes_answers limit q m to first s t within safe h g
goes_step limit q m to first s t within safe (is_told h) g = goes_told limit q m to first s t safe h g
goes_step limit q m to first s t within safe (hears h) g = goes_hears limit q m to first s t safe h g
goes_step limit q m to first s t within safe (misses h) g = goes_misses limit s t h g
goes_step limit q m to first s t within safe (rests h) g = goes_rests limit q m to first s t safe h g
goes_step limit q m to first s t within safe (fails h) g = absurd (h.next.works g.sound)
goes_step limit q m to first s t within safe (hands_over h) g = goes_hands limit s t h g
goes_step limit q m to first s t within safe (gives_up same) g = subst (Goes limit) (sym same) (record {
  left = g.left;
  rough_is = g.rough_is;
  within = g.within;
  sound = g.sound;
  flying = g.flying;
  may = g.may;
  fit = g.fit;
  most = g.most;
  alive = λ e. absurd (no_memory e);
  works = λ e. absurd (not_failed e);
})

pub goes_run : (limit q m to : ℕ) (first : ℕ → List ℕ) (s t : Exchange) → IsWithin q m to → IsSafe q m to first s → Run s t → Goes limit s → Goes limit t
goes_run limit q m to first s t within safe still g = g
goes_run limit q m to first s t within safe (more u w run step) g =
    goes_step limit q m to first u w within (safe_run q m to first s u within run safe) step (goes_run limit q m to first s u within safe run g)

pub told_of : (told : Told) → AreTold told → (all : List (List ℕ)) × (told ≡ Some all)
told_of None are = absurd are
told_of (Some all) are = (all, refl)

pub rough_of : (most : ℕ) (o : Option ℕ) → IsToldAtMost most o → (n : ℕ) × (o ≡ Some n) × (n ≤ most)
rough_of most None is = absurd is
rough_of most (Some n) is = (n, refl, is)

pub told_by : (o : Option ℕ) (n : ℕ) (s : LinkState) → o ≡ Some n → IsToldOf o s → AreTold s.may × AreTold s.flying
told_by None n s e is = absurd cc
told_by (Some r) n s e is = (is.1, is.2)

good_end : (over : Exchange) (result : Result Unit ExchangeEnd) → IsOver over result → Goes 15 over → over.link.troubles < 2 ^ 64 - 1 → IsOkOrNoMemory result
good_end over (Ok done) how g few = tt
good_end over (Err end_variant.NoMemory) how g few = tt
good_end over (Err end_variant.LinkFailed) how g few = absurd (g.works how.1)
good_end over (Err (end_variant.LinkLost seq troubles)) how g few = absurd (omega (arith, how.0, g.most, few))

-- an exchange as it begins
pub start_goes : {A : Type 0} (q m t : ℕ) (streams : List (ℕ × Vec ℕ A)) (old : LinkState) (first : ℕ → List ℕ) → AreShort (map (new_lane q m t) (seen streams)) → IsToldOf old.rough old → IsRoughAtMost 15 old → Goes 15 (at (map (new_lane q m t) (seen streams)) old old.troubles first None)
start_goes q m t streams old first short told promise =
    let r = rough_of 15 old.rough promise.rough in
    let are = told_by old.rough r.0 old r.1 told in
    record {
      left = r.0;
      rough_is = r.1;
      within = r.2;
      sound = promise.sound;
      flying = told_of old.flying are.1;
      may = told_of old.may are.0;
      fit = λ i lane e. (let y = get_mapped (new_lane q m t) (seen streams) i lane e in record { behind = subst (λ (l : Lane). l.sender.acked ≤ l.sender.next) y.2 (omega arith); places = subst (λ (l : Lane). 0 < length l.receiver.state.kept) y.2 places; short = short i lane e });
      most = omega (arith, r.2);
      alive = λ _. inr (omega (arith, r.2));
      works = λ e. absurd cc;
    }
  where
    places : 0 < length fresh.kept
    places = omega (arith, length-replicate {A = Option Piece} 16 None)

-- over a sound link that isn't too rough, all is given, or no memory was left
pub end_complete : {A : Type 0} (q m t : ℕ) (streams : List (ℕ × Vec ℕ A)) (old new : LinkState) (first now : ℕ → List ℕ) (result : Result Unit ExchangeEnd) → IsWithin q m t → All (λ stream. stream.0 < 16) streams → AreAlone (seen streams) → AreEarlier q m old.may → HasRunOr (at (map (new_lane q m t) (seen streams)) old old.troubles first None) new now result → AreShortOr (map (new_lane q m t) (seen streams)) old new result → IsToldOf old.rough old → IsRoughAtMost 15 old → new.troubles < 2 ^ 64 - 1 → IsOkOrNoMemory result
end_complete q m t streams old new first now result within below alone earlier (inr none) short told promise few = subst (λ (r : Result Unit ExchangeEnd). IsOkOrNoMemory r) (sym none.0) tt
end_complete q m t streams old new first now result within below alone earlier (inl ran) (inr none) told promise few = subst (λ (r : Result Unit ExchangeEnd). IsOkOrNoMemory r) (sym none.0) tt
end_complete q m t streams old new first now result within below alone earlier (inl ran) (inl short) told promise few =
    let start : Exchange = at (map (new_lane q m t) (seen streams)) old old.troubles first None in
    let g = start_goes q m t streams old first short told promise in
    let safe = new_safe q m t streams old old.troubles first below alone earlier in
    let over = goes_run 15 q m t first start ran.over within safe ran.run g in
    good_end ran.over result ran.how over (omega (arith, few, ap (λ (l : LinkState). l.troubles) ran.link_is))
