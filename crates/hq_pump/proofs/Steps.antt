-- Steps of an exchange, one after another.
use Rattle.std.proofs.Common.{◌≡◌, ℕ, zero, suc, ◌+◌, ◌*◌, ◌^◌, ◌<◌, ◌≤◌, Bool, true, false, cond, ltb, nat_eq, List, [], ◌∷◌, Option, Some, None, Result, refl, sym, ap, subst, ◌∙◌, arith}
use Rattle.std.specs.Prelude.{slice_get, slice_set, slice_range}
use Rattle.std.proofs.lemmas.Bool.{ltb-false, eqb-false}
use Rattle.hq_stream.specs.Piece.{Piece, Bytes, End, eos, piece_at}
use Rattle.hq_link.specs.declared.link.LinkFault.{LinkFault}
use Rattle.hq_link.specs.Gram.{gram_bytes}
use Rattle.hq_link.specs.Link.{LinkState, IsSent}
use Rattle.hq_link.specs.Streams.{gram_of}
use Rattle.hq_send.specs.Sending.{Sending, due_now, after_due, in_window}
use Rattle.hq_pump.specs.declared.lane.Lane.{Lane}
use Rattle.hq_pump.specs.Exchange.{Exchange, Says, piece, Step, sends, Run, still, more, fault_of, is_done}
use Rattle.hq_pump.specs.Pumping.{StandsAt, moved}

pub joined : (s t u : Exchange) → Run s t → Run t u → Run s u
joined s t u first still = first
joined s t u first (more v w second step) = more v w (joined s t v first second) step

pub one_step : (s t : Exchange) → Step s t → Run s t
one_step s t step = more s t still step

-- a place of a list that was set
pub get_set : {A : Type 0} (xs : List A) (i : ℕ) (x y : A) → slice_get xs i ≡ Some x → slice_get (slice_set xs i y) i ≡ Some y
get_set [] i x y e = absurd cc
get_set (z ∷ xs) zero x y e = refl
get_set (z ∷ xs) (suc i) x y e = get_set xs i x y e

pub set_same : {A : Type 0} (xs : List A) (i : ℕ) (x : A) → slice_get xs i ≡ Some x → slice_set xs i x ≡ xs
set_same [] i x e = refl
set_same (z ∷ xs) zero x e = ap (λ y. y ∷ xs) (let same : z ≡ x = cc in sym same)
set_same (z ∷ xs) (suc i) x e = ap (λ ys. z ∷ ys) (set_same xs i x e)

pub set_set : {A : Type 0} (xs : List A) (i : ℕ) (x y : A) → slice_set (slice_set xs i x) i y ≡ slice_set xs i y
set_set [] i x y = refl
set_set (z ∷ xs) zero x y = refl
set_set (z ∷ xs) (suc i) x y = ap (λ ys. z ∷ ys) (set_set xs i x y)

pub stays : (s : Exchange) (i : ℕ) (lane : Lane) (link : LinkState) → StandsAt s i lane link → moved s i lane link None ≡ s
stays s i lane link at = (λ k. record s { lanes = set_same s.lanes i lane at.lane_is k; link = sym at.link_is k; fault = sym at.whole k })

-- what changed stands there, and may change again
pub stands : (s : Exchange) (i : ℕ) (lane now : Lane) (old link : LinkState) → StandsAt s i lane old → StandsAt (moved s i now link None) i now link
stands s i lane now old link at = record { lane_is = get_set s.lanes i lane now at.lane_is; link_is = refl; owed = at.owed; whole = refl }

pub moved_again : (s : Exchange) (i : ℕ) (x y : Lane) (k l : LinkState) (f g : Option LinkFault) → moved (moved s i x k f) i y l g ≡ moved s i y l g
moved_again s i x y k l f g = ap (λ (lanes : List Lane). record s { lanes = lanes; link = l; fault = g }) (set_set s.lanes i x y)

-- nothing is due, and nothing changes
pub nothing_due : (s : Sending) → None ≡ due_now s → after_due s ≡ s
nothing_due s e = by s.again (in_window s s.next) e
  where
    by : (a b : Bool) → None ≡ cond a (Some s.acked) (cond b (Some s.next) None) → cond a (record s { again = false }) (cond b (record s { next = suc s.next }) s) ≡ s
    by true b e = absurd cc
    by false true e = absurd cc
    by false false e = refl

pub sent_run : (s : Exchange) (i : ℕ) (lane left : Lane) (old new : LinkState) (bytes : List ℕ) (result : Result Unit LinkFault) → StandsAt s i lane old → Says lane bytes left → IsSent old bytes result new → Run s (moved s i left new (fault_of result))
sent_run s i lane left old new bytes result at says sent =
    one_step s (moved s i left new (fault_of result)) (sends (record {
      place = i;
      lane = lane;
      bytes = bytes;
      result = result;
      left = left;
      link = new;
      at = at.lane_is;
      says = says;
      owed = at.owed;
      whole = at.whole;
      sent = subst (λ l. IsSent l bytes result new) (sym at.link_is) sent;
      is = refl;
    }))

-- a number up to the end has its piece
pub some_piece : (stream : List ℕ) (n : ℕ) → n ≤ eos stream → (p : Piece) × (piece_at stream n ≡ Some p)
some_piece stream n le = by (ltb n (eos stream)) (nat_eq n (eos stream)) (ltb-false n (eos stream)) (eqb-false n (eos stream))
  where
    by : (b c : Bool) → (b ≡ false → eos stream ≤ n) → (c ≡ false → n ≡ eos stream → ⊥) → (p : Piece) × (cond b (Some (Bytes (slice_range stream (1200 * n) (1200 * n + 1200)))) (cond c (Some End) None) ≡ Some p)
    by true c h i = (Bytes (slice_range stream (1200 * n) (1200 * n + 1200)), refl)
    by false true h i = (End, refl)
    by false false h i = absurd (i refl (omega (arith, h refl, le)))

-- a number that is due keeps the stream and its route
pub due_route : (s : Sending) → (after_due s).route ≡ s.route
due_route s = by s.again (in_window s s.next)
  where
    by : (a b : Bool) → (cond a (record s { again = false }) (cond b (record s { next = suc s.next }) s)).route ≡ s.route
    by true b = refl
    by false true = refl
    by false false = refl

pub due_stream : (s : Sending) → (after_due s).stream ≡ s.stream
due_stream s = by s.again (in_window s s.next)
  where
    by : (a b : Bool) → (cond a (record s { again = false }) (cond b (record s { next = suc s.next }) s)).stream ≡ s.stream
    by true b = refl
    by false true = refl
    by false false = refl

pub says_due : (lane : Lane) (t : Sending) (n : ℕ) (bytes : List ℕ) → n < 2 ^ 64 → t ≡ after_due lane.sender → due_now lane.sender ≡ Some n → n ≤ eos lane.sender.stream → ((p : Piece) → piece_at t.stream n ≡ Some p → bytes ≡ gram_bytes (gram_of t.route n p)) → Says lane bytes (record lane { sender = t })
says_due lane t n bytes small is due within written =
    let p = some_piece lane.sender.stream n within in
    let stream : t.stream ≡ lane.sender.stream = ap (λ (x : Sending). x.stream) is ∙ due_stream lane.sender in
    let route : t.route ≡ lane.sender.route = ap (λ (x : Sending). x.route) is ∙ due_route lane.sender in
    let spelled : bytes ≡ gram_bytes (gram_of lane.sender.route n p.0) = written p.0 (subst (λ l. piece_at l n ≡ Some p.0) (sym stream) p.1) ∙ ap (λ r. gram_bytes (gram_of r n p.0)) route in
    subst (λ b. Says lane b (record lane { sender = t })) (sym spelled)
    (subst (λ (x : Sending). Says lane (gram_bytes (gram_of lane.sender.route n p.0)) (record lane { sender = x })) (sym is) (piece n p.0 small due p.1))

-- where nothing changed, nothing was done
pub still_run : (s : Exchange) (i : ℕ) (lane : Lane) (link : LinkState) → StandsAt s i lane link → Run s (moved s i lane link None)
still_run s i lane link at = subst (Run s) (sym (stays s i lane link at)) still

-- one change of a stream behind another
pub then_run : (s : Exchange) (i : ℕ) (lane now left : Lane) (old link new : LinkState) (fault : Option LinkFault) → StandsAt s i lane old → Run s (moved s i now link None) → ((t : Exchange) (j : ℕ) → StandsAt t j now link → Run t (moved t j left new fault)) → Run s (moved s i left new fault)
then_run s i lane now left old link new fault at first second =
    subst (Run s) (moved_again s i now left link new None fault)
    (joined s (moved s i now link None) (moved (moved s i now link None) i left new fault) first (second (moved s i now link None) i (stands s i lane now old link at)))

-- a number that is due makes no stream done
pub done_due : (lane : Lane) (t : Sending) → t ≡ after_due lane.sender → is_done (record lane { sender = t }) ≡ is_done lane
done_due lane t is = ap (λ (x : Sending). is_done (record lane { sender = x })) is ∙ by lane.sender.again (in_window lane.sender lane.sender.next)
  where
    by : (a b : Bool) → is_done (record lane { sender = cond a (record lane.sender { again = false }) (cond b (record lane.sender { next = suc lane.sender.next }) lane.sender) }) ≡ is_done lane
    by true b = refl
    by false true = refl
    by false false = refl
