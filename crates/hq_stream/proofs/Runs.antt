-- Both ends stay safe over every schedule.
use Rattle.std.proofs.Common.{◌≡◌, ℕ, zero, suc, ◌+◌, ◌<◌, ◌≤◌, Bool, true, false, ◌&&◌, ltb, leb, cond, List, [], ◌∷◌, length, take, Option, Some, None, refl, sym, ap, subst, ◌∙◌, arith}
use Rattle.std.specs.Prelude.{slice_get}
use Rattle.std.specs.List.{AllByRecursion}
use Rattle.hq_stream.specs.Piece.{Piece, eos, piece_at}
use Rattle.hq_stream.specs.Receiving.{Receiving, fresh, taken, filled_up, is_outside, came, IsOf}
use Rattle.hq_stream.specs.TwoEnds.{World, Event, Sent, Send, Deliver, Ask, Acknowledge, start, sends, comes, acknowledges, happens, run, IsSafe}
use Rattle.hq_stream.proofs.Taking.{ArePieces-empty, came_is, came_grows}

member : {A : Type 0} (P : A → Type 0) (xs : List A) (place : ℕ) (x : A) → AllByRecursion P xs → slice_get xs place ≡ Some x → P x
member P [] place x all e = absurd cc
member P (y ∷ ys) zero x all e = subst P (let same : y ≡ x = cc in same) all.0
member P (y ∷ ys) (suc place) x all e = member P ys place x all.1 e

weaker : {A : Type 0} (P Q : A → Type 0) (xs : List A) → ((x : A) → P x → Q x) → AllByRecursion P xs → AllByRecursion Q xs
weaker P Q [] h all = tt
weaker P Q (x ∷ xs) h all = (h x all.0, weaker P Q xs h all.1)

pub start_is : (stream : List ℕ) → IsSafe stream (start stream)
start_is stream = record {
  stream = refl;
  receiver = record { front = refl; within = omega arith; ended = λ e. absurd cc; not_ended = λ _. omega arith; kept = ArePieces-empty stream 0 16 };
  sent = tt;
  asked = tt;
  acked = omega arith;
}

send_is : (stream : List ℕ) (w : World) (n : ℕ) (o : Option Piece) → piece_at stream n ≡ o → IsSafe stream w → IsSafe stream (sends w n o)
send_is stream w n None e safe = safe
send_is stream w n (Some piece) e safe = record { stream = safe.stream; receiver = safe.receiver; sent = (e, safe.sent); asked = safe.asked; acked = safe.acked }

come_is : (stream : List ℕ) (w : World) (place : ℕ) (o : Option Sent) → slice_get w.sent place ≡ o → IsSafe stream w → IsSafe stream (comes w o)
come_is stream w place None e safe = safe
come_is stream w place (Some s) e safe =
    let is = member (λ s. piece_at stream s.number ≡ Some s.piece) w.sent place s safe.sent e in
    let grows = came_grows w.receiver s.number s.piece in
    record {
      stream = safe.stream;
      receiver = came_is stream [] w.receiver s.number s.piece is safe.receiver;
      sent = safe.sent;
      asked = weaker (λ n. n ≤ w.receiver.wanted) (λ n. n ≤ (came w.receiver s.number s.piece).wanted) w.asked (λ n h. omega (arith, h, grows)) safe.asked;
      acked = omega (arith, safe.acked, grows);
    }

acknowledge_is : (stream : List ℕ) (w : World) (place : ℕ) (o : Option ℕ) → slice_get w.asked place ≡ o → IsSafe stream w → IsSafe stream (acknowledges w o)
acknowledge_is stream w place None e safe = safe
acknowledge_is stream w place (Some n) e safe = by (ltb w.acked n && leb n (suc (eos w.stream)))
  where
    by : (b : Bool) → IsSafe stream (cond b (record w { acked = n }) w)
    by false = safe
    by true = record { stream = safe.stream; receiver = safe.receiver; sent = safe.sent; asked = safe.asked; acked = member (λ n. n ≤ w.receiver.wanted) w.asked place n safe.asked e }

pub step_is : (stream : List ℕ) (w : World) (event : Event) → IsSafe stream w → IsSafe stream (happens w event)
step_is stream w (Send n) safe = by (ltb n (w.acked + 16))
  where
    by : (b : Bool) → IsSafe stream (cond b (sends w n (piece_at w.stream n)) w)
    by true = send_is stream w n (piece_at w.stream n) (ap (λ s. piece_at s n) (sym safe.stream)) safe
    by false = safe
step_is stream w (Deliver place) safe = come_is stream w place (slice_get w.sent place) refl safe
step_is stream w Ask safe = record { stream = safe.stream; receiver = safe.receiver; sent = safe.sent; asked = (omega arith, safe.asked); acked = safe.acked }
step_is stream w (Acknowledge place) safe = acknowledge_is stream w place (slice_get w.asked place) refl safe

pub run_is : (stream : List ℕ) (events : List Event) (w : World) → IsSafe stream w → IsSafe stream (run events w)
run_is stream [] w safe = safe
run_is stream (event ∷ events) w safe = run_is stream events (happens w event) (step_is stream w event safe)
