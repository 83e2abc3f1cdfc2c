-- The stream `hi`: both of its numbers are due at once, the first again after a silence, and one past the end never is.
use Rattle.std.proofs.Common.{◌≡◌, ℕ, List, [], ◌∷◌, Bool, true, false, Option, Some, None, refl}
use Rattle.hq_link.specs.declared.route.Route.{Route}
use Rattle.hq_send.specs.Sending.{Sending, due_now, after_due, is_new, after_ack, after_quiet}

route : Route
route = record { from = 0; to = 2; motion = 1; query = 5 }

at : ℕ → ℕ → Bool → Sending
at acked next again = record { route = route; stream = 0x68 ∷ 0x69 ∷ []; next = next; acked = acked; again = again }

first : due_now (at 0 0 false) ≡ Some 0
unfolding at
first = refl

the_end_too : due_now (after_due (at 0 0 false)) ≡ Some 1
unfolding at
the_end_too = refl

nothing_more : due_now (at 0 2 false) ≡ None
unfolding at
nothing_more = refl

again : due_now (after_quiet (at 0 2 false)) ≡ Some 0
unfolding at
again = refl

nothing_sent_is_not_due_again : after_quiet (at 0 0 false) ≡ at 0 0 false
unfolding at
nothing_sent_is_not_due_again = refl

an_old_number : is_new (at 1 2 false) 1 ≡ false
unfolding at
an_old_number = refl

past_the_end : is_new (at 0 2 false) 3 ≡ false
unfolding at
past_the_end = refl

above_what_was_sent : after_ack (at 0 0 true) 2 ≡ at 2 2 false
unfolding at
above_what_was_sent = refl
