use Rattle.std.proofs.Common.{rules, ap, ◌∙◌}
use Rattle.hq_histlock.specs.declared.view.View.{View}
use Rattle.hq_histlock.proofs.Keeps.{looks}
use Rattle.hq_histlock.proofs.Moves.{joins}
use Rattle.hq_histlock.proofs.Closes.{joined_seen}
use Rattle.hq_histlock.proofs.lock.HistLock.join.Goals as goal

pub join_seat-requires : goal.join_seat-requires
join_seat-requires g c = (
  search rules,
  search rules,
  search rules,
  search rules,
  joins _ _ _ _ _ _
      (ap (λ (u : View). u.chief) c.take_seat-seat.ensures.view ∙ c.requires.first.1)
      (ap (λ (u : View). u.turn) c.take_seat-seat.ensures.view ∙ (c.requires.first.0).5)
      (ap (λ (u : View). u.raw) c.take_seat-seat.ensures.view ∙ (c.requires.first.0).6)
      (ap (λ (u : View). u.live) c.take_seat-other.ensures.view ∙ c.requires.pass.4)
      (ap (λ (u : View). u.turn) c.take_seat-other.ensures.view ∙ c.requires.pass.5),
)

pub load-requires : goal.load-requires
load-requires g c = (search rules, search rules, looks _ _ _ _ _ (ap (λ m. (m.0).raw) c.join_seat.ensures.2 ∙ ap (λ (u : View). u.raw) c.take_seat-seat.ensures.view ∙ (c.requires.first.0).6))

pub returns-clause-own : goal.returns-clause-own
returns-clause-own g c = (joined_seen _ _ _ _ _ _ _ ((c.load.ensures.2).1).0 c.put_seat.ensures.view (ap (λ m. m.0) (c.load.ensures.2).0) (ap (λ m. m.0) c.join_seat.ensures.2) c.take_seat-seat.ensures.view c.take_seat-other.ensures.view c.requires.first.1 ((c.load.ensures.2).1).2).0

pub returns-clause-others : goal.returns-clause-others
returns-clause-others g c = (joined_seen _ _ _ _ _ _ _ ((c.load.ensures.2).1).0 c.put_seat.ensures.view (ap (λ m. m.0) (c.load.ensures.2).0) (ap (λ m. m.0) c.join_seat.ensures.2) c.take_seat-seat.ensures.view c.take_seat-other.ensures.view c.requires.first.1 ((c.load.ensures.2).1).2).1
