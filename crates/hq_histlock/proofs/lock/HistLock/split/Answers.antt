use Rattle.std.proofs.Common.{rules, ap, ◌∙◌}
use Rattle.hq_histlock.specs.declared.view.View.{View}
use Rattle.hq_histlock.proofs.Moves.{splits}
use Rattle.hq_histlock.proofs.lock.HistLock.split.Goals as goal

pub split_seat-made-requires : goal.split_seat-made-requires
split_seat-made-requires g c = (
  search rules,
  search rules,
  splits _ _ _ _ (ap (λ (u : View). u.chief) c.take_seat-seat.ensures.view ∙ c.requires.first.1) (ap (λ (u : View). u.raw) c.take_seat-seat.ensures.view ∙ (c.requires.first.0).6),
)
