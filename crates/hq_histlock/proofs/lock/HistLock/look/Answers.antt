use Rattle.std.proofs.Common.{rules, ap, ◌∙◌}
use Rattle.hq_histlock.specs.declared.view.View.{View}
use Rattle.hq_histlock.proofs.Keeps.{looks}
use Rattle.hq_histlock.proofs.lock.HistLock.look.Goals as goal

pub load-count-requires : goal.load-count-requires
load-count-requires g c = (search rules, search rules, looks _ _ _ _ _ (ap (λ (u : View). u.raw) c.take_seat-seat.ensures.view ∙ c.requires.6))
