use Rattle.hq_histlock.proofs.Closes.{not_none, closed_with}
use Rattle.hq_histlock.specs.Passes.{view}
use Rattle.hq_histlock.proofs.lock.HistLock.close.Goals as goal

pub unreachable-requires : goal.unreachable-requires
unreachable-requires g c = not_none _ _ _ _ (view c.args.pass) _ _ _ c.take_seat.ensures.view c.requires.first.1 (c.requires.first.0).5 (c.requires.first.0).6 c.requires.all c.close_with-closed.ensures.values.2 c.take-value.ensures.value c.in_default.is

pub returns-clause-closed : goal.returns-clause-closed
returns-clause-closed g c = (closed_with _ _ _ _ (view c.args.pass) _ _ _ _ c.take_seat.ensures.view c.requires.first.1 (c.requires.first.0).5 (c.requires.first.0).6 c.requires.all c.close_with-closed.ensures.values.2 c.take-value.ensures.value c.in-Some.is).0

pub returns-clause-fixed : goal.returns-clause-fixed
returns-clause-fixed g c = (closed_with _ _ _ _ (view c.args.pass) _ _ _ _ c.take_seat.ensures.view c.requires.first.1 (c.requires.first.0).5 (c.requires.first.0).6 c.requires.all c.close_with-closed.ensures.values.2 c.take-value.ensures.value c.in-Some.is).1
