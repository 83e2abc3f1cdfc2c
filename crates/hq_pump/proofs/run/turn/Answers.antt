use Rattle.std.proofs.Common.{List, None, subst}
use Rattle.hq_pump.specs.declared.lane.Lane.{Lane}
use Rattle.hq_pump.specs.Pumping.{at, first_open, IsEnd}
use Rattle.hq_pump.proofs.Over.{run_end, run_lost, ok_on, err_on}
use Rattle.hq_pump.proofs.run.turn.Goals as goal

pub returns-in-Err-clause-ends : goal.returns-in-Err-clause-ends
returns-in-Err-clause-ends g c =
    run_end (at c.args.lanes.now.items (g.L.Link.state c.args.link.now) c.args.base (g.T.Take.taken c.args.take.now) None) c.send_all.new.lanes.items (g.L.Link.state c.send_all.new.link) c.args.base (g.T.Take.taken c.args.take.now) c.in-Err.fault c.end_of.result (c.in-Err.ensures.runs c.args.base (g.T.Take.taken c.args.take.now))
    (subst (λ (xs : List Lane). IsEnd c.args.base (first_open xs) (g.L.Link.state c.send_all.new.link).troubles c.in-Err.fault c.end_of.result) c.deref-in-Err.ensures.value c.end_of.ensures)

pub returns-then-is_lost-clause-ends : goal.returns-then-is_lost-clause-ends
returns-then-is_lost-clause-ends g c =
    run_lost (at c.args.lanes.now.items (g.L.Link.state c.args.link.now) c.args.base (g.T.Take.taken c.args.take.now) None) c.send_all.new.lanes.items (g.L.Link.state c.send_all.new.link) c.args.base (g.T.Take.taken c.args.take.now) c.lost.result (c.in-Ok.ensures.runs c.args.base (g.T.Take.taken c.args.take.now))
    (λ f. subst (λ (xs : List Lane). IsEnd c.args.base (first_open xs) (g.L.Link.state c.send_all.new.link).troubles f c.lost.result) c.deref.ensures.value (c.lost.ensures f))

pub returns-else-is_lost-clause-goes_on : goal.returns-else-is_lost-clause-goes_on
returns-else-is_lost-clause-goes_on g c =
    ok_on c.ask.result (at c.args.lanes.now.items (g.L.Link.state c.args.link.now) c.args.base (g.T.Take.taken c.args.take.now) None) (at c.send_all.new.lanes.items (g.L.Link.state c.send_all.new.link) c.args.base (g.T.Take.taken c.args.take.now) None) (λ now. at c.ask.new.lanes.items (g.L.Link.state c.ask.new.link) now (g.T.Take.taken c.ask.new.take) None) (c.in-Ok.ensures.runs c.args.base (g.T.Take.taken c.args.take.now)) c.ask.ensures.goes_on

pub returns-else-is_lost-clause-ends : goal.returns-else-is_lost-clause-ends
returns-else-is_lost-clause-ends g c =
    err_on c.ask.result (at c.args.lanes.now.items (g.L.Link.state c.args.link.now) c.args.base (g.T.Take.taken c.args.take.now) None) (at c.send_all.new.lanes.items (g.L.Link.state c.send_all.new.link) c.args.base (g.T.Take.taken c.args.take.now) None) (g.L.Link.state c.ask.new.link) (g.T.Take.taken c.ask.new.take) (c.in-Ok.ensures.runs c.args.base (g.T.Take.taken c.args.take.now)) c.ask.ensures.ends

pub returns-else-is_lost-clause-not_lost : goal.returns-else-is_lost-clause-not_lost
returns-else-is_lost-clause-not_lost g c = c.ask.ensures.not_lost
