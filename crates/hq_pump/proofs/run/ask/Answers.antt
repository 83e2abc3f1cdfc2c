use Rattle.std.proofs.Common.{List, None, subst}
use Rattle.hq_pump.specs.declared.lane.Lane.{Lane}
use Rattle.hq_pump.specs.Pumping.{at, first_open, IsEnd}
use Rattle.hq_pump.proofs.Over.{ready_at, run_end, run_lost}
use Rattle.hq_pump.proofs.run.ask.Goals as goal

pub returns-in-Err-clause-ends : goal.returns-in-Err-clause-ends
returns-in-Err-clause-ends g c =
    let ready = ready_at c.args.lanes.now.items (g.L.Link.state c.args.link.now) c.args.base (g.T.Take.taken c.args.take.now) c.requires.idle c.requires.not_done in
    run_end (at c.args.lanes.now.items (g.L.Link.state c.args.link.now) c.args.base (g.T.Take.taken c.args.take.now) None) c.listen.new.lanes.items (g.L.Link.state c.listen.new.link) c.args.base (g.T.Take.taken c.listen.new.take) c.in-Err.fault c.end_of.result (c.in-Err.ensures.runs ready)
    (subst (λ (xs : List Lane). IsEnd c.args.base (first_open xs) (g.L.Link.state c.listen.new.link).troubles c.in-Err.fault c.end_of.result) c.deref-in-Err.ensures.value c.end_of.ensures)

pub returns-then-is_lost-clause-ends : goal.returns-then-is_lost-clause-ends
returns-then-is_lost-clause-ends g c =
    let ready = ready_at c.args.lanes.now.items (g.L.Link.state c.args.link.now) c.args.base (g.T.Take.taken c.args.take.now) c.requires.idle c.requires.not_done in
    run_lost (at c.args.lanes.now.items (g.L.Link.state c.args.link.now) c.args.base (g.T.Take.taken c.args.take.now) None) c.listen.new.lanes.items (g.L.Link.state c.listen.new.link) c.in-Ok.now (g.T.Take.taken c.listen.new.take) c.lost.result (c.in-Ok.ensures.runs ready)
    (λ f. subst (λ (xs : List Lane). IsEnd c.in-Ok.now (first_open xs) (g.L.Link.state c.listen.new.link).troubles f c.lost.result) c.deref.ensures.value (c.lost.ensures f))

pub returns-else-is_lost-clause-goes_on : goal.returns-else-is_lost-clause-goes_on
returns-else-is_lost-clause-goes_on g c =
    c.in-Ok.ensures.runs (ready_at c.args.lanes.now.items (g.L.Link.state c.args.link.now) c.args.base (g.T.Take.taken c.args.take.now) c.requires.idle c.requires.not_done)

pub returns-else-is_lost-clause-less : goal.returns-else-is_lost-clause-less
returns-else-is_lost-clause-less g c = c.in-Ok.ensures.less c.requires.few c.requires.not_lost

pub returns-else-is_lost-clause-not_lost : goal.returns-else-is_lost-clause-not_lost
returns-else-is_lost-clause-not_lost g c = c.is_lost.ensures.not_lost c.if-is_lost.false
