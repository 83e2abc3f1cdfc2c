use Rattle.std.proofs.Common.{◌≡◌, true, None, subst, sym, ap, ◌∙◌, refl, arith}
use Rattle.hq_pump.specs.Exchange.{Run, still}
use Rattle.hq_pump.specs.Pumping.{at, all_done}
use Rattle.hq_pump.proofs.Steps.{joined}
use Rattle.hq_pump.proofs.Over.{run_done, run_on, none_open}
use Rattle.hq_pump.proofs.run.pump.Goals as goal

pub turns-init : goal.turns-init
turns-init g c = record {
  runs = subst (λ b. Run (at c.args.lanes.now.items (g.L.Link.state c.args.link.now) (g.L.Link.state c.args.link.now).troubles (g.T.Take.taken c.args.take.now) None) (at c.args.lanes.now.items (g.L.Link.state c.args.link.now) b (g.T.Take.taken c.args.take.now) None)) (sym c.troubles-base.ensures) still;
  room_in = c.requires.room_in;
  room_out = c.requires.room_out;
  few = c.requires.few;
  fresh = λ _. refl;
}

pub turns-preserved : goal.turns-preserved
turns-preserved g c = record {
  runs = joined (at c.args.lanes.now.items (g.L.Link.state c.args.link.now) (g.L.Link.state c.args.link.now).troubles (g.T.Take.taken c.args.take.now) None) (at c.turns.lanes.items (g.L.Link.state c.turns.link) c.turns.base (g.T.Take.taken c.turns.take) None) (at c.turn.new.lanes.items (g.L.Link.state c.turn.new.link) c.in-Ok.now (g.T.Take.taken c.turn.new.take) None) c.turns.invariant.runs c.in-Ok.ensures.goes_on;
  room_in = omega (arith, c.turns.invariant.room_in);
  room_out = omega (arith, c.turns.invariant.room_out);
  few = omega (arith, c.turns.invariant.few, c.turn.ensures.count);
  fresh = λ lost. absurd (omega (arith, lost, c.in-Ok.ensures.not_lost));
}

pub returns-in-Err : goal.returns-in-Err
returns-in-Err g c =
    run_on (at c.args.lanes.now.items (g.L.Link.state c.args.link.now) (g.L.Link.state c.args.link.now).troubles (g.T.Take.taken c.args.take.now) None) (at c.turns.lanes.items (g.L.Link.state c.turns.link) c.turns.base (g.T.Take.taken c.turns.take) None) (g.L.Link.state c.turn.new.link) (g.T.Take.taken c.turn.new.take) c.in-Err.end c.turns.invariant.runs c.in-Err.ensures.ends

pub returns-then-all_done : goal.returns-then-all_done
returns-then-all_done g c =
    let done : all_done c.turns.lanes.items ≡ true = ap all_done (sym c.deref.ensures.value) ∙ sym c.all_done.ensures ∙ c.if-all_done.true in
    run_done (at c.args.lanes.now.items (g.L.Link.state c.args.link.now) (g.L.Link.state c.args.link.now).troubles (g.T.Take.taken c.args.take.now) None) c.turns.lanes.items (g.L.Link.state c.turns.link) c.turns.base (g.T.Take.taken c.turns.take) c.turns.invariant.runs done
    (λ lost. none_open c.turns.lanes.items c.args.lanes.now.items c.requires.open_ones (c.turns.invariant.fresh lost) done)
