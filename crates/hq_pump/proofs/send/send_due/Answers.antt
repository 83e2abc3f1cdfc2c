use Rattle.std.proofs.Common.{◌∙◌, refl, Some, None, arith}
use Rattle.hq_pump.proofs.Steps.{then_run, still_run}
use Rattle.hq_pump.proofs.send.send_due.Goals as goal

pub due-init : goal.due-init
due-init g c = record {
  runs = λ s i at. still_run s i c.args.lane.now (g.L.Link.state c.args.link.now) at;
  done = refl;
  room = c.requires.room;
  less = λ base. omega arith;
}

pub due-preserved : goal.due-preserved
due-preserved g c = record {
  runs = λ s i at. then_run s i c.args.lane.now c.due.lane c.send_one.new.lane (g.L.Link.state c.args.link.now) (g.L.Link.state c.due.link) (g.L.Link.state c.send_one.new.link) None at (c.due.invariant.runs s i at) c.in-Ok-true.ensures.runs;
  done = c.in-Ok-true.ensures.done ∙ c.due.invariant.done;
  room = omega (arith, c.due.invariant.room);
  less = λ base. omega (arith, c.due.invariant.less base, c.in-Ok-true.ensures.less base);
}

pub returns-in-Err-clause-runs : goal.returns-in-Err-clause-runs
returns-in-Err-clause-runs g c s i at =
    then_run s i c.args.lane.now c.due.lane c.send_one.new.lane (g.L.Link.state c.args.link.now) (g.L.Link.state c.due.link) (g.L.Link.state c.send_one.new.link) (Some c.in-Err.fault) at (c.due.invariant.runs s i at) c.in-Err.ensures.runs

pub returns-in-Ok-false-clause-runs : goal.returns-in-Ok-false-clause-runs
returns-in-Ok-false-clause-runs g c s i at =
    then_run s i c.args.lane.now c.due.lane c.send_one.new.lane (g.L.Link.state c.args.link.now) (g.L.Link.state c.due.link) (g.L.Link.state c.send_one.new.link) None at (c.due.invariant.runs s i at) c.in-Ok-false.ensures.runs

pub returns-in-Err-clause-done : goal.returns-in-Err-clause-done
returns-in-Err-clause-done g c = c.in-Err.ensures.done ∙ c.due.invariant.done

pub returns-in-Ok-false-clause-done : goal.returns-in-Ok-false-clause-done
returns-in-Ok-false-clause-done g c = c.in-Ok-false.ensures.done ∙ c.due.invariant.done
