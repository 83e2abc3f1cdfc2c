use Rattle.std.proofs.Common.{Some, None, ◌∙◌, refl, arith}
use Rattle.hq_pump.specs.Exchange.{still}
use Rattle.hq_pump.proofs.Turning.{place_read, one_more_lane, idle_more, work_set, set_length, done_set}
use Rattle.hq_pump.proofs.turn.send_all.Goals as goal

pub loop-i-init : goal.loop-i-init
loop-i-init g c = record { runs = λ base taken. still; idle = λ j lane lt e. absurd (omega (arith, lt)); done = refl; count = refl; room = c.requires.room; less = λ base. omega arith }

pub loop-i-preserved : goal.loop-i-preserved
loop-i-preserved g c =
    let lane = c.index_mut-lane.result.now in
    let there = place_read c.loop-i.lanes.items c.loop-i.i lane (omega (arith, c.loop-i.invariant.count)) c.index_mut-lane.ensures.value in
    record {
      runs = λ base taken. one_more_lane c.args.lanes.now.items c.loop-i.lanes.items (g.L.Link.state c.args.link.now) (g.L.Link.state c.loop-i.link) (g.L.Link.state c.send_due.new.link) c.loop-i.i lane c.send_due.new.lane base taken None (c.loop-i.invariant.runs base taken) there c.in-Ok.ensures.runs;
      idle = idle_more c.loop-i.lanes.items c.loop-i.i c.send_due.new.lane c.loop-i.invariant.idle c.in-Ok.ensures.none;
      done = done_set c.loop-i.lanes.items c.loop-i.i lane c.send_due.new.lane there c.in-Ok.ensures.done ∙ c.loop-i.invariant.done;
      count = set_length c.loop-i.lanes.items c.loop-i.i c.send_due.new.lane ∙ c.loop-i.invariant.count;
      room = omega (arith, c.loop-i.invariant.room);
      less = λ base. (let le = work_set c.loop-i.lanes.items c.loop-i.i lane c.send_due.new.lane (g.L.Link.state c.loop-i.link) (g.L.Link.state c.send_due.new.link) base 0 there (omega (arith, c.in-Ok.ensures.less base)) in omega (arith, c.loop-i.invariant.less base, le));
    }

pub returns-in-Err-clause-runs : goal.returns-in-Err-clause-runs
returns-in-Err-clause-runs g c base taken =
    let lane = c.index_mut-lane.result.now in
    let there = place_read c.loop-i.lanes.items c.loop-i.i lane (omega (arith, c.loop-i.invariant.count)) c.index_mut-lane.ensures.value in
    one_more_lane c.args.lanes.now.items c.loop-i.lanes.items (g.L.Link.state c.args.link.now) (g.L.Link.state c.loop-i.link) (g.L.Link.state c.send_due.new.link) c.loop-i.i lane c.send_due.new.lane base taken (Some c.in-Err.fault) (c.loop-i.invariant.runs base taken) there c.in-Err.ensures.runs

pub returns-in-Err-clause-done : goal.returns-in-Err-clause-done
returns-in-Err-clause-done g c =
    let lane = c.index_mut-lane.result.now in
    let there = place_read c.loop-i.lanes.items c.loop-i.i lane (omega (arith, c.loop-i.invariant.count)) c.index_mut-lane.ensures.value in
    done_set c.loop-i.lanes.items c.loop-i.i lane c.send_due.new.lane there c.in-Err.ensures.done ∙ c.loop-i.invariant.done
