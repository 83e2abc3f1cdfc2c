use Rattle.std.proofs.Common.{List, map, Some, None, subst, ap, ◌∙◌, arith}
use Rattle.hq_pump.specs.declared.lane.Lane.{Lane}
use Rattle.hq_pump.specs.Exchange.{Run, still, asked_again}
use Rattle.hq_pump.specs.Pumping.{at, streams_left}
use Rattle.hq_pump.proofs.Turning.{place_read, one_more_lane, work_set, set_length, asked_left}
use Rattle.hq_pump.proofs.turn.rest.Goals as goal

pub loop-i-init : goal.loop-i-init
loop-i-init g c = record {
  runs = λ base taken. subst (λ (xs : List Lane). Run (at xs (g.L.Link.state c.args.link.now) base taken None) (at c.ask_again.new.lanes.items (g.L.Link.state c.args.link.now) base taken None)) c.ask_again.ensures.asked still;
  count = c.ask_again.ensures.count;
  room = c.requires.room;
  less = λ base. omega (arith, ap streams_left c.ask_again.ensures.asked, asked_left c.args.lanes.now.items);
}

pub loop-i-preserved : goal.loop-i-preserved
loop-i-preserved g c =
    let lane = c.index_mut-lane.result.now in
    let there = place_read c.loop-i.lanes.items c.loop-i.i lane (omega (arith, c.loop-i.invariant.count, c.ask_again.ensures.count)) c.index_mut-lane.ensures.value in
    record {
      runs = λ base taken. one_more_lane (map asked_again c.args.lanes.now.items) c.loop-i.lanes.items (g.L.Link.state c.args.link.now) (g.L.Link.state c.loop-i.link) (g.L.Link.state c.send_again.new.link) c.loop-i.i lane c.send_again.new.lane base taken None (c.loop-i.invariant.runs base taken) there c.in-Ok.ensures.runs;
      count = set_length c.loop-i.lanes.items c.loop-i.i c.send_again.new.lane ∙ c.loop-i.invariant.count;
      room = omega (arith, c.loop-i.invariant.room);
      less = λ base. (let le = work_set c.loop-i.lanes.items c.loop-i.i lane c.send_again.new.lane (g.L.Link.state c.loop-i.link) (g.L.Link.state c.send_again.new.link) base 2 there (c.in-Ok.ensures.less base) in omega (arith, c.loop-i.invariant.less base, le));
    }

pub returns-in-Err-clause-runs : goal.returns-in-Err-clause-runs
returns-in-Err-clause-runs g c base taken =
    let lane = c.index_mut-lane.result.now in
    let there = place_read c.loop-i.lanes.items c.loop-i.i lane (omega (arith, c.loop-i.invariant.count, c.ask_again.ensures.count)) c.index_mut-lane.ensures.value in
    one_more_lane (map asked_again c.args.lanes.now.items) c.loop-i.lanes.items (g.L.Link.state c.args.link.now) (g.L.Link.state c.loop-i.link) (g.L.Link.state c.send_again.new.link) c.loop-i.i lane c.send_again.new.lane base taken (Some c.in-Err.fault) (c.loop-i.invariant.runs base taken) there c.in-Err.ensures.runs
