-- What came of each sender is its stream.
use Rattle.hq_pump.specs.Pumping.{begun}
use Rattle.hq_pump.specs.Seen.{seen}
use Rattle.hq_dispatch.specs.Arrivals.{came_at}
use Rattle.hq_dispatch.proofs.Exchanging.{Left, went-well, found-none, ended-so}
use Rattle.hq_dispatch.proofs.Lasting.{later}
use Rattle.hq_dispatch.proofs.Receiving.{rows-known}
use Rattle.hq_dispatch.proofs.receive.take_streams.Goals as goal

pub returns-in-Ok-into_rows-clause-exchanged : goal.returns-in-Ok-into_rows-clause-exchanged
returns-in-Ok-into_rows-clause-exchanged g c =
    let e = c.exchange_into.ensures in
    let old = g.L.Link.state c.args.link.now in
    let new = g.L.Link.state c.exchange_into.new.link in
    let left : Left c.args.query c.args.motion old new = record {
      later = later (begun c.args.query c.args.motion c.args.node (seen c.args.streams.items) old (came_at c.in-Ok.arrivals.from)) new (came_at c.exchange_into.new.take.from) c.exchange_into.result e.runs;
      own = e.own;
      stays_sound = e.sound;
      steady = e.steady;
      lowered = e.rough;
    } in
    went-well c.args.query c.args.motion old new left c.in-Ok-into_rows.rows

pub returns-in-Err-into_rows-clause-exchanged : goal.returns-in-Err-into_rows-clause-exchanged
returns-in-Err-into_rows-clause-exchanged g c =
    let e = c.exchange_into.ensures in
    let old = g.L.Link.state c.args.link.now in
    let new = g.L.Link.state c.exchange_into.new.link in
    let left : Left c.args.query c.args.motion old new = record {
      later = later (begun c.args.query c.args.motion c.args.node (seen c.args.streams.items) old (came_at c.in-Ok.arrivals.from)) new (came_at c.exchange_into.new.take.from) c.exchange_into.result e.runs;
      own = e.own;
      stays_sound = e.sound;
      steady = e.steady;
      lowered = e.rough;
    } in
    found-none c.args.query c.args.motion old new left

pub returns-in-Err-clause-exchanged : goal.returns-in-Err-clause-exchanged
returns-in-Err-clause-exchanged g c =
    let e = c.exchange_into.ensures in
    let old = g.L.Link.state c.args.link.now in
    let new = g.L.Link.state c.exchange_into.new.link in
    let left : Left c.args.query c.args.motion old new = record {
      later = later (begun c.args.query c.args.motion c.args.node (seen c.args.streams.items) old (came_at c.in-Ok.arrivals.from)) new (came_at c.exchange_into.new.take.from) c.exchange_into.result e.runs;
      own = e.own;
      stays_sound = e.sound;
      steady = e.steady;
      lowered = e.rough;
    } in
    ended-so c.args.query c.args.motion old new left c.exchange_into.result c.in-Err.end c.in-Err.is e.cause e.complete

pub returns-in-Ok-into_rows-clause-known : goal.returns-in-Ok-into_rows-clause-known
returns-in-Ok-into_rows-clause-known g c =
    rows-known (g.L.Link.state c.exchange_into.new.link).may c.args.kinds.now c.args.sends.now (seen c.args.streams.items) (came_at c.in-Ok.arrivals.from) (came_at c.exchange_into.new.take.from) c.in-Ok-into_rows.rows.items
    c.in-Ok.ensures.none c.in-Ok-exchange_into.ensures.whole c.in-Ok-into_rows.ensures.rows
