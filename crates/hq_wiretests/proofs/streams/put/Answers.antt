use Rattle.std.proofs.Common.{◌≡◌, true}
use Rattle.hq_sim.specs.Acting.{state_of}
use Rattle.hq_wiretests.proofs.Nodes.{earlier_sent}
use Rattle.hq_wiretests.proofs.streams.put.Goals as goal

pub returns-then-may_lie : goal.returns-then-may_lie
returns-then-may_lie c are =
    earlier_sent c.args.query c.args.motion (state_of c.args.link.now) (state_of c.send.new.self) c.args.bytes.now c.send.result (c.may_lie.ensures.earlier c.if-may_lie.true) c.send.ensures.link are
