use Rattle.hq_whole.specs.Choices.{built_of}
use Rattle.hq_whole.proofs.Building.{closed-same}
use Rattle.hq_whole.proofs.spreading.closed.Goals as goal

pub returns : goal.returns
returns c =
    closed-same c.args.query.now (built_of c.args.built) c.args.sent c.in_ok-grouped.grouped c.gathered.new.slices c.push.new.self c.in_ok-received.received c.in_ok-root.root c.sending.result
    c.in_ok-grouped.ensures c.in_ok-received.ensures.slices c.in_ok-received.ensures.received c.in_ok-root.ensures c.sending.ensures c.in_ok-push.ensures.ok
