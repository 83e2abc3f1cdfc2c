use Rattle.hq_whole.specs.Choices.{built_of}
use Rattle.hq_whole.proofs.Building.{listed-same}
use Rattle.hq_whole.proofs.spreading.listed.Goals as goal

pub returns : goal.returns
returns c =
    listed-same c.args.query.now (built_of c.args.built) c.args.out c.in_ok-values.values c.gathered.new.slices c.push.new.self c.in_ok-received.received c.in_ok-root.root c.sending.result
    c.in_ok-values.ensures c.in_ok-received.ensures.slices c.in_ok-received.ensures.received c.in_ok-root.ensures c.sending.ensures c.in_ok-push.ensures.ok
