use Rattle.hq_whole.specs.Places.{place_of}
use Rattle.hq_whole.proofs.Nodes.{renamed-more}
use Rattle.hq_whole.proofs.renaming.renamed_exprs.Goals as goal

pub loop-e-preserved : goal.loop-e-preserved
loop-e-preserved c = renamed-more (place_of c.args.to.now) c.args.exprs.now c.loop-e.e-index c.e-item.result c.loop-e.new c.in_ok-renamed.field-0 c.push.new.self c.loop-e.invariant c.loop-e-test.true c.e-item.is c.in_ok-renamed.ensures c.in_ok-push.ensures.ok
