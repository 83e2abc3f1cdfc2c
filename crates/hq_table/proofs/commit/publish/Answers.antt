use Rattle.std.proofs.Common.{◌∙◌, arith}
use Rattle.hq_lane.specs.Lanes.{file_of}
use Rattle.hq_table.proofs.Committing.{ready-bytes, sealed-bytes}
use Rattle.hq_table.proofs.commit.publish.Goals as goal

pub returns-in-Some-clause-under : goal.returns-in-Some-clause-under
returns-in-Some-clause-under c =
    sealed-bytes c.args.seals.now.items c.args.bucket c.in-Some.seal (omega (arith, c.requires.sixteen, c.requires.in_range))
    ∙ ready-bytes (file_of c.args.lane.now.files c.args.bucket) _ c.requires.ready c.in-Some.ensures.seal c.in-Some.ensures.order c.in-Some.ensures.just
