-- A row takes some bytes.
use Rattle.hq_motion.proofs.Reading.{row-takes}
use Rattle.hq_dispatch.proofs.arrivals.read_one.Goals as goal

pub returns-clause-some : goal.returns-clause-some
returns-clause-some c = row-takes c.args.kinds.now c.args.bytes.now c.in-Ok.row c.in-Ok.len c.requires.some c.in-Ok.ensures.found
