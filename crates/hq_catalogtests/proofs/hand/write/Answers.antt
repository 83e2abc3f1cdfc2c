-- Rows were appended to the lane that is written.
use Rattle.hq_catalogtests.specs.declared.hand.Held.TheVariants as held
use Rattle.hq_catalogtests.proofs.Worked.{stays_as}
use Rattle.hq_catalogtests.proofs.hand.write.Goals as goal

pub returns-in-Writes : goal.returns-in-Writes
returns-in-Writes c = stays_as c.args.held (held.Writes c.in-Writes.lane) c.append.result c.in-Writes.is c.append.ensures
