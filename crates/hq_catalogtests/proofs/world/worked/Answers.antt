-- What is held has changed, and the lanes beside it are the same.
use Rattle.std.proofs.Common.{refl}
use Rattle.hq_catalogtests.proofs.Worked.{held_stays}
use Rattle.hq_catalogtests.proofs.world.worked.Goals as goal

pub returns-in-Write : goal.returns-in-Write
returns-in-Write c = held_stays c.args.hand _ c.write_rows-held.result refl refl c.write_rows-held.ensures

pub returns-in-Cut : goal.returns-in-Cut
returns-in-Cut c = held_stays c.args.hand _ c.cut-held.result refl refl c.cut-held.ensures
