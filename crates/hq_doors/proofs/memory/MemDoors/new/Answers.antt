use Rattle.hq_doors.proofs.Named.{TellsEach-distinct}
use Rattle.hq_doors.proofs.memory.MemDoors.new.Goals as goal

pub returns-clause-each_file : goal.returns-clause-each_file
returns-clause-each_file c = TellsEach-distinct _ c.requires
