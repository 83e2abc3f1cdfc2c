-- What ends a file's reading.
--     ended file fault        that the scan of a file ends so
use Rattle.hq_value.specs.declared.entry.FileId.{FileId}
use Rattle.hq_lane.specs.declared.scan_end.ScanFault.{ScanFault}
use Rattle.hq_lane.specs.declared.scan_end.ScanFault.TheVariants as fault
use Rattle.hq_exec.specs.declared.end.Ending.{Ending}
use Rattle.hq_exec.specs.declared.end.Ending.TheVariants as ending

-- that the scan of a file ends so
abbrev pub ended : FileId → ScanFault → Ending
ended file fault.Store = ending.Store
ended file (fault.BadBlock at bytes) = ending.BadBlock file at bytes
ended file fault.NoMemory = ending.NoMemory
