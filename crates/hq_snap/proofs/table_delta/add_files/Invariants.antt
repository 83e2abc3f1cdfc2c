use Rattle.std.proofs.Common.{◌≡◌, ◌++◌}
use Rattle.hq_snap.specs.Deltas.{files_in}
use Rattle.hq_snap.proofs.table_delta.add_files.Given as goal

abbrev pub invariant-loop-bucket : goal.invariant-loop-bucket
invariant-loop-bucket g l = l.files.items ≡ l.initial.files.items ++ files_in l.lane l.changes l.at l.seals l.bucket
