-- These are the files that changed since.
use Rattle.hq_snap.proofs.Files.{since_all}
use Rattle.hq_snap.proofs.table_delta.copy_since.Goals as goal

pub returns-clause-seals : goal.returns-clause-seals
returns-clause-seals g c = since_all c.args.changed.now c.args.at c.args.lanes.now c.requires c.in_ok-files.ensures.few c.in_ok-files.files.items c.in_ok-files.ensures.files
