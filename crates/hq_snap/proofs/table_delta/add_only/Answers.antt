-- The only file that may have changed is all.
use Rattle.hq_snap.proofs.Files.{only_all}
use Rattle.hq_snap.proofs.table_delta.add_only.Goals as goal

pub returns : goal.returns
returns g c = only_all c.args.lane c.args.changes.now c.args.at c.args.seals.now c.args.bucket c.args.files.now.items c.add_file.new.files.items c.requires.others c.in_ok-add_file.ensures
