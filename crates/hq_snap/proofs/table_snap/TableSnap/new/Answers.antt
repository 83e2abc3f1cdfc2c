-- Where no file had a seal, all seals are those that were brought.
use Rattle.hq_snap.proofs.Placed.{new_of}
use Rattle.hq_snap.proofs.table_snap.TableSnap.new.Goals as goal

pub returns-clause-seals : goal.returns-clause-seals
returns-clause-seals g c = new_of c.args.delta.lanes _ c.into_places-seals.result c.merge.new.self c.into_parts-def.ensures.files c.into_places-seals.ensures c.merge.ensures
