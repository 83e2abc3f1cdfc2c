-- The rows of the bucket were appended, or some first ones of them.
use Rattle.hq_lane.specs.Lanes.{file_of}
use Rattle.hq_lane.specs.Packing.{chosen_rows}
use Rattle.hq_txn.specs.Shares.{share_in}
use Rattle.hq_txn.proofs.Growing.{begun-told, written-told}
use Rattle.hq_txn.proofs.task.append_share.Goals as goal

pub returns-clause-written : goal.returns-clause-written
returns-clause-written g c =
    written-told c.append_chosen.result g.F.StoredFile.tells c.args.kinds.now (share_in c.args.shares.now c.args.bucket) (chosen_rows c.rows_in-rows.result.now)
    (file_of c.args.part.now.files c.args.bucket) (file_of c.append_chosen.new.self.files c.args.bucket) c.rows_in-rows.ensures.rows
    c.append_chosen.ensures.packed c.append_chosen.ensures.file c.append_chosen.ensures.whole

pub returns-clause-begun : goal.returns-clause-begun
returns-clause-begun g c =
    begun-told c.append_chosen.result g.F.StoredFile.tells c.args.kinds.now (share_in c.args.shares.now c.args.bucket) (chosen_rows c.rows_in-rows.result.now)
    (file_of c.args.part.now.files c.args.bucket) (file_of c.append_chosen.new.self.files c.args.bucket) c.rows_in-rows.ensures.rows
    (written-told c.append_chosen.result g.F.StoredFile.tells c.args.kinds.now (share_in c.args.shares.now c.args.bucket) (chosen_rows c.rows_in-rows.result.now)
    (file_of c.args.part.now.files c.args.bucket) (file_of c.append_chosen.new.self.files c.args.bucket) c.rows_in-rows.ensures.rows
    c.append_chosen.ensures.packed c.append_chosen.ensures.file c.append_chosen.ensures.whole)
    c.append_chosen.ensures.first
