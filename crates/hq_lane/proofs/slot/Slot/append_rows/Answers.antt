-- Without memory for it no file is made.
use Rattle.std.proofs.Common.{subst, sym}
use Rattle.hq_lane.specs.BucketFiles.{BucketState}
use Rattle.hq_lane.specs.Packing.{GrewByFirst}
use Rattle.hq_lane.proofs.Growing.{grew_none}
use Rattle.hq_lane.proofs.slot.Slot.append_rows.Goals as goal

pub returns-in_default-new-clause-first : goal.returns-in_default-new-clause-first
returns-in_default-new-clause-first g c =
    (0, subst (λ (p : BucketState). GrewByFirst g.F.StoredFile.tells c.args.kinds.now 0 c.args.rows.now c.args.self.now p) (sym c.self.view_is) (grew_none g.F.StoredFile.tells c.args.kinds.now c.args.rows.now c.args.self.now))
