use Rattle.std.proofs.Common.{arith, ap}
use Rattle.hq_lane.specs.Lanes.{PartState}
use Rattle.hq_table.specs.Home.{HasGrown}
use Rattle.hq_table.proofs.Places.{all-places, grown-none}
use Rattle.hq_table.proofs.write.write.Goals as goal

pub returns-in_err-write_bucket-clause-grown : goal.returns-in_err-write_bucket-clause-grown
returns-in_err-write_bucket-clause-grown c = λ b _.
    all-places HasGrown c.args.part.now.files c.loop-bucket.part.files c.write_bucket.new.part.files c.loop-bucket.bucket grown-none
    (λ each below. (_, (c.loop-bucket.invariant.written each below).grown)) c.loop-bucket.invariant.ahead
    (ap (λ (p : PartState). p.files) c.write_bucket.ensures.others) c.write_bucket.ensures.grown b

pub returns-clause-grown : goal.returns-clause-grown
returns-clause-grown c = λ b within. (_, (c.loop-bucket.invariant.written b (omega (arith, within))).grown)
