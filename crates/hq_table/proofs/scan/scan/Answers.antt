use Rattle.std.proofs.Common.{◌≡◌, ◌++◌, arith, ap, sym, subst, ◌∙◌}
use Rattle.hq_block.specs.Block.{FileRows}
use Rattle.hq_lane.specs.Scans.{IsFile}
use Rattle.hq_value.specs.Bucket.{joined}
use Rattle.hq_table.proofs.Scanned.{slot-bytes, joined-more}
use Rattle.hq_table.proofs.scan.scan.Goals as goal

pub scan_slot-requires-clause-file : goal.scan_slot-requires-clause-file
scan_slot-requires-clause-file c =
    subst (IsFile c.args.kinds.now) (slot-bytes c.args.seals.now c.loop-bucket.bucket c.index-seals-bucket.result (omega (arith, c.requires.sixteen)) c.index-seals-bucket.is) (c.requires.files c.loop-bucket.bucket c.loop-bucket-test.true)

pub loop-bucket-preserved : goal.loop-bucket-preserved
loop-bucket-preserved c =
    let k = c.loop-bucket.bucket in
    let slot = slot-bytes c.args.seals.now k c.index-seals-bucket.result (omega (arith, c.requires.sixteen)) c.index-seals-bucket.is in
    record {
      rows = λ kept keeps. c.in_ok-scan_slot.ensures.added (kept k) (subst (λ bytes. FileRows c.args.kinds.now bytes (kept k)) slot (keeps k c.loop-bucket-test.true))
          ∙ ap (λ rows. rows ++ kept k) (c.loop-bucket.invariant.rows kept keeps) ∙ sym (joined-more k kept);
      quiet = c.in_ok-scan_slot.ensures.quiet;
    }

pub returns-clause-rows : goal.returns-clause-rows
returns-clause-rows c =
    let all : c.loop-bucket.bucket ≡ 16 = omega arith in
    λ kept keeps. c.loop-bucket.invariant.rows kept keeps ∙ ap (λ n. joined n kept) all
