use Rattle.std.proofs.Common.{◌≡◌, ◌<◌, ℕ}
use Rattle.hq_block.specs.Block.{FileRows}
use Rattle.hq_value.specs.Bucket.{Buckets, joined}
use Rattle.hq_table.specs.Kept.{bytes_in}
use Rattle.hq_table.specs.Home.{IsQuiet, files_of}
use Rattle.hq_table.proofs.scan.scan.Given as goal

abbrev pub invariant-loop-bucket : goal.invariant-loop-bucket
invariant-loop-bucket l = record {
  rows : (kept : Buckets) → ((b : ℕ) → b < 16 → FileRows l.kinds (bytes_in (files_of l.seals) b) (kept b)) → l.rows.items ≡ joined l.bucket kept;
  quiet : IsQuiet l.store;
}
