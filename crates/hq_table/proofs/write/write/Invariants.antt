use Rattle.std.proofs.Common.{◌≡◌, ◌<◌, ◌≤◌, ℕ}
use Rattle.hq_lane.specs.Lanes.{file_of}
use Rattle.hq_table.specs.Home.{IsQuiet, IsWritten, HasSameHead, rows_at}
use Rattle.hq_table.proofs.write.write.Given as goal

abbrev pub invariant-loop-bucket : goal.invariant-loop-bucket
invariant-loop-bucket l = record {
  head : HasSameHead l.fn.part l.part;
  written : (b : ℕ) → b < l.bucket → IsWritten l.kinds (rows_at l.buckets b) (file_of l.fn.part.files b) (file_of l.part.files b);
  ahead : (b : ℕ) → l.bucket ≤ b → file_of l.part.files b ≡ file_of l.fn.part.files b;
  quiet : IsQuiet l.store;
}
