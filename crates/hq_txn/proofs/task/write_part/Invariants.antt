-- The files of the buckets so far are written, and those behind are as before.
use Rattle.std.proofs.Common.{◌≡◌, ◌<◌, ◌≤◌, ℕ, true}
use Rattle.hq_value.specs.Causes.{GoesOn}
use Rattle.hq_lane.specs.Lanes.{file_of, owns}
use Rattle.hq_txn.specs.Shares.{share_in}
use Rattle.hq_txn.specs.Parts.{HasSameHead}
use Rattle.hq_txn.specs.Writes.{IsWritten}
use Rattle.hq_txn.proofs.task.write_part.Given as goal

abbrev pub invariant-loop-bucket : goal.invariant-loop-bucket
invariant-loop-bucket g l = record {
  head : HasSameHead l.initial.part l.part;
  written : (b : ℕ) → b < l.bucket → owns l.initial.part b ≡ true → IsWritten g.F.StoredFile.tells l.kinds (share_in l.shares b) (file_of l.initial.part.files b) (file_of l.part.files b);
  rest : (b : ℕ) → l.bucket ≤ b → file_of l.part.files b ≡ file_of l.initial.part.files b;
  store : GoesOn g.S.Store.faults g.S.Store.given g.S.Store.sound l.initial.store l.store;
}
