-- The blocks of the rows so far stand.
use Rattle.std.proofs.Common.{length, ◌-◌, ◌≡◌, ◌≤◌, false, IsNone}
use Rattle.hq_value.specs.Causes.{GoesOn}
use Rattle.hq_lane.specs.Packing.{GrewByFirst}
use Rattle.hq_lane.proofs.bucket_file.BucketFile.append_rows.Given as goal

abbrev pub invariant-loop-done : goal.invariant-loop-done
invariant-loop-done g l = record {
  within : l.done ≤ length l.rows;
  grown : GrewByFirst g.F.StoredFile.tells l.kinds l.done l.rows l.initial.self l.self;
  whole : l.self.torn ≡ false;
  missing : IsNone l.self.file → l.self ≡ l.initial.self;
  store : GoesOn g.S.Store.faults g.S.Store.given g.S.Store.sound l.initial.store l.store;
}

abbrev pub decreases-loop-done : goal.decreases-loop-done
decreases-loop-done g l = length l.rows - l.done
