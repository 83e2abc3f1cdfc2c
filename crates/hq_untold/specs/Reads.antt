-- A store that tells nothing, and what its reads give.
--     UntoldState                  what its reads give in place of what was written, and what it has counted
--     given_by reads at written    what a read of these bytes from `at` on gives
use Rattle.std.specs.Prelude.{ℕ, ◌-◌, List, length, replicate, nat_le, slice_set, if◌then◌else◌}
use Rattle.hq_untold.specs.declared.store.Reads.{Reads}
use Rattle.hq_untold.specs.declared.store.Reads.TheVariants as reads

-- what its reads give in place of what was written, and the counts of faults and of the bytes that reads gave
pub record UntoldState : Type 0 where
  pub reads : Reads
  pub faults : ℕ
  pub given : ℕ

-- what a read of these bytes from `at` on gives: them, as many zeros, or them with another byte at a place, where they
-- have that place
abbrev pub given_by : Reads → ℕ → List ℕ → List ℕ
given_by reads.Written at written = written
given_by reads.Zeros at written = replicate (length written) 0
given_by (reads.ByteAt place byte) at written = if nat_le at place then slice_set written (place - at) byte else written
