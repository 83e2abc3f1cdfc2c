-- Rows that are read and pushed.
--     Fed told kinds all left total unread store .. line ..   rows were read and pushed: of all the rows those are left, of
--                                                             the total of bytes so many are not read
use Rattle.std.specs.Prelude.{◌≡◌, ℕ, ◌+◌, ◌<◌, ◌^◌, List, ◌++◌}
use Rattle.hq_value.specs.declared.value.Value.{Value}
use Rattle.hq_value.specs.declared.kind.Kind.{Kind}
use Rattle.hq_value.specs.Causes.{GoesOnGiving}
use Rattle.hq_fits.specs.Supplied.{AreFit}
use Rattle.hq_meaning.specs.Rows.{Row}
use Rattle.hq_exec.specs.Lines.{LineState, CanTake, Takes}

-- rows were read and pushed, and what was read is what the store gave
pub record Fed {S : Type 0} (faults given : S → ℕ) (sound : S → Type 0) (told : Type 0) (kinds : List Kind) (all left : List Row) (total unread : ℕ) (old new : S) (before after : LineState) : Type 0 where
  pub rows : List Row
  pub gave : ℕ
  pub fit : AreFit kinds rows
  pub rows_are : told → all ≡ rows ++ left
  pub reads_are : told → total ≡ gave + unread
  pub goes_on : given old < 2 ^ 64 → GoesOnGiving faults given sound gave old new
  pub takes : Takes kinds rows before after
  pub can_take : CanTake kinds after
