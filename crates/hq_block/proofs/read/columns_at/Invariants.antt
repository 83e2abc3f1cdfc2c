use Rattle.std.proofs.Common.{◌≡◌}
use Rattle.hq_block.specs.Reading.{low_number, columns_at, with_front}
use Rattle.hq_block.proofs.Columns.{columns_from}
use Rattle.hq_block.proofs.read.columns_at.Given as goal

abbrev pub invariant-loop-i : goal.invariant-loop-i
invariant-loop-i l = with_front l.row (columns_from l.kinds l.i (low_number l.nulls) l.rest) ≡ columns_at l.kinds (low_number l.nulls) l.values
