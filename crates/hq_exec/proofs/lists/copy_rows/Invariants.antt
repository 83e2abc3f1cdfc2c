use Rattle.std.proofs.Common.{◌≡◌, take}
use Rattle.hq_exec.proofs.lists.copy_rows.Given as goal

abbrev pub invariant-loop-row : goal.invariant-loop-row
invariant-loop-row l = l.copy.items ≡ take l.row-index l.rows
