use Rattle.std.proofs.Common.{◌≡◌, take, false}
use Rattle.hq_meaning.specs.Operators.{projected, project_faults}
use Rattle.hq_ops.proofs.project.project.Given as goal

abbrev pub invariant-loop-row : goal.invariant-loop-row
invariant-loop-row l = record {
  found : l.found.items ≡ projected l.items (take l.row-index l.rows);
  none : project_faults l.items (take l.row-index l.rows) ≡ false;
}
