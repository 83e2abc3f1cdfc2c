use Rattle.std.proofs.Common.{refl}
use Rattle.hq_bind.proofs.select.read_over.Goals as goal

pub returns : goal.returns
returns c = record {
  columns = refl;
  written = refl;
  groups = refl;
  of_items = c.in_ok-of_items.ensures;
  faults = rw c.in_ok-of_items.ensures at c.in_ok-faults.ensures;
}
