-- The rows so far.
use Rattle.std.proofs.Common.{◌++◌, take}
use Rattle.std.specs.List.{AllByRecursion}
use Rattle.hq_block.specs.Row.{IsStorable}
use Rattle.hq_dispatch.specs.Parcels.{HasParcels}
use Rattle.hq_dispatch.proofs.parcels.Parcels.add_all.Given as goal

abbrev pub invariant-loop-row : goal.invariant-loop-row
invariant-loop-row l = record {
  added : (others : _) → HasParcels l.out l.owner others l.initial.self.lists.items → HasParcels l.out l.owner (others ++ take l.row-index l.rows) l.self.lists.items;
  storable : AllByRecursion (IsStorable l.kinds) (take l.row-index l.rows);
}
