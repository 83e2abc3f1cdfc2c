use Rattle.std.proofs.Common.{◌≡◌, ◌++◌, take}
use Rattle.std.specs.Prelude.{flat_map}
use Rattle.std.specs.List.{AllByRecursion}
use Rattle.hq_planwire.proofs.put.put_items.Given as goal

abbrev pub invariant-loop-item : goal.invariant-loop-item
invariant-loop-item g l = record {
  appended : l.out.items ≡ l.fn.out.items ++ flat_map g.T.Item.spelling (take l.item-index l.items);
  has_room : AllByRecursion g.T.Item.HasRoom (take l.item-index l.items);
}
