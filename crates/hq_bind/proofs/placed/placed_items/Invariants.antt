use Rattle.std.proofs.Common.{◌≡◌, map, take}
use Rattle.hq_bind.specs.Bound.{placed_item}
use Rattle.hq_bind.proofs.placed.placed_items.Given as goal

abbrev pub invariant-loop-item : goal.invariant-loop-item
invariant-loop-item l = l.new ≡ map (placed_item l.columns) (take l.item-index l.items)
