use Rattle.std.proofs.Common.{◌≡◌, map, take}
use Rattle.hq_bind.specs.Reading.{item_of}
use Rattle.hq_bind.proofs.reading.all_items.Given as goal

abbrev pub invariant-loop-column : goal.invariant-loop-column
invariant-loop-column l = l.items ≡ map item_of (take l.column-index l.columns)
