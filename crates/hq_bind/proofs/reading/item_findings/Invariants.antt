use Rattle.std.proofs.Common.{◌≡◌, take}
use Rattle.hq_bind.specs.Reading.{item_findings}
use Rattle.hq_bind.proofs.reading.item_findings.Given as goal

abbrev pub invariant-loop-item : goal.invariant-loop-item
invariant-loop-item l = l.found ≡ item_findings l.columns l.groups (take l.item-index l.items)
