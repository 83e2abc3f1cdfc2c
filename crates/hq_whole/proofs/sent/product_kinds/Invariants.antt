use Rattle.std.proofs.Common.{◌≡◌, take, flat_map}
use Rattle.hq_whole.specs.Tables.{kinds_by}
use Rattle.hq_whole.proofs.sent.product_kinds.Given as goal

abbrev pub invariant-loop-table : goal.invariant-loop-table
invariant-loop-table l = l.all.items ≡ flat_map (kinds_by l.defs) (take l.table-index l.sources)
