use Rattle.hq_schema.proofs.InOrder.{numbered_more}
use Rattle.hq_schema.proofs.numbers.numbered.Goals as goal

pub loop-table-preserved : goal.loop-table-preserved
loop-table-preserved c =
    numbered_more c.args.tables.now c.loop-table.table-index c.table-item.result c.loop-table.defs.items c.add.new.defs.items c.loop-table-test.true c.table-item.is c.loop-table.invariant
    c.in_ok-add.ensures
