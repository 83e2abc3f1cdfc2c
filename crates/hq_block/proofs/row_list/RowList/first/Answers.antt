use Rattle.std.proofs.Common.{◌∙◌, ap, take, arith}
use Rattle.hq_block.proofs.RowLists.{first_past}
use Rattle.hq_block.proofs.row_list.RowList.first.Goals as goal

pub returns-else-count-most : goal.returns-else-count-most
returns-else-count-most c = first_past (λ row. row.now) c.self.inside.whole.now c.self.inside.chosen.now c.args.count (omega (arith, c.if-count-most.false)) ∙ ap (take c.args.count) c.self.view_is
