use Rattle.std.proofs.Common.{◌∙◌, ap, drop, arith}
use Rattle.hq_block.proofs.RowLists.{behind_past}
use Rattle.hq_block.proofs.row_list.RowList.behind.Goals as goal

pub returns-else-count-most : goal.returns-else-count-most
returns-else-count-most c = c.chosen.ensures ∙ behind_past (λ row. row.now) c.self.inside.whole.now c.self.inside.chosen.now c.args.count (omega (arith, c.if-count-most.false)) ∙ ap (drop c.args.count) c.self.view_is
