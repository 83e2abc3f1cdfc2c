use Rattle.hq_ops.proofs.Grouped.{partial-rows-column, partial-count, partial-sum, partial-least, partial-greatest}
use Rattle.hq_ops.proofs.partial.partial_column.Goals as goal

pub returns-in-CountAll : goal.returns-in-CountAll
returns-in-CountAll c = rw c.in-CountAll.is partial-rows-column

pub returns-in-Count : goal.returns-in-Count
returns-in-Count c = rw c.in-Count.is (partial-count _)

pub returns-in-Sum : goal.returns-in-Sum
returns-in-Sum c = rw c.in-Sum.is (partial-sum _)

pub returns-in-Min : goal.returns-in-Min
returns-in-Min c = rw c.in-Min.is (partial-least _)

pub returns-in-Max : goal.returns-in-Max
returns-in-Max c = rw c.in-Max.is (partial-greatest _)
