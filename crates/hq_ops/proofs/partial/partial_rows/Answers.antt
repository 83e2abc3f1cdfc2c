use Rattle.hq_ops.proofs.partial.partial_rows.Goals as goal

pub returns-clause-rows : goal.returns-clause-rows
returns-clause-rows c = c.of.ensures.rows _ (rw (c.as_slice.ensures, c.as_slice-2.ensures) at c.partial.ensures.rows)

pub returns-clause-numeric : goal.returns-clause-numeric
returns-clause-numeric c = c.of.ensures.numeric _ (rw c.as_slice-2.ensures at c.partial.ensures.numeric)
