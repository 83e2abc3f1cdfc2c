use Rattle.hq_bind.proofs.targets.row_of.Goals as goal

pub returns : goal.returns
returns c = rw (c.as_slice.ensures, c.as_slice-2.ensures) at c.row_over.ensures
