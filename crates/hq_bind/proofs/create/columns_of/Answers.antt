use Rattle.hq_bind.proofs.create.columns_of.Goals as goal

pub returns : goal.returns
returns c = rw c.as_slice.ensures at c.copied.ensures
