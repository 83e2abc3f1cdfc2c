use Rattle.hq_bind.proofs.query.numbers_of.Goals as goal

pub returns : goal.returns
returns c = rw c.as_slice.ensures at c.numbers.ensures
