use Rattle.hq_bind.proofs.query.query_grouped.Goals as goal

pub returns : goal.returns
returns c = rw c.as_slice.ensures at c.is_grouped.ensures
