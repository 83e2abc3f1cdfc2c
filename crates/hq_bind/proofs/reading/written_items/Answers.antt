use Rattle.hq_bind.proofs.reading.written_items.Goals as goal

pub returns : goal.returns
returns c = rw c.as_slice.ensures at c.written_out.ensures
