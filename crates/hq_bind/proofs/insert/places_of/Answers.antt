use Rattle.hq_bind.proofs.insert.places_of.Goals as goal

pub returns : goal.returns
returns c = rw (c.as_slice.ensures, c.columns.ensures.columns, c.as_slice-2.ensures) at c.places.ensures
