use Rattle.hq_bind.proofs.reading.read_groups.Goals as goal

pub returns : goal.returns
returns c = rw (c.as_slice.ensures, c.as_slice-2.ensures) at c.group_places.ensures
