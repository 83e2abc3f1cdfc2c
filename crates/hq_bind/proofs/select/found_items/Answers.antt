use Rattle.hq_bind.proofs.select.found_items.Goals as goal

pub returns : goal.returns
returns c = rw (c.as_slice-2.ensures, c.as_slice-3.ensures, c.items_read-items.ensures, c.as_slice.ensures) at c.item_findings.ensures
