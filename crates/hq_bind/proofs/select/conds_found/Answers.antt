use Rattle.hq_bind.proofs.select.conds_found.Goals as goal

pub returns : goal.returns
returns c = rw (c.as_slice.ensures, c.as_slice-2.ensures, c.as_slice-3.ensures) at c.all_findings.ensures
