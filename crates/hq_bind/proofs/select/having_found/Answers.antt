use Rattle.hq_bind.proofs.select.having_found.Goals as goal

pub returns : goal.returns
returns c = rw (c.as_slice.ensures, c.as_slice-2.ensures) at c.having_findings.ensures
