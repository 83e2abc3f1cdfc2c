use Rattle.hq_bind.proofs.select.faults_of.Goals as goal

pub returns : goal.returns
returns c = rw (c.as_slice.ensures, c.items_read.ensures, c.as_slice-2.ensures, c.as_slice-3.ensures, c.as_slice-4.ensures, c.as_slice-5.ensures, c.in_ok-of_conds.ensures, c.in_ok-of_having.ensures) at c.query_faults.ensures
