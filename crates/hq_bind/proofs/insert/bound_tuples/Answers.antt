use Rattle.hq_bind.proofs.Refused.{rows_bound}
use Rattle.hq_bind.proofs.insert.bound_tuples.Goals as goal

pub returns : goal.returns
returns c = rows_bound c.args.table.now c.args.names.now c.args.tuples.now c.in_ok-places.places c.in_ok-rows.rows.items c.in_ok-places.ensures (rw c.as_slice.ensures at c.in_ok-rows.ensures)
