use Rattle.std.proofs.Common.{◌∙◌}
use Rattle.hq_bind.proofs.Refused.{tuples_same}
use Rattle.hq_bind.proofs.insert.tuples_refusal.Goals as goal

pub returns : goal.returns
returns c = tuples_same c.as_slice-3.result.now c.args.table.now.1.columns c.args.names.now c.as_slice.result.now c.args.tuples.now c.tuple_faults-found.result c.with_list.result c.first.result
    (c.as_slice-3.ensures ∙ c.columns-columns.ensures.columns) (c.as_slice.ensures ∙ c.requires) (rw c.as_slice-2.ensures at c.tuple_faults-found.ensures) (rw c.as_slice-4.ensures at c.with_list.ensures) c.first.ensures
