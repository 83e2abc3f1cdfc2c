use Rattle.std.proofs.Common.{◌∙◌}
use Rattle.hq_bind.proofs.Refused.{rows_same}
use Rattle.hq_bind.proofs.insert.rows_refusal.Goals as goal

pub returns : goal.returns
returns c = rows_same c.args.defs.now c.args.table.now c.args.names.now c.args.select.now c.args.reading.now c.as_slice-3.result.now c.as_slice.result.now c.output_faults-found.result c.with_list.result c.first.result
    c.requires.read (c.as_slice-3.ensures ∙ c.columns-columns.ensures.columns) (c.as_slice.ensures ∙ c.requires.kinds) (rw c.as_slice-2.ensures at c.output_faults-found.ensures) (rw c.as_slice-4.ensures at c.with_list.ensures) c.first.ensures
