use Rattle.std.proofs.Common.{◌∷◌, [], ap}
use Rattle.std.proofs.lemmas.Result.{err_from_is_err_and}
use Rattle.hq_reply.specs.Texts.{row_line}
use Rattle.hq_reply.proofs.Putting.{puts_then, puts_stop}
use Rattle.hq_reply.proofs.rows.put_row.Goals as goal

pub returns-in_err-put_values : goal.returns-in_err-put_values
returns-in_err-put_values g c =
    let failed = err_from_is_err_and c.from_residual.result c.from_residual.ensures.1 in
    puts_stop c.in_err-put_values.ensures failed.1 (10 ∷ []) (ap row_line c.as_slice.ensures)

pub returns : goal.returns
returns g c = puts_then c.in_ok-put_values.ensures c.put.ensures (ap row_line c.as_slice.ensures)
