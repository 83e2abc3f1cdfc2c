use Rattle.std.proofs.lemmas.Result.{err_from_is_err_and}
use Rattle.hq_reply.specs.Texts.{row_line}
use Rattle.hq_reply.proofs.Putting.{puts_more, puts_broken}
use Rattle.hq_reply.proofs.rows.put_rows.Goals as goal

pub returns-in_err-put_row : goal.returns-in_err-put_row
returns-in_err-put_row g c =
    let failed = err_from_is_err_and c.from_residual.result c.from_residual.ensures.1 in
    puts_broken row_line c.args.rows.now c.loop-row.row-index c.row-item.result c.loop-row-test.true c.row-item.is c.loop-row.invariant c.in_err-put_row.ensures failed.1

pub loop-row-preserved : goal.loop-row-preserved
loop-row-preserved g c =
    puts_more row_line c.args.rows.now c.loop-row.row-index c.row-item.result c.loop-row-test.true c.row-item.is c.loop-row.invariant c.in_ok-put_row.ensures
