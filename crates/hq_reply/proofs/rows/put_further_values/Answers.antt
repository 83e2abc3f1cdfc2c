use Rattle.std.proofs.lemmas.Result.{err_from_is_err_and}
use Rattle.hq_reply.specs.Texts.{behind_bar}
use Rattle.hq_reply.proofs.Putting.{puts_more, puts_broken}
use Rattle.hq_reply.proofs.rows.put_further_values.Goals as goal

pub returns-in_err-put_behind_bar : goal.returns-in_err-put_behind_bar
returns-in_err-put_behind_bar g c =
    let failed = err_from_is_err_and c.from_residual.result c.from_residual.ensures.1 in
    puts_broken behind_bar c.args.values.now c.loop-value.value-index c.value-item.result c.loop-value-test.true c.value-item.is c.loop-value.invariant c.in_err-put_behind_bar.ensures failed.1

pub loop-value-preserved : goal.loop-value-preserved
loop-value-preserved g c =
    puts_more behind_bar c.args.values.now c.loop-value.value-index c.value-item.result c.loop-value-test.true c.value-item.is c.loop-value.invariant c.in_ok-put_behind_bar.ensures
