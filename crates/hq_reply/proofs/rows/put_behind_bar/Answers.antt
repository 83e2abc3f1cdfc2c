use Rattle.std.proofs.Common.{refl}
use Rattle.std.proofs.lemmas.Result.{err_from_is_err_and}
use Rattle.hq_reply.specs.Texts.{value_text}
use Rattle.hq_reply.proofs.Putting.{puts_then, puts_stop}
use Rattle.hq_reply.proofs.rows.put_behind_bar.Goals as goal

pub returns-in_err-put : goal.returns-in_err-put
returns-in_err-put g c =
    let failed = err_from_is_err_and c.from_residual.result c.from_residual.ensures.1 in
    puts_stop c.in_err-put.ensures failed.1 (value_text c.args.value.now) refl

pub returns : goal.returns
returns g c = puts_then c.in_ok-put.ensures c.put_value.ensures refl
