use Rattle.std.proofs.Common.{refl}
use Rattle.std.proofs.lemmas.Result.{err_from_is_err_and}
use Rattle.hq_reply.proofs.Putting.{puts_stop, puts_then, puts_past}
use Rattle.hq_reply.proofs.buffer.Buffer.put_run.Goals as goal

pub returns-in_err-flush : goal.returns-in_err-flush
returns-in_err-flush g c =
    let failed = err_from_is_err_and c.from_residual.result c.from_residual.ensures.1 in
    puts_stop c.in_err-flush.ensures.puts failed.1 c.args.bytes.now refl

pub returns : goal.returns
returns g c =
    let wrote = c.write_all.ensures in
    puts_then c.in_ok-flush.ensures.puts (puts_past c.write_all.result c.in_ok-flush.ensures.empty c.in_ok-flush.ensures.empty wrote.bytes wrote.label wrote.cause wrote.sound) refl
