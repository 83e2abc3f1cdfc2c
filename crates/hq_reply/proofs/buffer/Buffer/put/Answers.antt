use Rattle.std.proofs.Common.{refl}
use Rattle.std.proofs.lemmas.Result.{err_from_is_err_and}
use Rattle.hq_reply.proofs.Putting.{puts_stop}
use Rattle.hq_reply.proofs.buffer.Buffer.put.Goals as goal

pub returns-in_err-flush : goal.returns-in_err-flush
returns-in_err-flush g c =
    let failed = err_from_is_err_and c.from_residual.result c.from_residual.ensures.1 in
    puts_stop c.in_err-flush.ensures.puts failed.1 c.args.bytes.now refl
