use Rattle.std.proofs.Common.{append-nil, refl}
use Rattle.std.proofs.lemmas.Result.{err_from_is_err_and}
use Rattle.hq_reply.specs.Texts.{reply_text}
use Rattle.hq_reply.proofs.Putting.{puts_then, written, written_in_part, never_fails, surely_ok}
use Rattle.hq_reply.proofs.write.write_reply.Goals as goal

pub returns-in_err-put_reply-clause-bytes : goal.returns-in_err-put_reply-clause-bytes
returns-in_err-put_reply-clause-bytes g c =
    let failed = err_from_is_err_and c.from_residual.result c.from_residual.ensures.1 in
    written_in_part c.new-buffer.ensures c.in_err-put_reply.ensures failed.1

pub returns-clause-bytes : goal.returns-clause-bytes
returns-clause-bytes g c =
    written c.new-buffer.ensures (puts_then c.in_ok-put_reply.ensures c.flush.ensures.puts (append-nil (reply_text c.args.reply.now))) c.flush.ensures.empty

pub returns-in_err-put_reply-clause-ok : goal.returns-in_err-put_reply-clause-ok
returns-in_err-put_reply-clause-ok g c = λ s below. absurd (never_fails c.in_err-put_reply.ensures s below)

pub returns-clause-ok : goal.returns-clause-ok
returns-clause-ok g c = λ s below. surely_ok c.flush.result (puts_then c.in_ok-put_reply.ensures c.flush.ensures.puts refl) s below
