use Rattle.std.proofs.Common.{sym, ◌∙◌, append-nil, take-append-drop, take, drop}
use Rattle.hq_reply.proofs.buffer.Buffer.flush.Goals as goal

pub returns-in-Err-clause-puts : goal.returns-in-Err-clause-puts
returns-in-Err-clause-puts g c =
    let wrote = c.in-Err.ensures.bytes in
    record {
      sent = take wrote.count c.as_slice.result.now;
      rest = drop wrote.count c.as_slice.result.now;
      told = wrote.appended;
      whole = take-append-drop wrote.count c.as_slice.result.now ∙ c.as_slice.ensures ∙ sym (append-nil c.args.self.now);
      kept = tt;
      labelled = c.in-Err.ensures.label;
      cause = c.in-Err.ensures.cause;
      promise = c.in-Err.ensures.sound;
    }
