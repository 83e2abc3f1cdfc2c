use Rattle.std.proofs.Common.{◌≡◌, true, false, sym, ◌∙◌, ap, subst, arith, length, Ok, Err}
use Rattle.hq_value.specs.declared.fault.Failed.{Failed}
use Rattle.hq_io.specs.Reading.{pieces_given}
use Rattle.hq_server.specs.Course.{AnswersInto}
use Rattle.hq_server.proofs.Serving.{serve-more, one-piece, Ended-source, Ended-limit, Ended-sink, live-by, writes-all, no-end}
use Rattle.hq_server.proofs.session.turn.Goals as goal

pub returns-in-Err-clause-served : goal.returns-in-Err-clause-served
returns-in-Err-clause-served g c = λ whole first s.
    let live = live-by c.args.reader.now.ended (Err c.in-Err.field-0) c.in-Err.ensures.over (λ e. cc) in
    Ended-source whole _ _ first _ c.args.database.now c.args.reader.now c.advance.new.self live s c.in-Err.ensures.fault

pub returns-in-Limit-clause-served : goal.returns-in-Limit-clause-served
returns-in-Limit-clause-served g c = λ whole first s.
    let live = live-by c.args.reader.now.ended (Ok c.in-Ok.kind) c.in-Ok.ensures.over (no-end c.in-Ok.kind (λ e. absurd (cc))) in
    Ended-limit whole _ _ first _ c.args.database.now c.args.reader.now c.advance.new.self live c.advance.ensures.was_within.0 c.advance.ensures.was_within.1 c.advance.ensures.told (c.in-Ok.ensures.at_end (λ ended. absurd (let no : true ≡ false = sym ended ∙ live in cc))) s (c.in-Ok.ensures.limit c.in-Limit.is)

pub returns-in-Ok-answer-clause-served : goal.returns-in-Ok-answer-clause-served
returns-in-Ok-answer-clause-served g c = λ whole first s.
    let live = live-by c.args.reader.now.ended (Ok c.in-Ok.kind) c.in-Ok.ensures.over (no-end c.in-Ok.kind c.in_default.not-End) in
    let told = subst (λ text. AnswersInto {E = Failed} (Ok c.in-Ok-answer.field-0) (pieces_given c.in-Ok.kind text) c.args.database.now c.answer.new.database (g.B.Sink.given c.args.sink.now) (g.B.Sink.given c.answer.new.sink)) c.text.ensures c.in-Ok-answer.ensures.answered in
    serve-more whole _ _ first _ _ c.args.database.now c.answer.new.database c.in-Ok.kind c.args.reader.now c.advance.new.self told.0 c.in_default.not-End c.in_default.not-Limit live (c.in-Ok.ensures.pieces c.in_default.not-Limit) told.1 (writes-all _ _ _ _ told.2) s (c.in-Ok.ensures.piece c.in_default.not-Limit)

pub returns-in-Ok-answer-clause-pieces : goal.returns-in-Ok-answer-clause-pieces
returns-in-Ok-answer-clause-pieces g c =
    let one = one-piece c.in-Ok.kind c.advance.new.self.text c.in_default.not-End c.in_default.not-Limit in
    (omega (arith, c.in-Ok.ensures.pieces c.in_default.not-Limit, ap length one.1), c.advance.ensures.within.0)

pub returns-in-Err-answer-clause-served : goal.returns-in-Err-answer-clause-served
returns-in-Err-answer-clause-served g c = λ whole first s.
    let told = subst (λ text. AnswersInto {E = Failed} (Err c.in-Err-answer.field-0) (pieces_given c.in-Ok.kind text) c.args.database.now c.answer.new.database (g.B.Sink.given c.args.sink.now) (g.B.Sink.given c.answer.new.sink)) c.text.ensures c.in-Err-answer.ensures.answered in
    Ended-sink whole _ _ _ first _ _ c.args.database.now c.answer.new.database c.in-Ok.kind c.args.reader.now c.advance.new.self told.0 (Err c.in-Err-answer.field-0) c.in_default.not-End c.in_default.not-Limit told.1 told.2 s (c.in-Ok.ensures.piece c.in_default.not-Limit)
