use Rattle.std.proofs.Common.{◌≡◌, ◌&&◌, ◌+◌, true, false, Bool, ℕ, List, [], ◌∷◌, ◌++◌, length, sym, ◌∙◌, ap, subst, arith, Ok, Err, Result, OnErr, IsSome}
use Rattle.std.specs.declared.option.Option.{Option}
use Rattle.hq_value.specs.declared.fault.Failed.{Failed}
use Rattle.hq_io.specs.declared.kind.Kind.{Kind}
use Rattle.hq_io.specs.Reading.{ahead, pieces_given, Cuts}
use Rattle.hq_io.specs.Told.{IfTold, WritesPrefix}
use Rattle.hq_reply.specs.declared.reply.Reply.{Reply}
use Rattle.hq_turns.specs.Counts.{Counts, counts_of}
use Rattle.hq_serve.specs.Inputs.{HasAnswered, text_of}
use Rattle.hq_serve.proofs.Reached.{live-by, no-end, one-given}
use Rattle.hq_serve.proofs.Stopping.{last-end, last-source, last-limit, last-sink, so-far-more}
use Rattle.hq_serve.proofs.serve.turn.Goals as goal

pub returns-in-Err-clause-so_far : goal.returns-in-Err-clause-so_far
returns-in-Err-clause-so_far g c = λ rows first whole given x.
    let live = live-by c.args.reader.now.ended (Err c.in-Err.field-0) c.in-Err.ensures.over (λ e. cc) in
    last-source rows _ _ _ _ _ _ first _ _ c.args.reader.now c.advance.new.self whole _ _ given _ x live c.in-Err.ensures.fault

pub returns-in-End-clause-so_far : goal.returns-in-End-clause-so_far
returns-in-End-clause-so_far g c = λ rows first whole given x.
    last-end rows _ _ _ _ _ _ first _ _ c.args.reader.now c.advance.new.self whole _ _ given _ x (c.in-Ok.ensures.ended c.in-End.is) c.advance.ensures.was_within.0 c.advance.ensures.within.1
    c.in-Ok.ensures.at_end
    (subst (λ (kind : Kind). IfTold (ahead c.args.reader.now (g.A.Source.left c.args.source.now)) (ahead c.advance.new.self (g.A.Source.left c.advance.new.source)) (Cuts kind c.args.reader.now c.advance.new.self))
    c.in-End.is (c.in-Ok.ensures.piece (λ e. absurd (let no = sym e ∙ c.in-End.is in cc))))

pub returns-in-Limit-clause-so_far : goal.returns-in-Limit-clause-so_far
returns-in-Limit-clause-so_far g c = λ rows first whole given x.
    let live = live-by c.args.reader.now.ended (Ok c.in-Ok.kind) c.in-Ok.ensures.over (no-end c.in-Ok.kind (λ e. absurd (cc))) in
    last-limit rows _ _ _ _ _ _ first _ _ c.args.reader.now c.advance.new.self whole _ _ given _ x live c.advance.ensures.was_within.0 c.advance.ensures.was_within.1 c.advance.ensures.told
    (c.in-Ok.ensures.at_end (λ ended. absurd (let no : true ≡ false = sym ended ∙ live in cc))) (c.in-Ok.ensures.limit c.in-Limit.is)

pub returns-in-Ok-answer_and_send-clause-so_far : goal.returns-in-Ok-answer_and_send-clause-so_far
returns-in-Ok-answer_and_send-clause-so_far g c = λ rows first whole given x.
    let live = live-by c.args.reader.now.ended (Ok c.in-Ok.kind) c.in-Ok.ensures.over (no-end c.in-Ok.kind c.in_default.not-End) in
    let one = one-given c.in-Ok.kind c.advance.new.self.text c.in_default.not-End c.in_default.not-Limit in
    so-far-more rows _ _ _ _ _ _ first _ _ c.args.reader.now c.advance.new.self whole _ _ given _ x c.in-Ok.kind _ c.answer_and_send.new.session _ _ c.answer_and_send.result one live
    (c.in-Ok.ensures.pieces c.in_default.not-Limit) (c.in-Ok.ensures.piece c.in_default.not-Limit)
    _ c.text.ensures (c.answer_and_send.ensures.answered rows first x.ios x.replies x.answered)
    c.in-Ok-answer_and_send.field-0 c.in-Ok-answer_and_send.is c.in-Ok.ensures.at_end

pub returns-in-Err-answer_and_send-clause-so_far : goal.returns-in-Err-answer_and_send-clause-so_far
returns-in-Err-answer_and_send-clause-so_far g c = λ rows first whole given x.
    let live = live-by c.args.reader.now.ended (Ok c.in-Ok.kind) c.in-Ok.ensures.over (no-end c.in-Ok.kind c.in_default.not-End) in
    let one = one-given c.in-Ok.kind c.advance.new.self.text c.in_default.not-End c.in_default.not-Limit in
    last-sink rows _ _ _ _ _ _ first _ _ c.args.reader.now c.advance.new.self whole _ _ given _ x c.in-Ok.kind _ c.answer_and_send.new.session _ _ c.answer_and_send.result one live
    (c.in-Ok.ensures.pieces c.in_default.not-Limit) (c.in-Ok.ensures.piece c.in_default.not-Limit)
    _ c.text.ensures (c.answer_and_send.ensures.answered rows first x.ios x.replies x.answered)
    c.in-Err-answer_and_send.field-0 c.in-Err-answer_and_send.is

pub returns-in-Ok-answer_and_send-clause-pieces : goal.returns-in-Ok-answer_and_send-clause-pieces
returns-in-Ok-answer_and_send-clause-pieces g c =
    let one = one-given c.in-Ok.kind c.advance.new.self.text c.in_default.not-End c.in_default.not-Limit in
    (omega (arith, c.in-Ok.ensures.pieces c.in_default.not-Limit, one), c.advance.ensures.within.0)

pub returns-in-Ok-answer_and_send-clause-count : goal.returns-in-Ok-answer_and_send-clause-count
returns-in-Ok-answer_and_send-clause-count g c =
    let one = one-given c.in-Ok.kind c.advance.new.self.text c.in_default.not-End c.in_default.not-Limit in
    omega (arith, c.requires.count, c.in-Ok.ensures.pieces c.in_default.not-Limit, one)
