use Rattle.std.proofs.Common.{◌≡◌, ◌≤◌, ◌&&◌, Bool, ℕ, List, length, sym, ◌∙◌, subst}
use Rattle.hq_history.specs.declared.noted.Noted.{Noted}
use Rattle.hq_detect.specs.declared.bench.Bench.{Bench}
use Rattle.hq_turns.specs.Counts.{Counts, counts_of}
use Rattle.hq_serve.proofs.Piecewise.{is-given, goes-on, answers-more}
use Rattle.hq_serve.proofs.Rising.{none-beyond}
use Rattle.hq_serve.proofs.pieces.answer_and_send.Goals as goal

pub returns-clause-waiting : goal.returns-clause-waiting
returns-clause-waiting g c =
    goes-on c.requires.waiting.0 (g.D.Desk.nodes c.args.desk.now) c.args.number g.S.File.StoredFile.tells g.S.Seal.SealCopy.tells _ _ c.args.session.now c.answer-reply.new.session _ _ c.args.statement c.answer-reply.ensures.seated.sound
    c.piece_of-piece.result c.args.kind c.args.text.now c.answer-reply.result
    (is-given c.piece_of-piece.result c.args.kind c.args.text.now c.piece_of-piece.ensures.kind c.piece_of-piece.ensures.text c.requires.piece)
    c.answer-reply.ensures.ended c.requires.waiting

pub returns-clause-answered : goal.returns-clause-answered
returns-clause-answered g c rows first pieces replies answered = (
  c.answer-reply.result,
  answers-more rows (g.D.Desk.nodes c.args.desk.now) c.args.number g.S.File.StoredFile.tells g.S.Seal.SealCopy.tells _ _ c.args.session.now c.answer-reply.new.session _ _ c.args.statement
      c.answer-reply.ensures.seated.sound first pieces replies c.piece_of-piece.result c.args.kind c.args.text.now c.answer-reply.result
      (is-given c.piece_of-piece.result c.args.kind c.args.text.now c.piece_of-piece.ensures.kind c.piece_of-piece.ensures.text c.requires.piece)
      (λ n h. none-beyond _ c.answer-reply.new.benches.items n (subst (λ l. l ≤ n) c.answer-reply.ensures.later.nodes h))
      (c.answer-reply.ensures.ended rows) answered,
  c.send.ensures.bytes,
  c.send.ensures.some,
)
