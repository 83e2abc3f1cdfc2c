use Rattle.hq_turns.specs.Counts.{Counts, counts_of}
use Rattle.hq_serve.proofs.Starting.{no-lanes}
use Rattle.hq_serve.proofs.pieces.end.Goals as goal

pub returns-clause-ended : goal.returns-clause-ended
returns-clause-ended g c rows spot is w = (c.answer-none.result, c.answer-none.ensures.ended rows spot is w)

pub returns-clause-home : goal.returns-clause-home
returns-clause-home g c =
    no-lanes (g.D.Desk.nodes c.args.desk.now) c.args.number g.S.File.StoredFile.tells g.S.Seal.SealCopy.tells (g.D.Desk.shown c.args.desk.now) (g.D.Desk.shown c.answer-none.new.desk)
    c.args.session.now c.answer-none.new.session
    (counts_of g.S.Store.faults g.H.Host.checks g.H.Host.faults g.L.Link.state c.args.benches.now.items)
    (counts_of g.S.Store.faults g.H.Host.checks g.H.Host.faults g.L.Link.state c.answer-none.new.benches.items)
    c.args.statement c.answer-none.result c.answer-none.ensures.seated.sound c.answer-none.ensures.ended c.requires.waiting
