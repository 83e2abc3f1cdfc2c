use Rattle.std.proofs.Common.{◌∙◌, ◌&&◌, refl, sym}
use Rattle.hq_transcript.specs.Binds.{binds}
use Rattle.hq_turns.proofs.Answering.{rollback-in-idle, rolls-back-open, rolls-back-failed}
use Rattle.hq_turns.proofs.Counting.{later-same}
use Rattle.hq_session.proofs.session.Session.rollback.Goals as goal

pub returns-in-Idle-clause-carries : goal.returns-in-Idle-clause-carries
returns-in-Idle-clause-carries g c now b =
    c.refuse.ensures.carries now _
    (rollback-in-idle binds (g.F.StoredFile.tells && g.Z.SealCopy.tells) now c.args.self.now.txn _ b (sym c.state.ensures ∙ c.in-Idle.is)) refl

pub returns-in-Idle-clause-later : goal.returns-in-Idle-clause-later
returns-in-Idle-clause-later g c = later-same _

pub returns-in-Open-clause-carries : goal.returns-in-Open-clause-carries
returns-in-Open-clause-carries g c now b =
    c.finish.ensures.carries now
    (rolls-back-open binds (g.F.StoredFile.tells && g.Z.SealCopy.tells) now c.args.self.now.txn _ b (sym c.state.ensures ∙ c.in-Open.is))

pub returns-in-Failed-clause-carries : goal.returns-in-Failed-clause-carries
returns-in-Failed-clause-carries g c now b =
    c.finish-in-Failed.ensures.carries now
    (rolls-back-failed binds (g.F.StoredFile.tells && g.Z.SealCopy.tells) now c.args.self.now.txn _ b (sym c.state.ensures ∙ c.in-Failed.is))
