use Rattle.std.proofs.Common.{◌∙◌, ◌&&◌, refl, sym}
use Rattle.hq_transcript.specs.Binds.{binds}
use Rattle.hq_turns.proofs.Working.{work-failed, work-short}
use Rattle.hq_session.proofs.session.Session.work.Goals as goal

pub returns-in-Failed-clause-carries : goal.returns-in-Failed-clause-carries
returns-in-Failed-clause-carries g c now k s work b =
    c.refuse.ensures.carries now k
    (work-failed binds (g.F.StoredFile.tells && g.Z.SealCopy.tells) now s c.args.self.now.txn k work b (sym c.state.ensures ∙ c.in-Failed.is)) refl

pub returns-in_default-clause-carries : goal.returns-in_default-clause-carries
returns-in_default-clause-carries g c now k s work b =
    c.refuse-in_default.ensures.carries now k (work-short binds (g.F.StoredFile.tells && g.Z.SealCopy.tells) now s c.args.self.now.txn k work b) refl
