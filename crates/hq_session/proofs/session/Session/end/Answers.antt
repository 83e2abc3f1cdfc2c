use Rattle.std.proofs.Common.{◌&&◌}
use Rattle.hq_transcript.specs.Binds.{binds}
use Rattle.hq_turns.proofs.Answering.{closes}
use Rattle.hq_session.proofs.session.Session.end.Goals as goal

pub returns-clause-carries : goal.returns-clause-carries
returns-clause-carries g c now b =
    c.finish.ensures.carries now (closes binds (g.F.StoredFile.tells && g.Z.SealCopy.tells) now c.args.self.now.txn _ b)
