use Rattle.std.proofs.Common.{◌&&◌, refl, subst}
use Rattle.hq_io.specs.declared.piece.Piece.{Piece}
use Rattle.hq_transcript.specs.Binds.{binds}
use Rattle.hq_turns.specs.Counts.{counts_of}
use Rattle.hq_turns.proofs.Answering.{too-long, no-statement}
use Rattle.hq_turns.proofs.Counting.{later-same}
use Rattle.hq_session.specs.Waits.{Opens}
use Rattle.hq_session.proofs.session.Session.piece.Goals as goal

pub returns-in-Statement-clause-carries : goal.returns-in-Statement-clause-carries
returns-in-Statement-clause-carries g c now b =
    c.text.ensures.carries now (subst (λ (p : Piece). Opens (g.F.StoredFile.tells && g.Z.SealCopy.tells) now p c.args.self.now.txn (counts_of g.S.Store.faults g.H.Host.checks g.H.Host.faults g.L.Link.state c.args.benches.now.items)) c.in-Statement.is b)

pub returns-in-TooLong-clause-carries : goal.returns-in-TooLong-clause-carries
returns-in-TooLong-clause-carries g c now b =
    c.refuse.ensures.carries now _
    (too-long binds (g.F.StoredFile.tells && g.Z.SealCopy.tells) now c.args.self.now.txn _
    (subst (λ (p : Piece). Opens (g.F.StoredFile.tells && g.Z.SealCopy.tells) now p c.args.self.now.txn (counts_of g.S.Store.faults g.H.Host.checks g.H.Host.faults g.L.Link.state c.args.benches.now.items)) c.in-TooLong.is b)) refl

pub returns-in-TooLong-clause-later : goal.returns-in-TooLong-clause-later
returns-in-TooLong-clause-later g c = later-same _

pub returns-in-Unended-clause-carries : goal.returns-in-Unended-clause-carries
returns-in-Unended-clause-carries g c now b =
    c.refuse-in-Unended.ensures.carries now _
    (no-statement binds (g.F.StoredFile.tells && g.Z.SealCopy.tells) now c.args.self.now.txn _
    (subst (λ (p : Piece). Opens (g.F.StoredFile.tells && g.Z.SealCopy.tells) now p c.args.self.now.txn (counts_of g.S.Store.faults g.H.Host.checks g.H.Host.faults g.L.Link.state c.args.benches.now.items)) c.in-Unended.is b)) refl

pub returns-in-Unended-clause-later : goal.returns-in-Unended-clause-later
returns-in-Unended-clause-later g c = later-same _

pub returns-in-End-clause-carries : goal.returns-in-End-clause-carries
returns-in-End-clause-carries g c now b =
    c.end.ensures.carries now (subst (λ (p : Piece). Opens (g.F.StoredFile.tells && g.Z.SealCopy.tells) now p c.args.self.now.txn (counts_of g.S.Store.faults g.H.Host.checks g.H.Host.faults g.L.Link.state c.args.benches.now.items)) c.in-End.is b)

pub returns-in-Limit-clause-carries : goal.returns-in-Limit-clause-carries
returns-in-Limit-clause-carries g c now b =
    c.end-in-Limit.ensures.carries now (subst (λ (p : Piece). Opens (g.F.StoredFile.tells && g.Z.SealCopy.tells) now p c.args.self.now.txn (counts_of g.S.Store.faults g.H.Host.checks g.H.Host.faults g.L.Link.state c.args.benches.now.items)) c.in-Limit.is b)
