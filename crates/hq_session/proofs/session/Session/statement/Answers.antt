use Rattle.std.proofs.Common.{lit<, ◌&&◌, subst, IsTrue}
use Rattle.hq_sql.specs.Fits.{fits}
use Rattle.hq_sql.specs.declared.tree.Statement.{Statement}
use Rattle.hq_transcript.specs.Pieces.{Reads}
use Rattle.hq_turns.specs.Counts.{counts_of}
use Rattle.hq_turns.specs.Ends.{Begins}
use Rattle.hq_turns.proofs.Counting.{later-same}
use Rattle.hq_sql.specs.declared.tree.Statement.TheVariants as statement
use Rattle.hq_session.proofs.session.Session.statement.Goals as goal

pub create-requires : goal.create-requires
create-requires g c = (lit< tt, (subst (λ (s : Statement). IsTrue (fits s)) c.in-Create.is c.requires.grammar, c.requires.sound))

pub returns-in-Create-clause-carries : goal.returns-in-Create-clause-carries
returns-in-Create-clause-carries g c now b =
    c.create.ensures.carries now _ (subst (λ (s : Statement). Begins (g.F.StoredFile.tells && g.Z.SealCopy.tells) now (Reads s) c.args.self.now.txn (counts_of g.S.Store.faults g.H.Host.checks g.H.Host.faults g.L.Link.state c.args.benches.now.items)) c.in-Create.is b)

pub returns-in-Create-clause-later : goal.returns-in-Create-clause-later
returns-in-Create-clause-later g c = later-same _

pub returns-in-Alter-clause-carries : goal.returns-in-Alter-clause-carries
returns-in-Alter-clause-carries g c now b =
    c.alter.ensures.carries now _ (subst (λ (s : Statement). Begins (g.F.StoredFile.tells && g.Z.SealCopy.tells) now (Reads s) c.args.self.now.txn (counts_of g.S.Store.faults g.H.Host.checks g.H.Host.faults g.L.Link.state c.args.benches.now.items)) c.in-Alter.is b)

pub returns-in-Alter-clause-later : goal.returns-in-Alter-clause-later
returns-in-Alter-clause-later g c = later-same _

pub returns-in-Begin-clause-carries : goal.returns-in-Begin-clause-carries
returns-in-Begin-clause-carries g c now b =
    c.begin.ensures.carries now _ (subst (λ (s : Statement). Begins (g.F.StoredFile.tells && g.Z.SealCopy.tells) now (Reads s) c.args.self.now.txn (counts_of g.S.Store.faults g.H.Host.checks g.H.Host.faults g.L.Link.state c.args.benches.now.items)) c.in-Begin.is b)

pub returns-in-Begin-clause-later : goal.returns-in-Begin-clause-later
returns-in-Begin-clause-later g c = later-same _

pub returns-in-Commit-clause-carries : goal.returns-in-Commit-clause-carries
returns-in-Commit-clause-carries g c now b =
    c.commit.ensures.carries now (subst (λ (s : Statement). Begins (g.F.StoredFile.tells && g.Z.SealCopy.tells) now (Reads s) c.args.self.now.txn (counts_of g.S.Store.faults g.H.Host.checks g.H.Host.faults g.L.Link.state c.args.benches.now.items)) c.in-Commit.is b)

pub returns-in-Rollback-clause-carries : goal.returns-in-Rollback-clause-carries
returns-in-Rollback-clause-carries g c now b =
    c.rollback.ensures.carries now (subst (λ (s : Statement). Begins (g.F.StoredFile.tells && g.Z.SealCopy.tells) now (Reads s) c.args.self.now.txn (counts_of g.S.Store.faults g.H.Host.checks g.H.Host.faults g.L.Link.state c.args.benches.now.items)) c.in-Rollback.is b)

pub returns-in-Select-clause-carries : goal.returns-in-Select-clause-carries
returns-in-Select-clause-carries g c now b =
    c.work.ensures.carries now _ (statement.Select c.in-Select.field-0) tt
    (subst (λ (s : Statement). Begins (g.F.StoredFile.tells && g.Z.SealCopy.tells) now (Reads s) c.args.self.now.txn (counts_of g.S.Store.faults g.H.Host.checks g.H.Host.faults g.L.Link.state c.args.benches.now.items)) c.in-Select.is b)

pub returns-in-Select-clause-later : goal.returns-in-Select-clause-later
returns-in-Select-clause-later g c = later-same _

pub returns-clause-carries : goal.returns-clause-carries
returns-clause-carries g c now b =
    c.work-in-Insert.ensures.carries now _ (statement.Insert c.in-Insert.field-0) tt
    (subst (λ (s : Statement). Begins (g.F.StoredFile.tells && g.Z.SealCopy.tells) now (Reads s) c.args.self.now.txn (counts_of g.S.Store.faults g.H.Host.checks g.H.Host.faults g.L.Link.state c.args.benches.now.items)) c.in-Insert.is b)

pub returns-clause-later : goal.returns-clause-later
returns-clause-later g c = later-same _
