use Rattle.std.proofs.Common.{◌∙◌, ◌&&◌, refl, sym}
use Rattle.hq_catalog.specs.declared.ask.Ask.TheVariants as ask
use Rattle.hq_transcript.specs.Binds.{binds}
use Rattle.hq_turns.proofs.Changing.{alter-in-open, alter-in-failed, asks-alter}
use Rattle.hq_session.proofs.session.Session.alter.Goals as goal

pub returns-in-Idle-clause-carries : goal.returns-in-Idle-clause-carries
returns-in-Idle-clause-carries g c now k b =
    asks-alter binds (g.F.StoredFile.tells && g.Z.SealCopy.tells) now c.args.table c.args.column c.args.self.now.txn k b (ask.Alter c.args.table c.args.column) c.args.self.now.txn
    (sym c.state.ensures ∙ c.in-Idle.is) refl refl

pub returns-in-Open-clause-carries : goal.returns-in-Open-clause-carries
returns-in-Open-clause-carries g c now k b =
    c.refuse.ensures.carries now k
    (alter-in-open binds (g.F.StoredFile.tells && g.Z.SealCopy.tells) now c.args.table c.args.column c.args.self.now.txn k b (sym c.state.ensures ∙ c.in-Open.is)) refl

pub returns-in-Failed-clause-carries : goal.returns-in-Failed-clause-carries
returns-in-Failed-clause-carries g c now k b =
    c.refuse-in-Failed.ensures.carries now k
    (alter-in-failed binds (g.F.StoredFile.tells && g.Z.SealCopy.tells) now c.args.table c.args.column c.args.self.now.txn k b (sym c.state.ensures ∙ c.in-Failed.is)) refl

pub returns-in-Idle-clause-hand : goal.returns-in-Idle-clause-hand
returns-in-Idle-clause-hand g c history x = record { may = tt; hand = x }
