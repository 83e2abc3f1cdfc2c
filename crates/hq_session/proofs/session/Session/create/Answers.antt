use Rattle.std.proofs.Common.{◌≡◌, ◌⊎◌, inl, inr, ◌∙◌, ◌&&◌, Bool, true, false, refl, sym, subst}
use Rattle.hq_catalog.specs.declared.ask.Ask.TheVariants as ask
use Rattle.hq_sql.specs.declared.tree.Statement.TheVariants as statement
use Rattle.hq_sql.specs.declared.tree.CreateStatement.{CreateStatement}
use Rattle.hq_reply.specs.declared.fault.Fault.{Fault}
use Rattle.hq_reply.specs.declared.fault.Fault.TheVariants as fault
use Rattle.hq_txn.specs.Transactions.{Transaction}
use Rattle.hq_txn.specs.declared.state.TxnState.TheVariants as txn
use Rattle.hq_transcript.specs.Pieces.{Reads}
use Rattle.hq_transcript.specs.Binding.{Refused}
use Rattle.hq_transcript.specs.Binds.{binds}
use Rattle.hq_turns.specs.Counts.{Counts, is_plain}
use Rattle.hq_turns.specs.Now.{Now}
use Rattle.hq_turns.specs.Ends.{Begins, Fails}
use Rattle.hq_turns.proofs.Answering.{plain-mark}
use Rattle.hq_turns.proofs.Changing.{create-in-open, create-in-failed, create-refused, create-short, asks-create}
use Rattle.hq_session.proofs.session.Session.create.Goals as goal

not-bound : (told : Bool) (now : Now) (create : CreateStatement) (t : Transaction) (c : Counts) (why : Fault) → Begins told now (Reads (statement.Create create)) t c
    → t.state ≡ txn.Idle → is_plain why ≡ true → (why ≡ fault.NoMemory) ⊎ (binds.create create ≡ Refused why) → Fails binds told now why false t c
not-bound told now create t c why b idle plain (inl e) = subst (λ (w : Fault). Fails binds told now w false t c) (sym e) (create-short binds told now create t c b)
not-bound told now create t c why b idle plain (inr e) = create-refused binds told now create t c b why idle plain e

pub returns-in-Ok-clause-carries : goal.returns-in-Ok-clause-carries
returns-in-Ok-clause-carries g c now k b =
    asks-create binds (g.F.StoredFile.tells && g.Z.SealCopy.tells) now c.args.create c.args.self.now.txn k b (ask.Create c.in-Ok.table) c.in-Ok.table c.args.self.now.txn
    (sym c.state.ensures ∙ c.in-Idle.is) c.in-Ok.ensures.bound refl refl

pub returns-in-Err-clause-carries : goal.returns-in-Err-clause-carries
returns-in-Err-clause-carries g c now k b =
    c.refuse.ensures.carries now k
    (not-bound (g.F.StoredFile.tells && g.Z.SealCopy.tells) now c.args.create c.args.self.now.txn k c.in-Err.why b (sym c.state.ensures ∙ c.in-Idle.is) c.in-Err.ensures.plain c.in-Err.ensures.refused)
    (plain-mark c.in-Err.why c.in-Err.ensures.plain)

pub returns-in-Open-clause-carries : goal.returns-in-Open-clause-carries
returns-in-Open-clause-carries g c now k b =
    c.refuse-in-Open.ensures.carries now k
    (create-in-open binds (g.F.StoredFile.tells && g.Z.SealCopy.tells) now c.args.create c.args.self.now.txn k b (sym c.state.ensures ∙ c.in-Open.is)) refl

pub returns-in-Failed-clause-carries : goal.returns-in-Failed-clause-carries
returns-in-Failed-clause-carries g c now k b =
    c.refuse-in-Failed.ensures.carries now k
    (create-in-failed binds (g.F.StoredFile.tells && g.Z.SealCopy.tells) now c.args.create c.args.self.now.txn k b (sym c.state.ensures ∙ c.in-Failed.is)) refl

pub returns-in-Ok-clause-hand : goal.returns-in-Ok-clause-hand
returns-in-Ok-clause-hand g c history x = record { may = tt; hand = x }
