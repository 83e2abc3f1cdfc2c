-- What is answered to what was asked can be heard.
use Rattle.std.proofs.Common.{◌≡◌, ℕ, Bool, List, Option, Some, subst}
use Rattle.hq_value.specs.declared.entry.EntryKind.{EntryKind}
use Rattle.hq_value.specs.declared.table.Column.{Column}
use Rattle.hq_value.specs.Tables.{Definition}
use Rattle.hq_history.specs.declared.noted.Noted.{Noted}
use Rattle.hq_catalog.specs.declared.ask.Ask.{Ask}
use Rattle.hq_catalog.specs.declared.ask.Ask.TheVariants as ask
use Rattle.hq_catalog.specs.declared.ask.Answer.{Answer}
use Rattle.hq_catalog.specs.declared.ask.Answer.TheVariants as answer
use Rattle.hq_catalog.specs.CatStep.{CatStep, CreateStep, AlterStep}
use Rattle.hq_reply.specs.declared.reply.Reply.{Reply}
use Rattle.hq_txn.specs.Transactions.{Transaction}
use Rattle.hq_turns.specs.Counts.{Counts}
use Rattle.hq_turns.specs.Now.{Now, Heard}
use Rattle.hq_turns.specs.Asked.{entry_of}
use Rattle.hq_session.specs.declared.awaited.Awaited.{Awaited}
use Rattle.hq_session.specs.declared.awaited.Awaited.TheVariants as awaited
use Rattle.hq_session.specs.Waits.{CanHear, RowsOfBytes, Waits}

module _ {F Z : Type 0} (told : Bool) (nodes k m : ℕ) (before history : List Noted) where
  at-create : (def : Definition) (x : Answer F Z) → CreateStep told nodes k m before history def x → CanHear awaited.Create x
  at-create def (answer.Made t) s = tt
  at-create def answer.Exists s = tt
  at-create def (answer.TooManyTables made) s = tt
  at-create def answer.NoMemory s = tt
  at-create def _ s = absurd s

  at-alter : (name : List ℕ) (column : Column) (x : Answer F Z) → AlterStep told nodes k m before history name column x → CanHear awaited.Alter x
  at-alter name column (answer.Altered t) s = tt
  at-alter name column answer.NoTable s = tt
  at-alter name column (answer.TooManyColumns columns) s = tt
  at-alter name column answer.ColumnThere s = tt
  at-alter name column answer.NoMemory s = tt
  at-alter name column _ s = absurd s

  at-end : (a : Ask F Z) (kind : EntryKind) (reply : Option Reply) (give : Bool) (x : Answer F Z) → entry_of a ≡ Some kind → CatStep told nodes k m before a history x
      → CanHear (awaited.Ending reply give) x
  at-end (ask.Commit lanes) kind reply give answer.Done e s = tt
  at-end (ask.Commit lanes) kind reply give _ e s = absurd s
  at-end (ask.Back lane) kind reply give answer.Done e s = tt
  at-end (ask.Back lane) kind reply give _ e s = absurd s
  at-end (ask.Mark n up) kind reply give answer.Done e s = tt
  at-end (ask.Mark n up) kind reply give answer.NoMemory e s = tt
  at-end (ask.Mark n up) kind reply give _ e s = absurd s
  at-end (ask.Look scope have) kind reply give x e s = cc
  at-end (ask.Create def) kind reply give x e s = cc
  at-end (ask.Alter name column) kind reply give x e s = cc
  at-end (ask.Lend t) kind reply give x e s = cc
  at-end (ask.Adopt lane) kind reply give x e s = cc
  at-end ask.SweepAny kind reply give x e s = cc

pub can-hear : {F Z : Type 0} (told : Bool) (file_rows : RowsOfBytes) (nodes k : ℕ) (now after : Now) (a : Ask F Z) (x : Answer F Z) (t : Transaction) (c : Counts) (awaiting : Awaited)
    → Waits told now a t c awaiting → Heard file_rows told nodes k now a x after → CanHear awaiting x
can-hear told file_rows nodes k now after a x t c awaited.Piece w h = absurd w
can-hear {F} {Z} told file_rows nodes k now after a x t c awaited.Create w h =
    at-create told nodes k now.number h.before h.history w.table x (subst (λ (b : Ask F Z). CatStep told nodes k now.number h.before b h.history x) w.asked h.step)
can-hear {F} {Z} told file_rows nodes k now after a x t c awaited.Alter w h =
    at-alter told nodes k now.number h.before h.history w.name w.column x (subst (λ (b : Ask F Z). CatStep told nodes k now.number h.before b h.history x) w.asked h.step)
can-hear told file_rows nodes k now after a x t c (awaited.Ending reply give) w h =
    at-end told nodes k now.number h.before h.history a w.kind reply give x w.asked h.step
