-- Statements over rows that end before their look.
use Rattle.std.proofs.Common.{◌≡◌, inl, inr, ℕ, Bool, true, false, List, [], ◌∷◌, ◌++◌, Option, Some, None, refl, sym, ◌∙◌, ap, subst}
use Rattle.hq_value.specs.declared.entry.EntryKind.{EntryKind}
use Rattle.hq_sql.specs.declared.tree.Statement.{Statement}
use Rattle.hq_sql.specs.declared.tree.Statement.TheVariants as statement
use Rattle.hq_sql.specs.declared.tree.SelectStatement.{SelectStatement}
use Rattle.hq_sql.specs.declared.tree.InsertStatement.{InsertStatement}
use Rattle.hq_txn.specs.Transactions.{Transaction}
use Rattle.hq_txn.specs.declared.state.TxnState.TheVariants as txn
use Rattle.hq_reply.specs.declared.fault.Fault.{Fault}
use Rattle.hq_reply.specs.declared.fault.Fault.TheVariants as fault
use Rattle.hq_reply.specs.declared.reply.Reply.{Reply}
use Rattle.hq_reply.specs.declared.reply.Reply.TheVariants as reply
use Rattle.hq_transcript.specs.Pieces.{Reads}
use Rattle.hq_transcript.specs.Tables.{Put}
use Rattle.hq_transcript.specs.Binding.{Binder}
use Rattle.hq_transcript.specs.Sights.{Sight, Found}
use Rattle.hq_transcript.specs.Step.{State, Idle, Open, Failed, Lanes, Choice, Course, All_out, Follows, IsEarly, SelectStep, InsertStep, Step, state_after}
use Rattle.hq_turns.specs.Counts.{Counts}
use Rattle.hq_turns.specs.Now.{Now}
use Rattle.hq_turns.specs.Ends.{Begins, Fails, failed}
use Rattle.hq_turns.specs.Asked.{IsWork}
use Rattle.hq_turns.proofs.Answering.{is-failed, fails-at}

abbrev none-chosen : Choice
none-chosen = record { answered = []; way = All_out }

error-by-work : (st : State) (m : ℕ) (s : Statement) (w : Fault) → IsWork s → state_after st m (Reads s) (Some (reply.Error w)) ≡ failed st
error-by-work Idle m (statement.Select s) w h = refl
error-by-work (Open b) m (statement.Select s) w h = refl
error-by-work (Failed b) m (statement.Select s) w h = refl
error-by-work Idle m (statement.Insert i) w h = refl
error-by-work (Open b) m (statement.Insert i) w h = refl
error-by-work (Failed b) m (statement.Insert i) w h = refl
error-by-work st m _ w h = absurd h

module _ (binds : Binder) (told : Bool) where
  -- there was no memory before anything was asked
  short-at-once : (idle : Bool) (up : List Bool) (course : Choice → Course) → Follows told idle up course [] (reply.Error fault.NoMemory)
  short-at-once idle up course = (
    none-chosen,
    refl,
    inr (record {
      why = fault.NoMemory;
      front = [];
      rest = (course none-chosen).entries;
      back = [];
      answer = refl;
      outside = tt;
      begins = refl;
      unfinished = refl;
      ends = refl;
      given_back = refl;
    }),
  )

  select-short : (stands : Bool) (look : Option Sight) (own : List Put) (s : SelectStatement) → SelectStep binds told stands look own s [] (reply.Error fault.NoMemory)
  select-short stands None own s = (refl, refl)
  select-short stands (Some sight) own s = short-at-once false sight.up _

  insert-short : (stands idle : Bool) (lanes : Lanes) (look : Option Sight) (own : List Put) (i : InsertStatement) → InsertStep binds told stands idle lanes look own i [] (reply.Error fault.NoMemory)
  insert-short stands idle lanes None own i = (refl, refl)
  insert-short stands idle lanes (Some sight) own i = short-at-once idle sight.up _

  short-step : (f : Found) (st : State) (lanes : Lanes) (s : Statement) → IsWork s → Step binds told f st lanes (Reads s) [] (Some (reply.Error fault.NoMemory))
  short-step f Idle lanes (statement.Select s) h = select-short f.stands f.look f.own s
  short-step f (Open b) lanes (statement.Select s) h = select-short f.stands f.look f.own s
  short-step f (Failed b) lanes (statement.Select s) h = (refl, inr refl)
  short-step f Idle lanes (statement.Insert i) h = insert-short f.stands true lanes f.look f.own i
  short-step f (Open b) lanes (statement.Insert i) h = insert-short f.stands false lanes f.look f.own i
  short-step f (Failed b) lanes (statement.Insert i) h = (refl, inr refl)
  short-step f st lanes _ h = absurd h

  refused-step : (f : Found) (b : ℕ) (lanes : Lanes) (s : Statement) → IsWork s → Step binds told f (Failed b) lanes (Reads s) [] (Some (reply.Error fault.TransactionFailed))
  refused-step f b lanes (statement.Select s) h = (refl, inl refl)
  refused-step f b lanes (statement.Insert i) h = (refl, inl refl)
  refused-step f b lanes _ h = absurd h

  module _ (now : Now) (s : Statement) (t : Transaction) (c : Counts) (work : IsWork s) (b : Begins told now (Reads s) t c) where
    pub work-short : Fails binds told now fault.NoMemory false t c
    work-short =
        fails-at binds told now (Reads s) now.state [] fault.NoMemory t c b.piece refl b.before b.entries refl (short-step now.found now.state now.lanes s work)
        (λ w. error-by-work now.state now.number s w work)

    pub work-failed : t.state ≡ txn.Failed → Fails binds told now fault.TransactionFailed false t c
    work-failed h =
        let e = is-failed now.state (sym b.before.state ∙ h) in
        fails-at binds told now (Reads s) (Failed e.0) [] fault.TransactionFailed t c b.piece e.1 b.before b.entries refl (refused-step now.found e.0 now.lanes s work)
        (λ w. error-by-work (Failed e.0) now.number s w work)
