-- What a replay has of marks and tables is what the folds of the log and of the history leave.
use Rattle.std.proofs.Common.{◌≡◌, ℕ, Bool, List, [], ◌∷◌, ◌++◌, fold, refl, ◌∙◌, ap}
use Rattle.hq_value.specs.declared.entry.Entry.{Entry}
use Rattle.hq_value.specs.declared.entry.EntryKind.{EntryKind}
use Rattle.hq_value.specs.declared.entry.EntryKind.TheVariants as entry
use Rattle.hq_value.specs.declared.kind.Kind.{Kind}
use Rattle.hq_value.specs.declared.value.Value.{Value}
use Rattle.hq_value.specs.Tables.{Definition}
use Rattle.hq_log.specs.Marks.{marks, marks_after}
use Rattle.hq_history.specs.declared.noted.Noted.{Noted}
use Rattle.hq_history.specs.declared.noted.Deposit.{Deposit}
use Rattle.hq_history.specs.declared.noted.Deposit.TheVariants.{Nothing, Made, Added, Published}
use Rattle.hq_history.specs.History.{entries_of}
use Rattle.hq_history.specs.Deposits.{tables_after, tables_left, MayCarry, AreDeposits, IsHistory}
use Rattle.hq_transcript.specs.Pieces.{Piece}
use Rattle.hq_transcript.specs.Tables.{Put}
use Rattle.hq_transcript.specs.Binding.{Binder}
use Rattle.hq_transcript.specs.Sights.{Sight, Replay, start, sight_at, after, after_kind, replay}
use Rattle.hq_transcript.specs.History.{after_noted, puts_in, replay_history}

-- ---- marks

up-after_kind : (tables : List Definition) (puts : List Put) (s : Sight) (r : Replay) (e : EntryKind) → (after_kind tables puts s r e).up ≡ marks_after r.up e
up-after_kind tables puts s r entry.Look = refl
up-after_kind tables puts s r entry.Create = refl
up-after_kind tables puts s r entry.Alter = refl
up-after_kind tables puts s r entry.Commit = refl
up-after_kind tables puts s r _ = refl

abbrev marks_from : List Bool → List Entry → List Bool
marks_from up log = fold (λ (marks : List Bool) (e : Entry). marks_after marks e.kind) up log

up-from : (binds : Binder) (inputs : ℕ → List Piece) (r : Replay) (log : List Entry) → (fold (after binds inputs) r log).up ≡ marks_from r.up log
up-from binds inputs r [] = refl
up-from binds inputs r (e ∷ log) = up-from binds inputs (after binds inputs r e) log ∙ ap (λ up. marks_from up log) (up-after_kind _ _ (sight_at r e) r e.kind)

pub up-replay : (binds : Binder) (inputs : ℕ → List Piece) (nodes : ℕ) (log : List Entry) → (replay binds inputs nodes log).up ≡ marks nodes log
up-replay binds inputs nodes log = up-from binds inputs (start nodes) log

module _ (file_rows : List Kind → List ℕ → List (List Value)) where
  up-noted : (r : Replay) (history : List Noted) → (fold (after_noted file_rows) r history).up ≡ marks_from r.up (entries_of history)
  up-noted r [] = refl
  up-noted r (n ∷ history) = up-noted (after_noted file_rows r n) history ∙ ap (λ up. marks_from up (entries_of history)) (up-after_kind _ _ (sight_at r n.entry) r n.entry.kind)

  pub up-history : (nodes : ℕ) (history : List Noted) → (replay_history file_rows nodes history).up ≡ marks nodes (entries_of history)
  up-history nodes history = up-noted (start nodes) history

  -- ---- tables

  tables-kept : (puts : List Put) (s : Sight) (r : Replay) (e : EntryKind) → (after_kind r.tables puts s r e).tables ≡ r.tables
  tables-kept puts s r entry.Look = refl
  tables-kept puts s r entry.Create = refl
  tables-kept puts s r entry.Alter = refl
  tables-kept puts s r entry.Commit = refl
  tables-kept puts s r _ = refl

  tables-one : (told : Bool) (before : List Noted) (puts : List Put) (s : Sight) (r : Replay) (e : EntryKind) (deposit : Deposit) → MayCarry told before e deposit
      → (after_kind (tables_after r.tables deposit) puts s r e).tables ≡ tables_after r.tables deposit
  tables-one told before puts s r e Nothing may = tables-kept puts s r e
  tables-one told before puts s r e (Made table) may = ap (λ kind. (after_kind (tables_after r.tables (Made table)) puts s r kind).tables) may.0
  tables-one told before puts s r e (Added t column) may = ap (λ kind. (after_kind (tables_after r.tables (Added t column)) puts s r kind).tables) may.0
  tables-one told before puts s r e (Published growths) may = tables-kept puts s r e

  abbrev tables_from : List Definition → List Noted → List Definition
  tables_from tables history = fold (λ (tables : List Definition) (n : Noted). tables_after tables n.deposit) tables history

  tables-noted : (told : Bool) (before : List Noted) (r : Replay) (history : List Noted) → AreDeposits told before history
      → (fold (after_noted file_rows) r history).tables ≡ tables_from r.tables history
  tables-noted told before r [] may = refl
  tables-noted told before r (n ∷ history) may =
      tables-noted told (before ++ n ∷ []) (after_noted file_rows r n) history may.1
      ∙ ap (λ tables. tables_from tables history) (tables-one told before (puts_in file_rows r.tables n.deposit) (sight_at r n.entry) r n.entry.kind n.deposit may.0)

  pub tables-history : (told : Bool) (nodes : ℕ) (history : List Noted) → IsHistory told history → (replay_history file_rows nodes history).tables ≡ tables_left history
  tables-history told nodes history may = tables-noted told [] (start nodes) history may
