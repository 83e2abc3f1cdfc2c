-- What each answer leaves of the history, and why answers come that do not do what was asked.
--     IsOneMore k m old new answer    the history goes on by one entry of session k's statement m, or not at all where memory is wanting
--     ComesExactly answer one cause   it is this answer exactly where there is the cause, unless memory is wanting
--     MayLackMemory ask               memory may be wanting for this ask
--     AreAllOut history ask           a lane is asked of a table of which all 64 are out
--     HaveNoTail history ask          a lane with a tail is asked for, and no table has one
--     IsThere history ask             a table is to be made of a name that a table has
--     AreEnough history ask           a table of a new name is to be made, and there are 64
use Rattle.std.specs.Prelude.{◌≡◌, ◌⊎◌, ℕ, Bool, true, false, List, length}
use Rattle.std.specs.List.{list_all}
use Rattle.hq_value.specs.declared.entry.EntryKind.{EntryKind}
use Rattle.hq_log.specs.Places.{is_out}
use Rattle.hq_log.specs.Legal.{HasNoDirty}
use Rattle.hq_history.specs.declared.noted.Noted.{Noted}
use Rattle.hq_history.specs.declared.noted.Deposit.{Deposit}
use Rattle.hq_history.specs.History.{entries_of}
use Rattle.hq_history.specs.Deposits.{tables_left, is_new}
use Rattle.hq_catalog.specs.declared.ask.Ask.{Ask}
use Rattle.hq_catalog.specs.declared.ask.Ask.TheVariants as ask
use Rattle.hq_catalog.specs.declared.ask.Answer.{Answer}
use Rattle.hq_catalog.specs.declared.ask.Answer.TheVariants as answer
use Rattle.hq_catalog.specs.State.{CatState}
use Rattle.hq_catalog.specs.History.{history}
use Rattle.hq_catalog.specs.CatStep.{CatStep, Notes, places_of}

-- the history goes on by one entry of session k's statement m; where memory is wanting it stays
abbrev pub IsOneMore : {F Z : Type 0} → ℕ → ℕ → List Noted → List Noted → Answer F Z → Type 0
IsOneMore k m old new answer.NoMemory = new ≡ old
IsOneMore k m old new _ = (kind : EntryKind) × (deposit : Deposit) × Notes k m kind deposit old new

-- it is this answer exactly where there is the cause; but memory may be wanting
abbrev pub ComesExactly : {F Z : Type 0} → Answer F Z → Answer F Z → Type 0 → Type 0
ComesExactly result one cause = (result ≡ one → cause) × (cause → (result ≡ one) ⊎ (result ≡ answer.NoMemory))

-- Adopt, Commit and Back want no memory
abbrev pub MayLackMemory : {F Z : Type 0} → Ask F Z → Type 0
MayLackMemory (ask.Adopt l) = ⊥
MayLackMemory (ask.Commit lanes) = ⊥
MayLackMemory (ask.Back l) = ⊥
MayLackMemory _ = Unit {0}

-- a lane is asked of a table of which all are out
abbrev pub AreAllOut : {F Z : Type 0} → List Noted → Ask F Z → Type 0
AreAllOut history (ask.Lend t) = list_all is_out (places_of history t) ≡ true
AreAllOut history _ = ⊥

-- a lane with a tail is asked for, and no table has one
abbrev pub HaveNoTail : {F Z : Type 0} → List Noted → Ask F Z → Type 0
HaveNoTail history ask.SweepAny = (t : ℕ) → HasNoDirty (entries_of history) t
HaveNoTail history _ = ⊥

-- a table is to be made of a name that a table has
abbrev pub IsThere : {F Z : Type 0} → List Noted → Ask F Z → Type 0
IsThere history (ask.Create def) = is_new def.name (tables_left history) ≡ false
IsThere history _ = ⊥

-- a table of a new name is to be made, and there are 64
abbrev pub AreEnough : {F Z : Type 0} → List Noted → Ask F Z → Type 0
AreEnough history (ask.Create def) = (is_new def.name (tables_left history) ≡ true) × (length (tables_left history) ≡ 64)
AreEnough history _ = ⊥

-- one step from a catalogue to another
abbrev pub Steps : {F Z : Type 0} → Bool → ℕ → ℕ → CatState → Ask F Z → CatState → Answer F Z → Type 0
Steps {F} {Z} told k m old one new result = CatStep {F = F} {Z = Z} told (length old.marks) k m (history told old) one (history told new) result
