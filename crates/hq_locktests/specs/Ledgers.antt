-- The history of a log in which no entry leaves anything.
use Rattle.std.specs.Prelude.{◌≡◌, ◌⊎◌, ℕ, List, [], ◌∷◌, ◌++◌, length}
use Rattle.hq_value.specs.declared.entry.Entry.{Entry}
use Rattle.hq_value.specs.declared.entry.EntryKind.TheVariants as entry
use Rattle.hq_history.specs.declared.noted.Noted.{Noted}
use Rattle.hq_history.specs.declared.noted.Deposit.TheVariants.{Nothing}

abbrev pub bare : Entry → Noted
bare e = record { entry = e; deposit = Nothing }

abbrev pub look_by : ℕ → ℕ → Entry
look_by session statement = record { session = session; statement = statement; kind = entry.Look }

-- the log has the statement's entry too, or has stayed without memory, and the answer is its length
abbrev pub Notes : ℕ → ℕ → List Entry → Unit {0} → List Entry → ℕ → Type 0
Notes session statement before ask after answer = ((after ≡ before) ⊎ (after ≡ before ++ look_by session statement ∷ [])) × (answer ≡ length after)
