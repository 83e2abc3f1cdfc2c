-- The history of a catalogue: its log, in which each entry carries what it left for good. It is a function of what the
-- catalogue holds, and no later step changes what an earlier entry left, since the bytes under a seal stay.
--     history told c        the history; `told` says whether files and seals tell their bytes
use Rattle.std.specs.Prelude.{ℕ, suc, Bool, List, [], ◌∷◌, Option, Some, None, map, take, drop, find, ◌==◌, if◌then◌else◌}
use Rattle.std.specs.List.{filter}
use Rattle.hq_value.specs.declared.entry.Entry.{Entry}
use Rattle.hq_value.specs.declared.entry.EntryKind.{EntryKind}
use Rattle.hq_value.specs.declared.entry.EntryKind.TheVariants as entry
use Rattle.hq_history.specs.declared.noted.Noted.{Noted}
use Rattle.hq_history.specs.declared.noted.Growth.{Growth}
use Rattle.hq_history.specs.declared.noted.Deposit.{Deposit}
use Rattle.hq_history.specs.declared.noted.Deposit.TheVariants.{Nothing, Made, Added, Published}
use Rattle.hq_snap.specs.Snaps.{seal_bytes}
use Rattle.hq_catalog.specs.declared.kept.Change.{Change}
use Rattle.hq_catalog.specs.declared.kept.Change.TheVariants as change
use Rattle.hq_catalog.specs.declared.kept.Grown.{Grown}
use Rattle.hq_catalog.specs.State.{TableState, CatState, seal_of}

-- the bytes of today's seal between the two lengths
abbrev pub growth_of : Bool → List TableState → Grown → Growth
growth_of told tables g = record { file = g.file; before = g.before; after = g.after; bytes = if told then drop g.before (take g.after (seal_bytes (seal_of tables g.file))) else [] }

-- whether this was left at place i
abbrev pub is_change_at : ℕ → Change → Bool
is_change_at i (change.Made place def) = place == i
is_change_at i (change.Added place table column) = place == i

abbrev pub is_grown_at : ℕ → Grown → Bool
is_grown_at i g = g.place == i

-- what was left there
abbrev pub deposit_of : Option Change → Deposit
deposit_of None = Nothing
deposit_of (Some (change.Made place def)) = Made def
deposit_of (Some (change.Added place table column)) = Added table column

-- what the entry at place i left
abbrev pub deposit_at : Bool → CatState → ℕ → EntryKind → Deposit
deposit_at told c i entry.Commit = Published (map (growth_of told c.tables) (filter (is_grown_at i) c.grown))
deposit_at told c i entry.Create = deposit_of (find (is_change_at i) c.changes)
deposit_at told c i entry.Alter = deposit_of (find (is_change_at i) c.changes)
deposit_at told c i _ = Nothing

abbrev pub history_from : Bool → CatState → ℕ → List Entry → List Noted
history_from told c i [] = []
history_from told c i (e ∷ es) = record { entry = e; deposit = deposit_at told c i e.kind } ∷ history_from told c (suc i) es

-- the log, in which each entry carries what it left
abbrev pub history : Bool → CatState → List Noted
history told c = history_from told c 0 c.log
