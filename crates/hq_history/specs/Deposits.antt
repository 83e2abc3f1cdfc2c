-- What the deposits of a history leave, and which deposits an entry may carry.
--     tables_left history             the definitions that were made, with the columns added to them
--     growths_left history            all growths of files, in order
--     length_left history file        the committed length of a file
--     bytes_left history file         its committed bytes, where they are told
--     bytes_added deposit t b         what a deposit adds to bucket b of table t: the bytes of each of its files
--     IsDeposit told history n        the deposit is one that its entry may carry behind this history
--     IsHistory told history          each deposit is one that its entry may carry
use Rattle.std.specs.Prelude.{◌≡◌, ◌≢◌, ℕ, zero, suc, ◌-◌, ◌<◌, ◌==◌, ◌&&◌, Bool, List, [], ◌∷◌, ◌++◌, IsTrue, length, map, fold, flat_map, if◌then◌else◌, not, None, MatchOption, slice_get}
use Rattle.std.specs.List.{All, list_any}
use Rattle.hq_value.specs.declared.table.Column.{Column}
use Rattle.hq_value.specs.declared.entry.FileId.{FileId}
use Rattle.hq_value.specs.declared.entry.EntryKind.{EntryKind}
use Rattle.hq_value.specs.declared.entry.EntryKind.TheVariants as entry
use Rattle.hq_value.specs.Tables.{Definition, IsDefinition, are_distinct, same_names, with_column, column_refusal}
use Rattle.hq_history.specs.declared.noted.Noted.{Noted}
use Rattle.hq_history.specs.declared.noted.Growth.{Growth}
use Rattle.hq_history.specs.declared.noted.Deposit.{Deposit}
use Rattle.hq_history.specs.declared.noted.Deposit.TheVariants.{Nothing, Made, Added, Published}

-- the tables where the one with this number has the column too
abbrev pub with_added : ℕ → Column → List Definition → List Definition
with_added n column [] = []
with_added zero column (table ∷ tables) = with_column table column ∷ tables
with_added (suc n) column (table ∷ tables) = table ∷ with_added n column tables

-- the tables after a deposit: one that is made gets the next number
abbrev pub tables_after : List Definition → Deposit → List Definition
tables_after tables Nothing = tables
tables_after tables (Made table) = tables ++ table ∷ []
tables_after tables (Added n column) = with_added n column tables
tables_after tables (Published growths) = tables

-- the tables that all deposits leave
abbrev pub tables_left : List Noted → List Definition
tables_left history = fold (λ tables (n : Noted). tables_after tables n.deposit) [] history

-- what a deposit adds to files
abbrev pub growths_in : Deposit → List Growth
growths_in Nothing = []
growths_in (Made table) = []
growths_in (Added n column) = []
growths_in (Published growths) = growths

-- what all deposits add to files
abbrev pub growths_left : List Noted → List Growth
growths_left history = flat_map (λ (n : Noted). growths_in n.deposit) history

abbrev pub is_same_file : FileId → FileId → Bool
is_same_file a b = (a.table == b.table) && (a.lane == b.lane) && (a.bucket == b.bucket)

-- the length of a file of n bytes after these growths
abbrev pub length_after : FileId → ℕ → List Growth → ℕ
length_after file n [] = n
length_after file n (g ∷ gs) = length_after file (if is_same_file g.file file then g.after else n) gs

-- the bytes that these growths add to a file
abbrev pub bytes_of : FileId → List Growth → List ℕ
bytes_of file [] = []
bytes_of file (g ∷ gs) = if is_same_file g.file file then (g.bytes ++ bytes_of file gs) else bytes_of file gs

-- the committed length of a file
abbrev pub length_left : List Noted → FileId → ℕ
length_left history file = length_after file 0 (growths_left history)

-- the committed bytes of a file, where they are told
abbrev pub bytes_left : List Noted → FileId → List ℕ
bytes_left history file = bytes_of file (growths_left history)

-- the bytes of each of these growths that is of bucket b of table t
abbrev pub bytes_within : ℕ → ℕ → List Growth → List (List ℕ)
bytes_within t b [] = []
bytes_within t b (g ∷ gs) =
    if (g.file.table == t) && (g.file.bucket == b) then (g.bytes ∷ bytes_within t b gs) else bytes_within t b gs

-- what a deposit adds to bucket b of table t: the bytes of each of its files, one lane after the other
abbrev pub bytes_added : Deposit → ℕ → ℕ → List (List ℕ)
bytes_added deposit t b = bytes_within t b (growths_in deposit)

-- A file of a table that is made grows from the length that it had, and has the bytes between, or none where they aren't told
pub record IsGrowth (told : Bool) (history : List Noted) (g : Growth) : Type 0 where
  pub made : g.file.table < length (tables_left history)
  pub bucket : g.file.bucket < 16
  pub begins : g.before ≡ length_left history g.file
  pub grows : g.before < g.after
  pub bytes : length g.bytes ≡ (if told then g.after - g.before else 0)

-- each file grows once
pub record AreGrowths (told : Bool) (history : List Noted) (growths : List Growth) : Type 0 where
  pub each : All (IsGrowth told history) growths
  pub once : IsTrue (are_distinct is_same_file (map (λ (g : Growth). g.file) growths))

-- no table has the name yet
abbrev pub is_new : List ℕ → List Definition → Bool
is_new name tables = not (list_any (λ (table : Definition). same_names table.name name) tables)

-- a Create makes a table of a new name while there are fewer than 64
pub record MayMake (tables : List Definition) (def : Definition) : Type 0 where
  pub room : length tables < 64
  pub new_name : IsTrue (is_new def.name tables)
  pub rules : IsDefinition def

-- an Alter adds a column to a table that is made, where none refuses it
abbrev pub MayAdd : List Definition → ℕ → Column → Type 0
MayAdd tables n column = MatchOption (slice_get tables n) ⊥ (λ def. column_refusal def column ≡ None)

-- the deposit is one that an entry of this kind may carry behind this history
abbrev pub MayCarry : Bool → List Noted → EntryKind → Deposit → Type 0
MayCarry told history kind Nothing = kind ≢ entry.Commit
MayCarry told history kind (Made def) = (kind ≡ entry.Create) × MayMake (tables_left history) def
MayCarry told history kind (Added n column) = (kind ≡ entry.Alter) × MayAdd (tables_left history) n column
MayCarry told history kind (Published growths) = (kind ≡ entry.Commit) × AreGrowths told history growths

abbrev pub IsDeposit : Bool → List Noted → Noted → Type 0
IsDeposit told history n = MayCarry told history n.entry.kind n.deposit

-- each deposit is one that its entry may carry, the first behind `before`
abbrev pub AreDeposits : Bool → List Noted → List Noted → Type 0
AreDeposits told before [] = Unit {0}
AreDeposits told before (n ∷ ns) = IsDeposit told before n × AreDeposits told (before ++ n ∷ []) ns

-- each deposit is one that its entry may carry behind those before it
abbrev pub IsHistory : Bool → List Noted → Type 0
IsHistory told history = AreDeposits told [] history
