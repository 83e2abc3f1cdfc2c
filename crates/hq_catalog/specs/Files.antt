-- What a history says of tables and files.
--     def_at history t                 the definition of table t
--     last_change history file         the place behind that of the last entry that added to the file, or 0
--     FitBytes def b bytes             they are blocks of the table's first columns, and where the table has keys the
--                                      rows go to bucket b by them
--     is_named name def                the table has this name
--     table_named name tables          the number of the table of this name, if there is one
use Rattle.std.specs.Prelude.{◌≡◌, ℕ, suc, ◌≤◌, Bool, List, [], ◌∷◌, Option, length, take, slice_index_or, position, if◌then◌else◌}
use Rattle.std.specs.List.{All, list_any}
use Rattle.hq_value.specs.declared.value.Value.{Value}
use Rattle.hq_value.specs.declared.entry.FileId.{FileId}
use Rattle.hq_value.specs.Tables.{Definition, same_names}
use Rattle.hq_value.specs.Kinds.{kinds_of}
use Rattle.hq_value.specs.Bucket.{bucket_of}
use Rattle.hq_block.specs.Block.{FileRows}
use Rattle.hq_history.specs.declared.noted.Noted.{Noted}
use Rattle.hq_history.specs.declared.noted.Growth.{Growth}
use Rattle.hq_history.specs.Deposits.{growths_in, is_same_file, tables_left}

abbrev pub no_table : Definition
no_table = record { name = []; columns = []; keys = [] }

-- the definition of table t
abbrev pub def_in : List Definition → ℕ → Definition
def_in tables t = slice_index_or tables t no_table

abbrev pub def_at : List Noted → ℕ → Definition
def_at history t = def_in (tables_left history) t

-- one of the growths is of this file
abbrev pub is_among : FileId → List Growth → Bool
is_among file growths = list_any (λ (g : Growth). is_same_file g.file file) growths

-- the place behind the last of these entries that added to the file; `p` is the place of the first of them, and `found` what was found before
abbrev pub last_change_from : ℕ → ℕ → FileId → List Noted → ℕ
last_change_from p found file [] = found
last_change_from p found file (n ∷ ns) = last_change_from (suc p) (if is_among file (growths_in n.deposit) then suc p else found) file ns

-- the place behind that of the last entry that added to the file, or 0
abbrev pub last_change : List Noted → FileId → ℕ
last_change history file = last_change_from 0 0 file history

-- where there are keys, each row goes to bucket b by them
abbrev pub GoTo : List ℕ → ℕ → List (List Value) → Type 0
GoTo [] b rows = Unit {0}
GoTo (key ∷ keys) b rows = All (λ row. bucket_of row (key ∷ keys) ≡ b) rows

-- the bytes are blocks of the table's first columns, and where the table has keys the rows go to bucket b by them
pub record FitBytes (def : Definition) (b : ℕ) (bytes : List ℕ) : Type 0 where
  pub columns : ℕ
  pub within : columns ≤ length def.columns
  pub rows : List (List Value)
  pub file : FileRows (kinds_of (take columns def.columns)) bytes rows
  pub bucket : GoTo def.keys b rows

-- the table has this name
abbrev pub is_named : List ℕ → Definition → Bool
is_named name def = same_names def.name name

-- the number of the table of this name, if there is one
abbrev pub table_named : List ℕ → List Definition → Option ℕ
table_named name tables = position (is_named name) tables
