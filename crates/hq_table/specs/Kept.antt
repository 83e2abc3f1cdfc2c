-- A table as it is kept: its rows lie in the files of 16 buckets.
--     Keeps table rows          the file of each bucket has just its rows
use Rattle.std.specs.Prelude.{◌<◌, ℕ, List, [], slice_index_or}
use Rattle.hq_value.specs.declared.table.Column.{Column}
use Rattle.hq_value.specs.Bucket.{Buckets}
use Rattle.hq_value.specs.Kinds.{kinds_of}
use Rattle.hq_block.specs.Block.{FileRows}

-- its name, its columns, its keys, and the committed bytes of each bucket
pub record TableState : Type 0 where
  pub name : List ℕ
  pub columns : List Column
  pub keys : List ℕ
  pub files : List (List ℕ)

-- the committed bytes of bucket b
abbrev pub bytes_in : List (List ℕ) → ℕ → List ℕ
bytes_in files b = slice_index_or files b []

-- the file of each bucket has just its rows
abbrev pub Keeps : TableState → Buckets → Type 0
Keeps table rows = (b : ℕ) → b < 16 → FileRows (kinds_of table.columns) (bytes_in table.files b) (rows b)
