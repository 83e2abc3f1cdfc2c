-- The blocks of a file, and what a scan with tests reads of them.
--     head_in kinds bytes           what the bytes say before the rows of the block that they begin with
--     blocks_in kinds bytes         the blocks of which the bytes are the concatenation
--     joined_rows blocks            their rows, one after the other
--     joined_length blocks          how many bytes they are together
--     kept_rows tests kinds bytes   the joined rows of the blocks that the tests do not skip
--     read_sum tests kinds bytes    how many bytes are read of the blocks: of a skipped one its head and bounds
--     passing tests rows            the rows that pass all tests
use Rattle.std.specs.Prelude.{ℕ, zero, suc, ◌+◌, Bool, List, [], ◌∷◌, length, take, flat_map, filter, sum_by, Option, Some, None, if◌then◌else◌}
use Rattle.std.specs.List.{list_all}
use Rattle.hq_value.specs.declared.value.Value.{Value}
use Rattle.hq_value.specs.declared.kind.Kind.{Kind}
use Rattle.hq_block.specs.declared.head.BlockHead.{BlockHead}
use Rattle.hq_block.specs.declared.skip.ColumnTest.{ColumnTest}
use Rattle.hq_block.specs.Reading.{◌>>=◌, head_at, head_bounds_at, block_at}
use Rattle.hq_block.specs.Skipping.{passes_test, skips, read_length}

-- what a block says before its rows, and its rows
pub record FileBlock : Type 0 where
  pub head : BlockHead
  pub rows : List (List Value)

-- what the bytes say before the rows of the block that they begin with; None where no head and bounds for the kinds do
abbrev pub head_in : List Kind → List ℕ → Option BlockHead
head_in kinds bytes = do
  head ← head_at bytes
  bounds ← head_bounds_at head.0.version (take head.0.columns kinds) (take head.0.bounds head.1)
  Some (record { columns = head.0.columns; length = 16 + head.0.size; bounds = bounds })

-- a block in front of others, where there is one
abbrev pub in_front : Option BlockHead → Option (List (List Value) × List ℕ) → List FileBlock → List FileBlock
in_front (Some head) (Some block) others = record { head = head; rows = block.0 } ∷ others
in_front (Some head) None others = []
in_front None block others = []

-- the bytes behind a block
abbrev pub behind : Option (List (List Value) × List ℕ) → List ℕ
behind (Some block) = block.1
behind None = []

-- so many blocks, or fewer where the bytes end
abbrev pub first_blocks : ℕ → List Kind → List ℕ → List FileBlock
first_blocks zero kinds bytes = []
first_blocks (suc most) kinds bytes = in_front (head_in kinds bytes) (block_at kinds bytes) (first_blocks most kinds (behind (block_at kinds bytes)))

-- the blocks of which the bytes are the concatenation; there are no more than bytes
abbrev pub blocks_in : List Kind → List ℕ → List FileBlock
blocks_in kinds bytes = first_blocks (length bytes) kinds bytes

-- the rows of blocks, one after the other
abbrev pub joined_rows : List FileBlock → List (List Value)
joined_rows blocks = flat_map (λ (block : FileBlock). block.rows) blocks

-- how many bytes blocks are together
abbrev pub joined_length : List FileBlock → ℕ
joined_length blocks = sum_by (λ (block : FileBlock). block.head.length) blocks

-- the rows of a block, unless the tests skip it
abbrev pub rows_kept : List ColumnTest → FileBlock → List (List Value)
rows_kept tests block = if skips tests block.head.bounds then [] else block.rows

-- the joined rows of the blocks that the tests do not skip
abbrev pub kept_rows : List ColumnTest → List Kind → List ℕ → List (List Value)
kept_rows tests kinds bytes = flat_map (rows_kept tests) (blocks_in kinds bytes)

-- how many bytes are read of a block
abbrev pub bytes_read : List ColumnTest → FileBlock → ℕ
bytes_read tests block = read_length tests block.head

-- how many bytes are read of the blocks
abbrev pub read_sum : List ColumnTest → List Kind → List ℕ → ℕ
read_sum tests kinds bytes = sum_by (bytes_read tests) (blocks_in kinds bytes)

-- whether a row passes all tests
abbrev pub passes_all : List ColumnTest → List Value → Bool
passes_all tests row = list_all (λ test. passes_test test row) tests

-- the rows that do
abbrev pub passing : List ColumnTest → List (List Value) → List (List Value)
passing tests rows = filter (passes_all tests) rows
