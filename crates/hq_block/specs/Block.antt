-- Blocks of rows, and files of blocks.
--     IsBlockOf head kinds rows bytes    the bytes are a block of this head and of just these columns
--     IsBlock kinds rows bytes      the bytes are a block of the rows; columns that it lacks are NULL
--     block_bytes kinds rows        the block as it is written, and block_length its length
--     fitting_a_block kinds rows    how many of the first rows one block takes
--     pack kinds rows               blocks of following rows, each taking as many as fit
--     FileRows kinds bytes rows     the joined rows of the blocks whose concatenation is the bytes
use Rattle.std.specs.Prelude.{◌≡◌, ℕ, zero, suc, ◌+◌, ◌-◌, ◌==◌, ◌≤◌, Bool, ◌&&◌, List, [], ◌∷◌, ◌++◌, length, take, drop, map, replicate, flat_map, nat_le, true, if◌then◌else◌}
use Rattle.std.specs.List.{AllByRecursion}
use Rattle.std.specs.Int.{to_be_bytes, w16, w32}
use Rattle.hq_value.specs.declared.value.Value.{Value}
use Rattle.hq_value.specs.declared.value.Value.TheVariants as variant
use Rattle.hq_value.specs.declared.kind.Kind.{Kind}
use Rattle.hq_block.specs.declared.head.Head.{Head}
use Rattle.hq_block.specs.Row.{IsStorable, row_bytes}
use Rattle.hq_block.specs.Bounds.{bounds_of, bounds_bytes}

-- a block's first 16 bytes: two letters, the version, the columns, the body's length, the rows, the bounds' length
abbrev pub head_bytes : Head → List ℕ
head_bytes head =
    0x48 ∷ 0x42 ∷ head.version ∷ head.columns ∷ [] ++ (to_be_bytes w32 head.size ++ (to_be_bytes w32 head.rows ++ (to_be_bytes w16 head.bounds ++ 0 ∷ 0 ∷ [])))

-- version 1 has at least one row and no bounds, version 2 at least 16 rows
abbrev pub is_version : ℕ → ℕ → ℕ → Bool
is_version version rows bounds = if version == 2 then nat_le 16 rows else version == 1 && (nat_le 1 rows && bounds == 0)

-- the rules of a head: 1 to 64 columns, and a body of at most 65,520 bytes, of which the bounds are the first
abbrev pub obeys : Head → Bool
obeys head =
    is_version head.version head.rows head.bounds && (nat_le 1 head.columns && (nat_le head.columns 64 && (nat_le head.size 65520 && nat_le head.bounds head.size)))

-- the rows one after the other
abbrev pub body_bytes : List (List Value) → List ℕ
body_bytes rows = flat_map row_bytes rows

-- the bounds as a block of this version has them
abbrev pub bounds_in : ℕ → List Kind → List (List Value) → List ℕ
bounds_in version kinds rows = if version == 2 then bounds_bytes (bounds_of kinds rows) else []

-- the bytes are a block of this head and of just these columns: the head, the bounds, and the rows, which fill it
pub record IsBlockOf (head : Head) (kinds : List Kind) (rows : List (List Value)) (bytes : List ℕ) : Type 0 where
  pub rules : obeys head ≡ true
  pub column_count : head.columns ≡ length kinds
  pub row_count : head.rows ≡ length rows
  pub bounds_length : head.bounds ≡ length (bounds_in head.version kinds rows)
  pub size : head.size ≡ head.bounds + length (body_bytes rows)
  pub storable : AllByRecursion (IsStorable kinds) rows
  pub spelled : bytes ≡ head_bytes head ++ (bounds_in head.version kinds rows ++ body_bytes rows)

-- the row with NULLs up to so many columns
abbrev pub padded : ℕ → List Value → List Value
padded width row = row ++ replicate (width - length row) variant.Null

-- the bytes are a block of the rows: of the first of these columns, the others being NULL
pub record IsBlock (kinds : List Kind) (rows : List (List Value)) (bytes : List ℕ) : Type 0 where
  pub head : Head
  pub own : List (List Value)
  pub within : head.columns ≤ length kinds
  pub is : IsBlockOf head (take head.columns kinds) own bytes
  pub filled : rows ≡ map (padded (length kinds)) own

-- rows are written as version 2 from 16 on
abbrev pub version_of : ℕ → ℕ
version_of rows = if nat_le 16 rows then 2 else 1

-- the bounds that are written
abbrev pub written_bounds : List Kind → List (List Value) → List ℕ
written_bounds kinds rows = bounds_in (version_of (length rows)) kinds rows

abbrev pub head_of : List Kind → List (List Value) → Head
head_of kinds rows = record {
  version = version_of (length rows);
  columns = length kinds;
  size = length (written_bounds kinds rows) + length (body_bytes rows);
  rows = length rows;
  bounds = length (written_bounds kinds rows);
}

-- the block as it is written
abbrev pub block_bytes : List Kind → List (List Value) → List ℕ
block_bytes kinds rows = head_bytes (head_of kinds rows) ++ (written_bounds kinds rows ++ body_bytes rows)

abbrev pub block_length : List Kind → List (List Value) → ℕ
block_length kinds rows = 16 + (length (written_bounds kinds rows) + length (body_bytes rows))

-- the largest of 1 to n with which as many of the first rows make a block of at most 65,536 bytes; one always does
abbrev pub most_fitting : List Kind → List (List Value) → ℕ → ℕ
most_fitting kinds rows zero = 0
most_fitting kinds rows (suc zero) = 1
most_fitting kinds rows (suc (suc n)) = if nat_le (block_length kinds (take (suc (suc n)) rows)) 65536 then suc (suc n) else most_fitting kinds rows (suc n)

-- how many of the first rows one block takes: as many as fit
abbrev pub fitting_a_block : List Kind → List (List Value) → ℕ
fitting_a_block kinds rows = most_fitting kinds rows (length rows)

-- so many blocks of following rows, or fewer where the rows end, each taking as many as fit
abbrev pub packed : List Kind → ℕ → List (List Value) → List ℕ
packed kinds zero rows = []
packed kinds (suc most) [] = []
packed kinds (suc most) (row ∷ rows) =
    block_bytes kinds (take (fitting_a_block kinds (row ∷ rows)) (row ∷ rows)) ++ packed kinds most (drop (fitting_a_block kinds (row ∷ rows)) (row ∷ rows))

-- blocks of following rows, each taking as many as fit; there are no more blocks than rows
abbrev pub pack : List Kind → List (List Value) → List ℕ
pack kinds rows = packed kinds (length rows) rows

-- the joined rows of the blocks whose concatenation is the bytes; a block is its rows and its bytes
abbrev pub FileRows : List Kind → List ℕ → List (List Value) → Type 0
FileRows kinds bytes rows =
    (blocks : List (List (List Value) × List ℕ)) × AllByRecursion (λ block. IsBlock kinds block.0 block.1) blocks × (bytes ≡ flat_map (λ block. block.1) blocks) × (rows ≡ flat_map (λ block. block.0) blocks)
