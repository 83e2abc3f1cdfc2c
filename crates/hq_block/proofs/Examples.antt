-- The definitions on worked rows and blocks, and on wrong ones.
use Rattle.std.proofs.Common.{◌≡◌, ℕ, true, false, pos, Some, None, List, [], ◌∷◌, take, map, refl}
use Rattle.hq_value.specs.declared.value.Value.{Value}
use Rattle.hq_value.specs.declared.value.Value.TheVariants as variant
use Rattle.hq_value.specs.declared.kind.Kind.TheVariants as kind
use Rattle.hq_value.specs.declared.operator.CompareKind.TheVariants as compare
use Rattle.hq_block.specs.declared.bounds.Bounds.TheVariants as bound
use Rattle.hq_block.specs.declared.skip.ColumnTest.{ColumnTest}
use Rattle.hq_block.specs.Row.{row_bytes}
use Rattle.hq_block.specs.Bounds.{bounds_of}
use Rattle.hq_block.specs.Block.{block_bytes, block_length, pack, IsBlock}
use Rattle.hq_block.specs.Skipping.{skips}
use Rattle.hq_block.specs.Reading.{block_at, head_at, fields_at, rows_in, rows_at, wide_row_at, row_at, columns_at, column_at, value_at, int_at, bounds_at, bound_at, range_at}
use Rattle.hq_block.proofs.BlockLaws.{no_block}

abbrev int : ℕ → List Value
int n = variant.Int (pos n) ∷ []

one_row : row_bytes (int 1) ≡ 0 ∷ 0 ∷ 0 ∷ 0 ∷ 0 ∷ 0 ∷ 0 ∷ 0 ∷ 1 ∷ []
one_row = refl

one_block : List ℕ
one_block = 0x48 ∷ 0x42 ∷ 1 ∷ 1 ∷ 0 ∷ 0 ∷ 0 ∷ 9 ∷ 0 ∷ 0 ∷ 0 ∷ 1 ∷ 0 ∷ 0 ∷ 0 ∷ 0 ∷ 0 ∷ 0 ∷ 0 ∷ 0 ∷ 0 ∷ 0 ∷ 0 ∷ 0 ∷ 1 ∷ []

one_block-written : block_bytes (kind.Int ∷ []) (int 1 ∷ []) ≡ one_block
unfolding one_block
one_block-written = refl

two_rows_packed : pack (kind.Int ∷ []) (int 1 ∷ int 1 ∷ []) ≡ block_bytes (kind.Int ∷ []) (int 1 ∷ int 1 ∷ [])
two_rows_packed = refl

one_block-read : block_at (kind.Int ∷ []) one_block ≡ Some (int 1 ∷ [], [])
unfolding one_block block_at head_at fields_at rows_in rows_at wide_row_at row_at columns_at column_at value_at int_at
one_block-read = refl

-- a column that the block lacks is NULL
one_block-widened : block_at (kind.Int ∷ kind.Text ∷ []) one_block ≡ Some ((variant.Int (pos 1) ∷ variant.Null ∷ []) ∷ [], [])
unfolding one_block block_at head_at fields_at rows_in rows_at wide_row_at row_at columns_at column_at value_at int_at
one_block-widened = refl

-- nine columns, of which the first and the last are NULL
nine_columns : row_bytes (variant.Null ∷ variant.Bool true ∷ variant.Bool true ∷ variant.Bool true ∷ variant.Bool true ∷ variant.Bool true ∷ variant.Bool true ∷ variant.Bool true ∷ variant.Null ∷ []) ≡ 1 ∷ 1 ∷ 1 ∷ 1 ∷ 1 ∷ 1 ∷ 1 ∷ 1 ∷ 1 ∷ []
nine_columns = refl

-- a flag of a second column, of which there is none
wrong_block : List ℕ
wrong_block = 0x48 ∷ 0x42 ∷ 1 ∷ 1 ∷ 0 ∷ 0 ∷ 0 ∷ 9 ∷ 0 ∷ 0 ∷ 0 ∷ 1 ∷ 0 ∷ 0 ∷ 0 ∷ 0 ∷ 2 ∷ 0 ∷ 0 ∷ 0 ∷ 0 ∷ 0 ∷ 0 ∷ 0 ∷ 1 ∷ []

wrong_block-not_read : block_at (kind.Int ∷ []) wrong_block ≡ None
unfolding wrong_block block_at head_at fields_at rows_in rows_at wide_row_at row_at columns_at column_at value_at int_at
wrong_block-not_read = refl

wrong_block-is_none : (rows : List (List Value)) → IsBlock (kind.Int ∷ []) rows wrong_block → ⊥
unfolding wrong_block
wrong_block-is_none rows is = no_block (kind.Int ∷ []) wrong_block wrong_block-not_read rows 25 is

-- the rows 1 to 16 have bounds: a least value 1 and a greatest 16
abbrev sixteen : List (List Value)
sixteen = map int (1 ∷ 2 ∷ 3 ∷ 4 ∷ 5 ∷ 6 ∷ 7 ∷ 8 ∷ 9 ∷ 10 ∷ 11 ∷ 12 ∷ 13 ∷ 14 ∷ 15 ∷ 16 ∷ [])

sixteen-front : take 33 (block_bytes (kind.Int ∷ []) sixteen)
    ≡ 0x48 ∷ 0x42 ∷ 2 ∷ 1 ∷ 0 ∷ 0 ∷ 0 ∷ 0xA1 ∷ 0 ∷ 0 ∷ 0 ∷ 0x10 ∷ 0 ∷ 0x11 ∷ 0 ∷ 0 ∷ 1 ∷ 0 ∷ 0 ∷ 0 ∷ 0 ∷ 0 ∷ 0 ∷ 0 ∷ 1 ∷ 0 ∷ 0 ∷ 0 ∷ 0 ∷ 0 ∷ 0 ∷ 0 ∷ 16 ∷ []
sixteen-front = refl

sixteen-length : block_length (kind.Int ∷ []) sixteen ≡ 177
sixteen-length = refl

-- a bound that is neither 0 nor 1
bounds-of_3 : bounds_at (kind.Int ∷ []) (3 ∷ 0 ∷ 0 ∷ 0 ∷ 0 ∷ 0 ∷ 0 ∷ 0 ∷ 1 ∷ 0 ∷ 0 ∷ 0 ∷ 0 ∷ 0 ∷ 0 ∷ 0 ∷ 16 ∷ []) ≡ None
unfolding bounds_at bound_at range_at
bounds-of_3 = refl

-- NULL is no bound, and a column of NULLs has none
bounds-of_nulls : bounds_of (kind.Int ∷ kind.Bool ∷ kind.Text ∷ []) ((variant.Null ∷ variant.Null ∷ variant.Null ∷ []) ∷ (variant.Int (pos 5) ∷ variant.Null ∷ variant.Null ∷ []) ∷ []) ≡ bound.Range (variant.Int (pos 5)) (variant.Int (pos 5)) ∷ bound.Empty ∷ bound.Text ∷ []
bounds-of_nulls = refl

-- rows above 16 are not in the block, rows above 15 may be
abbrev above : ℕ → ColumnTest
above n = record { column = 0; compare = compare.Greater; value = variant.Int (pos n) }

skips-above_16 : skips (above 16 ∷ []) (bounds_of (kind.Int ∷ []) sixteen) ≡ true
skips-above_16 = refl

keeps-above_15 : skips (above 15 ∷ []) (bounds_of (kind.Int ∷ []) sixteen) ≡ false
keeps-above_15 = refl

-- a column that the block lacks passes nothing
skips-missing : skips (record { column = 1; compare = compare.NotEqual; value = variant.Int (pos 0) } ∷ []) (bounds_of (kind.Int ∷ []) sixteen) ≡ true
skips-missing = refl
