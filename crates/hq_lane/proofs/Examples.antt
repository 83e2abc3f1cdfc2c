-- The definitions at small places, and at what is none.
use Rattle.std.proofs.Common.{◌≡◌, ℕ, ◌<◌, true, false, Some, None, List, [], ◌∷◌, ◌++◌, length, map, pos, refl, ap, arith, lit<}
use Rattle.std.specs.Prelude.{sum_by}
use Rattle.hq_value.specs.declared.entry.FileId.{FileId}
use Rattle.hq_value.specs.declared.value.Value.TheVariants as variant
use Rattle.hq_value.specs.declared.kind.Kind.TheVariants as kind
use Rattle.hq_value.specs.declared.operator.CompareKind.TheVariants as compare
use Rattle.hq_store.specs.FileStep.{FileState}
use Rattle.hq_block.specs.declared.bounds.Bounds.TheVariants as bound
use Rattle.hq_block.specs.declared.skip.ColumnTest.{ColumnTest}
use Rattle.hq_block.specs.Reading.{block_at, head_at, fields_at, rows_in, rows_at, wide_row_at, row_at, columns_at, column_at, value_at, int_at}
use Rattle.hq_lane.specs.FileBlocks.{FileBlock, bytes_read, kept_rows, read_sum}
use Rattle.hq_lane.specs.BucketFiles.{BucketState, base_bytes, own_bytes, good_bytes, is_clean, published, IsGrown, IsCutBack, IsTornBack}
use Rattle.hq_lane.specs.Lanes.{are_clean, no_files}

abbrev here : FileId
here = record { table = 5; lane = 0; bucket = 3 }

abbrev file : List ℕ → ℕ → FileState
file bytes sure = record { id = here; bytes = bytes; sure = sure; sealed = 2; flushed = false }

-- two bytes are committed, and two more are whole blocks
abbrev grown : BucketState
grown = record { id = here; file = Some (file (1 ∷ 2 ∷ 3 ∷ 4 ∷ []) 4); base = 2; good = 4; torn = false; fresh = None }

-- an append to it has failed
abbrev torn : BucketState
torn = record { id = here; file = Some (file (1 ∷ 2 ∷ 3 ∷ 4 ∷ 9 ∷ []) 4); base = 2; good = 4; torn = true; fresh = None }

-- it was cut back
abbrev cut : BucketState
cut = record { id = here; file = Some (file (1 ∷ 2 ∷ []) 2); base = 2; good = 2; torn = false; fresh = None }

-- it was cut below what is committed
abbrev cut_short : BucketState
cut_short = record { id = here; file = Some (file (1 ∷ []) 1); base = 2; good = 2; torn = false; fresh = None }

committed : base_bytes torn ≡ 1 ∷ 2 ∷ []
committed = refl

own : own_bytes torn ≡ 3 ∷ 4 ∷ []
own = refl

whole : good_bytes torn ≡ 1 ∷ 2 ∷ 3 ∷ 4 ∷ []
whole = refl

empty_is_clean : are_clean (no_files 5 0) ≡ true
empty_is_clean = refl

cut_is_clean : is_clean cut ≡ true
cut_is_clean = refl

grown_is_not : is_clean grown ≡ false
grown_is_not = refl

torn_is_not : is_clean (record cut { torn = true }) ≡ false
torn_is_not = refl

grows : IsGrown true (record cut { base = 2 }) (3 ∷ 4 ∷ []) grown
grows = record { id = refl; bytes = λ t. refl; own = λ t. refl; committed = λ t. refl; good = refl; base = refl; fresh = refl }

is_cut_back : IsCutBack true torn cut
is_cut_back = record { id = refl; bytes = λ t. refl; good = refl; base = refl; torn = refl; fresh = refl }

-- lists of two lengths are two
not_as_long : (xs ys : List ℕ) → xs ≡ ys → length xs < length ys → ⊥
not_as_long xs ys same shorter = let equal : length xs ≡ length ys = ap length same in omega arith

-- a cut never loses committed bytes
is_not_cut_back : IsCutBack true torn cut_short → ⊥
is_not_cut_back is = not_as_long (1 ∷ []) (1 ∷ 2 ∷ []) (is.bytes refl) (lit< tt)

-- a cut that fails may leave any bytes behind the committed ones
is_torn_back : IsTornBack true grown (record torn { good = 2 })
is_torn_back = record { id = refl; bytes = λ t. refl; good = refl; base = refl; torn = refl; fresh = refl }

-- what is under a seal is committed
is_published : published (record grown { fresh = Some (record { id = here; bytes = 1 ∷ 2 ∷ 3 ∷ 4 ∷ []; len = 4 }) }) ≡ record grown { base = 4 }
is_published = refl

-- a block of 16 rows of a number, of which these are the least and the greatest
abbrev sixteen_rows : ℕ × ℕ → FileBlock
sixteen_rows ends = record { head = record { columns = 1; length = 177; bounds = bound.Range (variant.Int (pos ends.0)) (variant.Int (pos ends.1)) ∷ [] }; rows = [] }

-- the numbers 0 to 255 by their buckets
abbrev by_buckets : List FileBlock
by_buckets = map sixteen_rows ((4, 244) ∷ (15, 255) ∷ (2, 242) ∷ (5, 245) ∷ (8, 248) ∷ (3, 243) ∷ (6, 246) ∷ (9, 249) ∷ (12, 252) ∷ (7, 247) ∷ (10, 250) ∷ (13, 253) ∷ (0, 240) ∷ (11, 251) ∷ (14, 254) ∷ (1, 241) ∷ [])

abbrev above : ℕ → ColumnTest
above n = record { column = 0; compare = compare.Greater; value = variant.Int (pos n) }

-- those above 250 lie in five blocks, which are read; of the other eleven just the heads and bounds are
five_of_sixteen : sum_by (bytes_read (above 250 ∷ [])) by_buckets ≡ 1248
five_of_sixteen = refl

all_of_sixteen : sum_by (bytes_read []) by_buckets ≡ 2832
all_of_sixteen = refl

-- a block of one row has no bounds, and is read
abbrev one_row : List ℕ
one_row = 0x48 ∷ 0x42 ∷ 1 ∷ 1 ∷ 0 ∷ 0 ∷ 0 ∷ 9 ∷ 0 ∷ 0 ∷ 0 ∷ 1 ∷ 0 ∷ 0 ∷ 0 ∷ 0 ∷ 0 ∷ 0 ∷ 0 ∷ 0 ∷ 0 ∷ 0 ∷ 0 ∷ 0 ∷ 1 ∷ []

one_row_read : kept_rows (above 7 ∷ []) (kind.Int ∷ []) (one_row ++ one_row) ≡ (variant.Int (pos 1) ∷ []) ∷ (variant.Int (pos 1) ∷ []) ∷ []
unfolding block_at head_at fields_at rows_in rows_at wide_row_at row_at columns_at column_at value_at int_at
one_row_read = refl

one_row_length : read_sum (above 7 ∷ []) (kind.Int ∷ []) (one_row ++ one_row) ≡ 50
unfolding block_at head_at fields_at rows_in rows_at wide_row_at row_at columns_at column_at value_at int_at
one_row_length = refl
