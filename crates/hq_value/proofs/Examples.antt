-- The definitions on small values, and on wrong ones.
use Rattle.std.proofs.Common.{◌≡◌, ◌≢◌, ℕ, true, false, Some, None, List, [], ◌∷◌, pos, negsuc, refl}
use Rattle.std.specs.declared.cmp.Ordering.TheVariants.{Less, Greater}
use Rattle.hq_value.specs.declared.value.Value.{Value}
use Rattle.hq_value.specs.declared.value.Value.TheVariants as value
use Rattle.hq_value.specs.declared.kind.Kind.TheVariants as kind
use Rattle.hq_value.specs.declared.table.Column.{Column}
use Rattle.hq_value.specs.declared.table.ColumnFault.TheVariants as fault
use Rattle.hq_value.specs.Bucket.{key_bytes, bucket_of, bucket_at, share}
use Rattle.hq_value.specs.Kinds.{Fits, fits}
use Rattle.hq_value.specs.Order.{row_cmp, in_row_order}
use Rattle.hq_value.specs.Tables.{Definition, column_refusal, with_column}

abbrev one : ℕ → List Value
one n = value.Int (pos n) ∷ []

-- the buckets of the keys 1 to 4, of NULL and of 'a'
bucket-of_1 : bucket_of (one 1) (0 ∷ []) ≡ 15
bucket-of_1 = refl

bucket-of_2 : bucket_of (one 2) (0 ∷ []) ≡ 2
bucket-of_2 = refl

bucket-of_3 : bucket_of (one 3) (0 ∷ []) ≡ 5
bucket-of_3 = refl

bucket-of_4 : bucket_of (one 4) (0 ∷ []) ≡ 0
bucket-of_4 = refl

bucket-of_null : bucket_of (value.Null ∷ []) (0 ∷ []) ≡ 15
bucket-of_null = refl

bucket-of_a : bucket_of (value.Text (97 ∷ []) ∷ []) (0 ∷ []) ≡ 10
bucket-of_a = refl

-- without keys a row goes by its place
bucket-by_place : bucket_at [] 17 (one 1) ≡ 1
bucket-by_place = refl

share-of_keys : share (0 ∷ []) (one 1 ∷ one 2 ∷ (value.Null ∷ []) ∷ []) 15 ≡ one 1 ∷ (value.Null ∷ []) ∷ []
share-of_keys = refl

share-by_place : share [] (one 7 ∷ one 8 ∷ []) 1 ≡ one 8 ∷ []
share-by_place = refl

key-of_minus_2 : key_bytes (value.Int (negsuc 1)) ≡ 1 ∷ 255 ∷ 255 ∷ 255 ∷ 255 ∷ 255 ∷ 255 ∷ 255 ∷ 254 ∷ []
key-of_minus_2 = refl

key-of_ab : key_bytes (value.Text (97 ∷ 98 ∷ [])) ≡ 1 ∷ 0 ∷ 2 ∷ 97 ∷ 98 ∷ []
key-of_ab = refl

-- a row comes before those that it begins, and NULL last
prefix-first : row_cmp (one 1) (value.Int (pos 1) ∷ value.Null ∷ []) ≡ Less
prefix-first = refl

null-last : row_cmp (value.Null ∷ []) (value.Text (97 ∷ []) ∷ []) ≡ Greater
null-last = refl

sorted-rows : in_row_order ((value.Null ∷ []) ∷ one 2 ∷ (value.Bool true ∷ []) ∷ one 1 ∷ []) ≡ (value.Bool true ∷ []) ∷ one 1 ∷ one 2 ∷ (value.Null ∷ []) ∷ []
sorted-rows = refl

-- NULL fits each kind, and a row as wide as the kinds
fits-null : fits (kind.Int ∷ kind.Text ∷ []) (value.Null ∷ value.Text [] ∷ []) ≡ true
fits-null = refl

fits-no_text : fits (kind.Int ∷ []) (value.Text [] ∷ []) ≡ false
fits-no_text = refl

fits-not_shorter : fits (kind.Int ∷ kind.Text ∷ []) (one 1) ≡ false
fits-not_shorter = refl

abbrev column : ℕ → Column
column letter = record { name = letter ∷ []; kind = kind.Int; not_null = false }

abbrev table : Definition
table = record { name = 116 ∷ []; columns = column 97 ∷ []; keys = 0 ∷ [] }

-- a column of a new name is added last, and one whose name is there is refused
column-added : column_refusal table (column 98) ≡ None
column-added = refl

column-last : (with_column table (column 98)).columns ≡ column 97 ∷ column 98 ∷ []
column-last = refl

column-there : column_refusal table (column 97) ≡ Some fault.ColumnThere
column-there = refl
