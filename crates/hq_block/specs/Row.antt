-- Rows in bytes.
--     IsRow kinds row bytes     the bytes spell the row
--     row_bytes row             the spelling of a row
--     row_length row            how many bytes that takes
use Rattle.std.specs.Prelude.{◌≡◌, ℕ, zero, suc, ◌+◌, ◌*◌, ◌/◌, ◌%◌, ◌≤◌, true, false, List, [], ◌∷◌, ◌++◌, length, flat_map, FitsSigned, IsUtf8}
use Rattle.std.specs.List.{AllByRecursion}
use Rattle.std.specs.Int.{to_be_bytes, cast_unsigned, w16, w64}
use Rattle.hq_value.specs.declared.value.Value.{Value}
use Rattle.hq_value.specs.declared.value.Value.TheVariants as variant
use Rattle.hq_value.specs.declared.kind.Kind.{Kind}
use Rattle.hq_value.specs.Kinds.{Fits}

-- an integer has 64 bits, a text is UTF-8 of at most 1,000 bytes
abbrev pub IsInRange : Value → Type 0
IsInRange (variant.Int n) = FitsSigned w64 n
IsInRange (variant.Text text) = (length text ≤ 1000) × IsUtf8 text
IsInRange _ = Unit {0}

-- a value behind the null bitmap: nothing, a byte, 8 bytes, or two bytes of length and the text
abbrev pub value_bytes : Value → List ℕ
value_bytes variant.Null = []
value_bytes (variant.Bool false) = 0 ∷ []
value_bytes (variant.Bool true) = 1 ∷ []
value_bytes (variant.Int n) = to_be_bytes w64 (cast_unsigned w64 n)
value_bytes (variant.Text text) = to_be_bytes w16 (length text) ++ text

-- 1 for NULL
abbrev pub null_flag : Value → ℕ
null_flag variant.Null = 1
null_flag _ = 0

-- the number whose bit i is the flag of column i
abbrev pub null_flags : List Value → ℕ
null_flags [] = 0
null_flags (value ∷ row) = null_flag value + 2 * null_flags row

-- a number in so many bytes, the least significant first
abbrev pub low_bytes : ℕ → ℕ → List ℕ
low_bytes zero n = []
low_bytes (suc count) n = n % 256 ∷ low_bytes count (n / 256)

-- as many bytes as n columns need for a flag each
abbrev pub bitmap_length : ℕ → ℕ
bitmap_length n = (n + 7) / 8

-- column i is bit i mod 8, the least significant first, of byte i / 8; the other bits are 0
abbrev pub null_bitmap : List Value → List ℕ
null_bitmap row = low_bytes (bitmap_length (length row)) (null_flags row)

-- the null bitmap, and the values that are not NULL
abbrev pub row_bytes : List Value → List ℕ
row_bytes row = null_bitmap row ++ flat_map value_bytes row

abbrev pub row_length : List Value → ℕ
row_length row = length (row_bytes row)

-- a row that can be written
pub record IsStorable (kinds : List Kind) (row : List Value) : Type 0 where
  pub fits : Fits kinds row
  pub in_range : AllByRecursion IsInRange row

-- the bytes spell the row
pub record IsRow (kinds : List Kind) (row : List Value) (bytes : List ℕ) : Type 0 where
  pub storable : IsStorable kinds row
  pub spelled : bytes ≡ row_bytes row
