-- Reading from left to right. What is read is a value and the bytes after it, or nothing.
--     Gives view result read    what a function returned, seen by view, is what reading gives
--     Reads view result read    the same, where reading takes no memory
use Rattle.std.specs.Prelude.{◌≡◌, ℕ, zero, suc, ◌+◌, ◌*◌, ◌/◌, ◌%◌, Bool, true, false, ◌&&◌, ◌||◌, List, [], ◌∷◌, ◌++◌, length, take, drop, Option, Some, None, Result, Ok, Err, nat_eq, nat_lt, ◌==◌, if◌then◌else◌}
use Rattle.std.specs.Int.{Width, w16, w32, w64, byte_len, from_be_bytes, cast_signed}
use Rattle.std.specs.Str.{is_utf8}
use Rattle.hq_value.specs.declared.value.Value.{Value}
use Rattle.hq_value.specs.declared.value.Value.TheVariants as variant
use Rattle.hq_value.specs.declared.kind.Kind.{Kind}
use Rattle.hq_value.specs.declared.kind.Kind.TheVariants as kind
use Rattle.hq_block.specs.declared.fault.Misread.{Misread}
use Rattle.hq_block.specs.declared.fault.Misread.TheVariants as misread
use Rattle.std.specs.Cmp.Lexicographic.{pointwise}
use Rattle.std.specs.Ordering.{is_gt}
use Rattle.hq_value.specs.Order.{value_cmp}
use Rattle.hq_block.specs.declared.bounds.Bounds.{Bounds}
use Rattle.hq_block.specs.declared.bounds.Bounds.TheVariants as bound
use Rattle.hq_block.specs.declared.head.Head.{Head}
use Rattle.hq_block.specs.Row.{bitmap_length}
use Rattle.hq_block.specs.Block.{obeys, padded, bounds_in}

infixl 10 ◌>>=◌
abbrev pub ◌>>=◌ : {A B : Type 0} → Option A → (A → Option B) → Option B
(Some x) >>= f = f x
None >>= f = None

-- nothing was read, unless memory ran out
abbrev pub Fails : {Y : Type 0} → Misread → Option Y → Type 0
Fails misread.NoMemory read = Unit {0}
Fails misread.Absent read = read ≡ None

-- what a function returned, seen by view, is what reading gives, unless memory ran out
abbrev pub Gives : {X Y : Type 0} → (X → Y) → Result X Misread → Option Y → Type 0
Gives view (Ok x) read = read ≡ Some (view x)
Gives view (Err e) read = Fails e read

-- the same of what may be read without memory
abbrev pub Reads : {X Y : Type 0} → (X → Y) → Option X → Option Y → Type 0
Reads view (Some x) read = read ≡ Some (view x)
Reads view None read = read ≡ None

-- what was read before, and what is read now
abbrev pub with_front : {A : Type 0} → List A → Option (List A × List ℕ) → Option (List A × List ℕ)
with_front front read = read >>= λ x. Some (front ++ x.0, x.1)

-- the same of a single thing
abbrev pub alone : {A : Type 0} → Option (A × List ℕ) → Option (List A × List ℕ)
alone read = read >>= λ x. Some (x.0 ∷ [], x.1)

-- rows from before, and the ones that are read now
abbrev pub with_rows : {A : Type 0} → List A → Option (List A) → Option (List A)
with_rows front read = read >>= λ rows. Some (front ++ rows)

-- a big-endian number
abbrev pub number_at : Width → List ℕ → Option (ℕ × List ℕ)
number_at w bytes = if nat_lt (length bytes) (byte_len w) then None else Some (from_be_bytes w (take (byte_len w) bytes), drop (byte_len w) bytes)

-- a byte 0 or 1
unfoldable pub bool_at : List ℕ → Option (Value × List ℕ)
bool_at [] = None
bool_at (zero ∷ rest) = Some (variant.Bool false, rest)
bool_at (suc zero ∷ rest) = Some (variant.Bool true, rest)
bool_at (suc (suc b) ∷ rest) = None

-- 8 bytes, two's complement
unfoldable pub int_at : List ℕ → Option (Value × List ℕ)
int_at bytes = do
  n ← number_at w64 bytes
  Some (variant.Int (cast_signed w64 n.0), n.1)

-- two bytes of length, at most 1,000, and that many bytes of UTF-8
unfoldable pub text_at : List ℕ → Option (Value × List ℕ)
text_at bytes = do
  n ← number_at w16 bytes
  if nat_lt 1000 n.0 || nat_lt (length n.1) n.0 then None else if is_utf8 (take n.0 n.1) then Some (variant.Text (take n.0 n.1), drop n.0 n.1) else None

unfoldable pub value_at : Kind → List ℕ → Option (Value × List ℕ)
value_at kind.Bool bytes = bool_at bytes
value_at kind.Int bytes = int_at bytes
value_at kind.Text bytes = text_at bytes

-- a column: its flag is 1 for NULL, else its value stands next
unfoldable pub column_at : Kind → Bool → List ℕ → Option (Value × List ℕ)
column_at k is_null bytes = if is_null then Some (variant.Null, bytes) else value_at k bytes

-- the number of which these are the bytes, the least significant first
abbrev pub low_number : List ℕ → ℕ
low_number [] = 0
low_number (b ∷ bytes) = b + 256 * low_number bytes

-- the columns with these flags, after which no flag is left
unfoldable pub columns_at : List Kind → ℕ → List ℕ → Option (List Value × List ℕ)
columns_at [] flags bytes = if flags == 0 then Some ([], bytes) else None
columns_at (k ∷ kinds) flags bytes = do
  first ← column_at k (flags % 2 == 1) bytes
  others ← columns_at kinds (flags / 2) first.1
  Some (first.0 ∷ others.0, others.1)

unfoldable pub row_at : List Kind → List ℕ → Option (List Value × List ℕ)
row_at kinds bytes =
    let width : ℕ = bitmap_length (length kinds) in
    if nat_lt (length bytes) width then None else columns_at kinds (low_number (take width bytes)) (drop width bytes)

-- the same where the flags are one byte
abbrev pub byte_row_at : List Kind → List ℕ → Option (List Value × List ℕ)
byte_row_at kinds [] = None
byte_row_at kinds (flags ∷ bytes) = columns_at kinds flags bytes

-- a row of these columns, with NULLs up to so many
unfoldable pub wide_row_at : List Kind → ℕ → List ℕ → Option (List Value × List ℕ)
wide_row_at kinds width bytes = do
  row ← row_at kinds bytes
  Some (padded width row.0, row.1)

-- so many of them
unfoldable pub rows_at : List Kind → ℕ → ℕ → List ℕ → Option (List (List Value) × List ℕ)
rows_at kinds width zero bytes = Some ([], bytes)
rows_at kinds width (suc count) bytes = do
  first ← wide_row_at kinds width bytes
  others ← rows_at kinds width count first.1
  Some (first.0 ∷ others.0, others.1)

-- these very bytes
abbrev pub after : List ℕ → List ℕ → Option (List ℕ)
after [] bytes = Some bytes
after (e ∷ expected) [] = None
after (e ∷ expected) (b ∷ bytes) = if b == e then after expected bytes else None

abbrev pub byte_at : List ℕ → Option (ℕ × List ℕ)
byte_at [] = None
byte_at (b ∷ bytes) = Some (b, bytes)

-- the 16 bytes of a block's head
unfoldable pub fields_at : List ℕ → Option (Head × List ℕ)
fields_at bytes = do
  signed ← after (0x48 ∷ 0x42 ∷ []) bytes
  version ← byte_at signed
  columns ← byte_at version.1
  size ← number_at w32 columns.1
  rows ← number_at w32 size.1
  bounds ← number_at w16 rows.1
  body ← after (0 ∷ 0 ∷ []) bounds.1
  Some (record { version = version.0; columns = columns.0; size = size.0; rows = rows.0; bounds = bounds.0 }, body)

-- a head that obeys the rules
unfoldable pub head_at : List ℕ → Option (Head × List ℕ)
head_at bytes = do
  head ← fields_at bytes
  if obeys head.0 then Some (head.0, head.1) else None

-- the rows of a body, of which the bounds are the first bytes
unfoldable pub rows_in : List Kind → ℕ → Head → List ℕ → Option (List (List Value))
rows_in kinds width head body = do
  rows ← rows_at kinds width head.rows (drop head.bounds body)
  if length rows.1 == 0 && pointwise nat_eq (bounds_in head.version kinds rows.0) (take head.bounds body) then Some rows.0 else None

-- a block of the first of these columns, whose body does not pass the end
unfoldable pub block_at : List Kind → List ℕ → Option (List (List Value) × List ℕ)
block_at kinds bytes = do
  head ← head_at bytes
  if nat_lt (length kinds) head.0.columns || nat_lt (length head.1) head.0.size then None else (rows_in (take head.0.columns kinds) (length kinds) head.0 (take head.0.size head.1) >>= λ rows. Some (rows, drop head.0.size head.1))

-- a least value and a greatest, which is not below it
unfoldable pub range_at : Kind → List ℕ → Option (Bounds × List ℕ)
range_at k bytes = do
  least ← value_at k bytes
  greatest ← value_at k least.1
  if is_gt (value_cmp least.0 greatest.0) then None else Some (bound.Range least.0 greatest.0, greatest.1)

-- the bounds of a column that may have a range
abbrev pub ranged_at : Kind → List ℕ → Option (Bounds × List ℕ)
ranged_at k [] = None
ranged_at k (zero ∷ bytes) = Some (bound.Empty, bytes)
ranged_at k (suc zero ∷ bytes) = range_at k bytes
ranged_at k (suc (suc b) ∷ bytes) = None

abbrev pub text_bound_at : List ℕ → Option (Bounds × List ℕ)
text_bound_at [] = None
text_bound_at (zero ∷ bytes) = None
text_bound_at (suc zero ∷ bytes) = None
text_bound_at (suc (suc zero) ∷ bytes) = Some (bound.Text, bytes)
text_bound_at (suc (suc (suc b)) ∷ bytes) = None

-- the bounds of a column
unfoldable pub bound_at : Kind → List ℕ → Option (Bounds × List ℕ)
bound_at kind.Text bytes = text_bound_at bytes
bound_at kind.Bool bytes = ranged_at kind.Bool bytes
bound_at kind.Int bytes = ranged_at kind.Int bytes

-- the bounds of columns
unfoldable pub bounds_at : List Kind → List ℕ → Option (List Bounds × List ℕ)
bounds_at [] bytes = Some ([], bytes)
bounds_at (k ∷ kinds) bytes = do
  first ← bound_at k bytes
  others ← bounds_at kinds first.1
  Some (first.0 ∷ others.0, others.1)

-- the bounds of columns, and nothing after them
unfoldable pub all_bounds_at : List Kind → List ℕ → Option (List Bounds)
all_bounds_at kinds bytes = do
  bounds ← bounds_at kinds bytes
  if length bounds.1 == 0 then Some bounds.0 else None

-- the bounds of a head: version 1 has none
abbrev pub head_bounds_at : ℕ → List Kind → List ℕ → Option (List Bounds)
head_bounds_at version kinds bytes = if version == 2 then all_bounds_at kinds bytes else Some []
