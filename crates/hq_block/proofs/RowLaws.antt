-- A row that is read is spelled so, and what is spelled so is read.
use Rattle.std.proofs.Common.{◌≡◌, ℕ, zero, suc, ◌+◌, ◌-◌, ◌*◌, ◌/◌, ◌%◌, ◌^◌, ◌<◌, ◌≤◌, true, false, cond, nat_eq, ltb, List, [], ◌∷◌, ◌++◌, length, get_or, take, drop, Option, Some, None, refl, sym, ap, subst, ◌∙◌, append_assoc, arith}
use Rattle.std.specs.Prelude.{flat_map}
use Rattle.std.proofs.Math.Nat.{pow-suc, zero-div}
use Rattle.std.proofs.lemmas.Nat.{pow-add, shr-shr}
use Rattle.std.proofs.lemmas.Bool.{ltb-false, le-ltb}
use Rattle.std.proofs.lemmas.Bool.Decides.{nat_tests}
use Rattle.std.proofs.lemmas.List.{take_at, drop_at, take-append-drop, length-append, length-take}
use Rattle.hq_value.specs.declared.value.Value.{Value}
use Rattle.hq_value.specs.declared.value.Value.TheVariants as variant
use Rattle.hq_value.specs.declared.kind.Kind.{Kind}
use Rattle.hq_block.specs.declared.fault.Misread.{Misread}
use Rattle.hq_block.specs.declared.fault.Misread.TheVariants as misread
use Rattle.hq_block.specs.declared.fault.RowFault.TheVariants as fault
use Rattle.hq_block.specs.Fault.{row_fault}
use Rattle.hq_block.specs.Row.{IsStorable, IsRow, value_bytes, null_flag, null_flags, null_bitmap, low_bytes, bitmap_length, row_bytes}
use Rattle.hq_block.specs.Reading.{◌>>=◌, Fails, low_number, column_at, columns_at, row_at}
use Rattle.hq_block.proofs.Flags.{IsBytes, flag_is, null_flag-below, null_flags-below}
use Rattle.hq_block.proofs.Lengths.{length-low_bytes, length-Fits}
use Rattle.hq_block.proofs.Numbers.{IsBytes-drop, IsBytes-take, Takes, bind_some, guard_none, guard_some, some_is, low_bytes-low_number, low_number-low_bytes}
use Rattle.hq_block.proofs.Values.{column_takes, column_again}

-- the values of columns with these flags were taken from the front
pub record TakesColumns (kinds : List Kind) (flags : ℕ) (bytes : List ℕ) (row : List Value) (rest : List ℕ) : Type 0 where
  pub takes : Takes bytes (flat_map value_bytes row) rest
  pub storable : IsStorable kinds row
  pub flags_are : null_flags row ≡ flags

last_bit : (n : ℕ) → cond (nat_eq (n % 2) 1) 1 0 ≡ n % 2
last_bit n = by (n % 2) (omega arith)
  where
    by : (r : ℕ) → r < 2 → cond (nat_eq r 1) 1 0 ≡ r
    by zero h = refl
    by (suc zero) h = refl
    by (suc (suc r)) h = absurd (omega arith)

nothing_left : (n : ℕ) → nat_eq n 0 ≡ true → 0 ≡ n
nothing_left n e = grind (arith, nat_tests, e)

columns_takes : (kinds : List Kind) (flags : ℕ) (bytes : List ℕ) (x : List Value × List ℕ) → IsBytes bytes → columns_at kinds flags bytes ≡ Some x → TakesColumns kinds flags bytes x.0 x.1
unfolding columns_at
columns_takes [] flags bytes x fits e =
    let g = guard_some (nat_eq flags 0) (Some ([], bytes)) x e in
    subst (λ (y : List Value × List ℕ). TakesColumns [] flags bytes y.0 y.1) (some_is ([], bytes) x g.1)
    (record { takes = record { parts = refl; rest_fits = fits }; storable = record { fits = tt; in_range = tt }; flags_are = nothing_left flags g.0 })
columns_takes (k ∷ kinds) flags bytes x fits e =
    let a = bind_some (column_at k (nat_eq (flags % 2) 1) bytes) (λ first. columns_at kinds (flags / 2) first.1 >>= λ others. Some (first.0 ∷ others.0, others.1)) x e in
    let value = a.0.0 in
    let middle = a.0.1 in
    let b = bind_some (columns_at kinds (flags / 2) middle) (λ others. Some (value ∷ others.0, others.1)) x a.2 in
    let row = b.0.0 in
    let rest = b.0.1 in
    let t = column_takes k (nat_eq (flags % 2) 1) bytes (value, middle) fits a.1 in
    let u = columns_takes kinds (flags / 2) middle (row, rest) t.takes.rest_fits b.1 in
    let whole : bytes ≡ (value_bytes value ++ flat_map value_bytes row) ++ rest =
    t.takes.parts ∙ ap (λ (l : List ℕ). value_bytes value ++ l) u.takes.parts ∙ sym (append_assoc (value_bytes value) (flat_map value_bytes row) rest) in
    let flag : null_flag value ≡ flags % 2 = t.flag ∙ last_bit flags in
    let all_flags : null_flag value + 2 * null_flags row ≡ flags = omega (arith, flag, u.flags_are) in
    subst (λ (y : List Value × List ℕ). TakesColumns (k ∷ kinds) flags bytes y.0 y.1) (some_is (value ∷ row, rest) x b.2)
    (record { takes = record { parts = whole; rest_fits = u.takes.rest_fits }; storable = record { fits = (t.of_kind, u.storable.fits); in_range = (t.in_range, u.storable.in_range) }; flags_are = all_flags })

columns_again : (kinds : List Kind) (row : List Value) (rest : List ℕ) → IsStorable kinds row → columns_at kinds (null_flags row) (flat_map value_bytes row ++ rest) ≡ Some (row, rest)
unfolding columns_at
columns_again [] [] rest ok = refl
columns_again [] (value ∷ row) rest ok = absurd ok.fits
columns_again (k ∷ kinds) [] rest ok = absurd ok.fits
columns_again (k ∷ kinds) (value ∷ row) rest ok =
    let flags : ℕ = null_flag value + 2 * null_flags row in
    let below = null_flag-below value in
    let low : flags % 2 ≡ null_flag value = omega (arith, below) in
    let high : flags / 2 ≡ null_flags row = omega (arith, below) in
    let flag : null_flag value ≡ cond (nat_eq (flags % 2) 1) 1 0 = sym (last_bit flags ∙ low) in
    let first : column_at k (nat_eq (flags % 2) 1) (value_bytes value ++ (flat_map value_bytes row ++ rest)) ≡ Some (value, flat_map value_bytes row ++ rest) = column_again k (nat_eq (flags % 2) 1) value (flat_map value_bytes row ++ rest) ok.fits.0 ok.in_range.0 flag in
    let others : columns_at kinds (flags / 2) (flat_map value_bytes row ++ rest) ≡ Some (row, rest) =
    ap (λ (n : ℕ). columns_at kinds n (flat_map value_bytes row ++ rest)) high ∙ columns_again kinds row rest (record { fits = ok.fits.1; in_range = ok.in_range.1 }) in
    ap (λ (l : List ℕ). columns_at (k ∷ kinds) flags l) (append_assoc (value_bytes value) (flat_map value_bytes row) rest)
    ∙ ap (λ (r : Option (Value × List ℕ)). r >>= λ x. columns_at kinds (flags / 2) x.1 >>= λ y. Some (x.0 ∷ y.0, y.1)) first
    ∙ ap (λ (r : Option (List Value × List ℕ)). r >>= λ y. Some (value ∷ y.0, y.1)) others

-- a row was taken from the front
pub record TakesRow (kinds : List Kind) (bytes : List ℕ) (row : List Value) (rest : List ℕ) : Type 0 where
  pub takes : Takes bytes (row_bytes row) rest
  pub storable : IsStorable kinds row

pub row_takes : (kinds : List Kind) (bytes : List ℕ) (x : List Value × List ℕ) → IsBytes bytes → row_at kinds bytes ≡ Some x → TakesRow kinds bytes x.0 x.1
unfolding row_at
row_takes kinds bytes x fits e =
    let count : ℕ = bitmap_length (length kinds) in
    let g = guard_none (ltb (length bytes) count) (columns_at kinds (low_number (take count bytes)) (drop count bytes)) x e in
    let long : count ≤ length bytes = ltb-false _ _ g.0 in
    let t = columns_takes kinds (low_number (take count bytes)) (drop count bytes) x (IsBytes-drop count bytes fits) g.1 in
    let bitmap : null_bitmap x.0 ≡ take count bytes =
    (λ i. low_bytes (bitmap_length (length-Fits kinds x.0 t.storable.fits i)) (t.flags_are i)) ∙ low_bytes-low_number count (take count bytes) (omega (arith, length-take count bytes)) (IsBytes-take count bytes fits) in
    let whole : bytes ≡ (take count bytes ++ flat_map value_bytes x.0) ++ x.1 =
    sym (take-append-drop count bytes) ∙ ap (λ (l : List ℕ). take count bytes ++ l) t.takes.parts ∙ sym (append_assoc (take count bytes) (flat_map value_bytes x.0) x.1) in
    record { takes = record { parts = whole ∙ ap (λ (l : List ℕ). (l ++ flat_map value_bytes x.0) ++ x.1) (sym bitmap); rest_fits = t.takes.rest_fits }; storable = t.storable }

pow_256 : (count : ℕ) → 256 ^ count ≡ 2 ^ (8 * count)
pow_256 zero = refl
pow_256 (suc count) =
    pow-suc 256 count ∙ ap (λ (n : ℕ). n * 256) (pow_256 count) ∙ sym (pow-add 2 (8 * count) 8) ∙ ap (λ (k : ℕ). 2 ^ k) (let e : 8 * count + 8 ≡ 8 * suc count = omega arith in e)

-- the bitmap has the flags
flags_in_bitmap : (row : List Value) → low_number (null_bitmap row) ≡ null_flags row
flags_in_bitmap row =
    let below : null_flags row < 256 ^ bitmap_length (length row) = subst (λ (n : ℕ). null_flags row < n) (sym (pow_256 (bitmap_length (length row)))) (null_flags-below (8 * bitmap_length (length row)) row (omega arith)) in
    low_number-low_bytes (bitmap_length (length row)) (null_flags row) below

null_flags-bit : (row : List Value) (i : ℕ) → null_flags row / 2 ^ i % 2 ≡ null_flag (get_or row i (variant.Bool false))
null_flags-bit [] i = ap (λ (n : ℕ). n % 2) (zero-div (2 ^ i))
null_flags-bit (value ∷ row) zero = omega (arith, null_flag-below value)
null_flags-bit (value ∷ row) (suc i) =
    let half : (null_flag value + 2 * null_flags row) / 2 ≡ null_flags row = omega (arith, null_flag-below value) in
    ap (λ (k : ℕ). (null_flag value + 2 * null_flags row) / 2 ^ k % 2) (let e : suc i ≡ 1 + i = omega arith in e)
    ∙ ap (λ (n : ℕ). n % 2) (sym (shr-shr (null_flag value + 2 * null_flags row) 1 i))
    ∙ ap (λ (n : ℕ). n / 2 ^ i % 2) half ∙ null_flags-bit row i

IsBytes-low_bytes : (count n : ℕ) → IsBytes (low_bytes count n)
IsBytes-low_bytes zero n i = omega arith
IsBytes-low_bytes (suc count) n zero = omega arith
IsBytes-low_bytes (suc count) n (suc i) = IsBytes-low_bytes count (n / 256) i

-- column i is bit i mod 8 of byte i / 8, and the other bits are 0
pub null_bitmap-bit : (row : List Value) (i : ℕ) → get_or (null_bitmap row) (i / 8) 0 / 2 ^ (i % 8) % 2 ≡ null_flag (get_or row i (variant.Bool false))
null_bitmap-bit row i =
    sym (flag_is (null_bitmap row) i (IsBytes-low_bytes (bitmap_length (length row)) (null_flags row)))
    ∙ ap (λ (n : ℕ). n / 2 ^ i % 2) (flags_in_bitmap row) ∙ null_flags-bit row i

pub row_again : (kinds : List Kind) (row : List Value) (rest : List ℕ) → IsStorable kinds row → row_at kinds (row_bytes row ++ rest) ≡ Some (row, rest)
unfolding row_at
row_again kinds row rest ok =
    let count : ℕ = bitmap_length (length kinds) in
    let flags : ℕ = null_flags row in
    let values : List ℕ = flat_map value_bytes row ++ rest in
    let len : length row ≡ length kinds = length-Fits kinds row ok.fits in
    let bitmap_len : length (null_bitmap row) ≡ count = length-low_bytes (bitmap_length (length row)) flags ∙ ap bitmap_length len in
    let long : ltb (length (null_bitmap row ++ values)) count ≡ false = le-ltb _ _ (omega (arith, length-append (null_bitmap row) values, bitmap_len)) in
    ap (row_at kinds) (append_assoc (null_bitmap row) (flat_map value_bytes row) rest)
    ∙ rw (long, take_at (null_bitmap row) values count bitmap_len, drop_at (null_bitmap row) values count bitmap_len, flags_in_bitmap row) (columns_again kinds row rest ok)

-- a row that is spelled in front is read
row_in_front : (kinds : List Kind) (row : List Value) (bytes : List ℕ) (len : ℕ) → IsRow kinds row (take len bytes) → row_at kinds bytes ≡ Some (row, drop len bytes)
row_in_front kinds row bytes len is =
    ap (row_at kinds) (sym (take-append-drop len bytes) ∙ ap (λ (l : List ℕ). l ++ drop len bytes) is.spelled) ∙ row_again kinds row (drop len bytes) is.storable

pub no_row : (kinds : List Kind) (bytes : List ℕ) → row_at kinds bytes ≡ None → (row : List Value) (len : ℕ) → IsRow kinds row (take len bytes) → ⊥
no_row kinds bytes none row len is = let some : row_at kinds bytes ≡ Some (row, drop len bytes) = row_in_front kinds row bytes len is in cc

pub rest_is_shorter : (kinds : List Kind) (row : List Value) (bytes rest : List ℕ) → IsBytes bytes → row_at kinds bytes ≡ Some (row, rest) → length rest ≤ length bytes
rest_is_shorter kinds row bytes rest fits e =
    let t = row_takes kinds bytes (row, rest) fits e in
    omega (arith, ap length t.takes.parts, length-append (row_bytes row) rest)

pub row_found : (kinds : List Kind) (row : List Value) (bytes rest : List ℕ) → IsBytes bytes → row_at kinds bytes ≡ Some (row, rest) → IsRow kinds row (take (length bytes - length rest) bytes)
row_found kinds row bytes rest fits e =
    let t = row_takes kinds bytes (row, rest) fits e in
    let len : length (row_bytes row) ≡ length bytes - length rest = omega (arith, ap length t.takes.parts, length-append (row_bytes row) rest) in
    record { storable = t.storable; spelled = ap (take (length bytes - length rest)) t.takes.parts ∙ take_at (row_bytes row) rest (length bytes - length rest) len }

-- no row begins another
pub rows_are_apart : (kinds : List Kind) (row other : List Value) (a b x y : List ℕ) → IsRow kinds row a → IsRow kinds other b → a ++ x ≡ b ++ y → (a ≡ b) × (row ≡ other)
rows_are_apart kinds row other a b x y is also same =
    let first : row_at kinds (a ++ x) ≡ Some (row, x) = ap (λ (l : List ℕ). row_at kinds (l ++ x)) is.spelled ∙ row_again kinds row x is.storable in
    let second : row_at kinds (b ++ y) ≡ Some (other, y) = ap (λ (l : List ℕ). row_at kinds (l ++ y)) also.spelled ∙ row_again kinds other y also.storable in
    let both : (row, x) ≡ (other, y) = some_is (row, x) (other, y) (sym first ∙ ap (row_at kinds) same ∙ second) in
    let rows : row ≡ other = ap (λ (p : List Value × List ℕ). p.0) both in
    (is.spelled ∙ ap row_bytes rows ∙ sym also.spelled, rows)

-- what a fault says of what was read
pub no_row_read : {Y : Type 0} (e : Misread) (read : Option Y) → row_fault e ≡ fault.NotARow → Fails e read → read ≡ None
no_row_read misread.Absent read same fails = fails
no_row_read misread.NoMemory read same fails = absurd cc
