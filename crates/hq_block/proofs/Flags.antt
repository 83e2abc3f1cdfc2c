-- The null flags as a number, and the bytes of the null bitmap.
use Rattle.std.proofs.Common.{◌≡◌, ℕ, zero, suc, ◌+◌, ◌-◌, ◌*◌, ◌/◌, ◌%◌, ◌^◌, ◌<◌, ◌≤◌, List, [], ◌∷◌, ◌++◌, length, get_or, take, drop, sym, ap, ◌∙◌, append_assoc, min, arith, inl, inr, ◌⊎◌}
use Rattle.std.proofs.Math.Nat.{zero-div, add-mul-div_left, add-mul-mod_self_left, pow-suc, mul_assoc, mul_comm}
use Rattle.std.proofs.lemmas.Nat.{pow_pos, pow-add, shr-shr}
use Rattle.std.proofs.lemmas.List.{length-take, length-drop, drop_all, drop_more, take_all, get_or_past}
use Rattle.std.proofs.lemmas.Bool.{cases_lt}
use Rattle.hq_value.specs.declared.value.Value.{Value}
use Rattle.hq_value.specs.declared.value.Value.TheVariants as variant
use Rattle.hq_block.specs.Row.{null_flag, null_flags, low_bytes, bitmap_length, null_bitmap}
use Rattle.hq_block.specs.Reading.{low_number}

-- bytes are below 256
abbrev pub IsBytes : List ℕ → Type 0
IsBytes bytes = (i : ℕ) → get_or bytes i 0 < 256

pub IsBytes-tail : (b : ℕ) (bytes : List ℕ) → IsBytes (b ∷ bytes) → IsBytes bytes
IsBytes-tail b bytes fits i = fits (suc i)

pub null_flag-below : (value : Value) → null_flag value < 2
null_flag-below (variant.Bool b) = omega arith
null_flag-below (variant.Int n) = omega arith
null_flag-below (variant.Text text) = omega arith
null_flag-below variant.Null = omega arith

pub null_flags-below : (n : ℕ) (row : List Value) → length row ≤ n → null_flags row < 2 ^ n
null_flags-below n [] h = pow_pos n
null_flags-below zero (value ∷ row) h = absurd (omega arith)
null_flags-below (suc n) (value ∷ row) h = rw pow-suc (omega (arith, null_flag-below value, null_flags-below n row (omega arith)))

-- the flags of the first columns, and of those after them
pub null_flags-split : (n : ℕ) (row : List Value) → null_flags row ≡ null_flags (take n row) + 2 ^ n * null_flags (drop n row)
null_flags-split zero row = omega arith
null_flags-split (suc n) [] = omega arith
null_flags-split (suc n) (value ∷ row) =
    let rest : null_flags row ≡ null_flags (take n row) + 2 ^ n * null_flags (drop n row) = null_flags-split n row in
    let twice : 2 ^ suc n * null_flags (drop n row) ≡ 2 * (2 ^ n * null_flags (drop n row)) = rw (pow-suc, mul_comm (2 ^ n) 2) (mul_assoc 2 (2 ^ n) (null_flags (drop n row))) in
    omega (arith, rest, twice)

-- eight columns take a byte
pub null_bitmap-group : (row : List Value) → 0 < length row → null_bitmap row ≡ null_flags (take 8 row) ∷ null_bitmap (drop 8 row)
null_bitmap-group row some =
    let count : bitmap_length (length row) ≡ suc (bitmap_length (length (drop 8 row))) = omega (arith, length-drop 8 row) in
    let split : null_flags row ≡ null_flags (take 8 row) + 256 * null_flags (drop 8 row) = null_flags-split 8 row in
    let below : null_flags (take 8 row) < 256 = null_flags-below 8 (take 8 row) (omega (arith, length-take 8 row)) in
    let low : null_flags row % 256 ≡ null_flags (take 8 row) = omega (arith, split, below) in
    let high : null_flags row / 256 ≡ null_flags (drop 8 row) = omega (arith, split, below) in
    ap (λ (n : ℕ). low_bytes n (null_flags row)) count ∙ (λ i. low i ∷ low_bytes (bitmap_length (length (drop 8 row))) (high i))

-- what stands from a bit on: the rest of its byte, and the bytes after it
pub low_number-shifted : (q r : ℕ) (bytes : List ℕ) → r < 8 → IsBytes bytes → low_number bytes / 2 ^ (8 * q + r) ≡ get_or bytes q 0 / 2 ^ r + 2 ^ (8 - r) * low_number (drop (suc q) bytes)
low_number-shifted zero r [] h fits = nothing r
  where
    nothing : (r : ℕ) → 0 / 2 ^ (8 * 0 + r) ≡ 0 / 2 ^ r + 2 ^ (8 - r) * 0
    nothing r = rw (zero-div, zero-div) (omega arith)
low_number-shifted zero r (b ∷ bytes) h fits =
    let parts : 2 ^ r * 2 ^ (8 - r) ≡ 256 = sym (pow-add 2 r (8 - r)) ∙ ap (λ (k : ℕ). 2 ^ k) (let e : r + (8 - r) ≡ 8 = omega arith in e) in
    let whole : b + 256 * low_number bytes ≡ b + 2 ^ r * (2 ^ (8 - r) * low_number bytes) = ap (λ (k : ℕ). b + k) (ap (λ (k : ℕ). k * low_number bytes) (sym parts) ∙ mul_assoc (2 ^ r) (2 ^ (8 - r)) (low_number bytes)) in
    ap (λ (k : ℕ). (b + 256 * low_number bytes) / 2 ^ k) (let e : 8 * 0 + r ≡ r = omega arith in e) ∙ ap (λ (k : ℕ). k / 2 ^ r) whole ∙ add-mul-div_left b (2 ^ (8 - r) * low_number bytes) {y = 2 ^ r} (pow_pos r)
low_number-shifted (suc q) r [] h fits = rw (zero-div, zero-div) (omega arith)
low_number-shifted (suc q) r (b ∷ bytes) h fits =
    let first : b < 256 = fits 0 in
    let over : (b + 256 * low_number bytes) / 2 ^ 8 ≡ low_number bytes = omega (arith, first) in
    let place : 8 * suc q + r ≡ 8 + (8 * q + r) = omega arith in
    ap (λ (k : ℕ). (b + 256 * low_number bytes) / 2 ^ k) place ∙ sym (shr-shr (b + 256 * low_number bytes) 8 (8 * q + r)) ∙ ap (λ (k : ℕ). k / 2 ^ (8 * q + r)) over ∙ low_number-shifted q r bytes h (IsBytes-tail b bytes fits)

pub flag_is : (bytes : List ℕ) (column : ℕ) → IsBytes bytes → low_number bytes / 2 ^ column % 2 ≡ get_or bytes (column / 8) 0 / 2 ^ (column % 8) % 2
flag_is bytes column fits =
    let place : column ≡ 8 * (column / 8) + column % 8 = omega arith in
    let small : column % 8 < 8 = omega arith in
    let even : 2 ^ (8 - column % 8) ≡ 2 * 2 ^ (7 - column % 8) = ap (λ (k : ℕ). 2 ^ k) (let e : 8 - column % 8 ≡ suc (7 - column % 8) = omega arith in e) ∙ pow-suc 2 (7 - column % 8) ∙ mul_comm (2 ^ (7 - column % 8)) 2 in
    ap (λ (k : ℕ). low_number bytes / 2 ^ k % 2) place
    ∙ ap (λ (k : ℕ). k % 2) (low_number-shifted (column / 8) (column % 8) bytes small fits)
    ∙ dropped (get_or bytes (column / 8) 0 / 2 ^ (column % 8)) (2 ^ (8 - column % 8)) (2 ^ (7 - column % 8)) (low_number (drop (suc (column / 8)) bytes)) even
  where
    dropped : (x p half rest : ℕ) → p ≡ 2 * half → (x + p * rest) % 2 ≡ x % 2
    dropped x p half rest e = ap (λ (k : ℕ). (x + k * rest) % 2) e ∙ ap (λ (k : ℕ). (x + k) % 2) (mul_assoc 2 half rest) ∙ add-mul-mod_self_left x 2 (half * rest)

pub rest_is : (bytes : List ℕ) (columns : ℕ) → length bytes ≡ bitmap_length columns → IsBytes bytes → low_number bytes / 2 ^ columns ≡ get_or bytes (columns / 8) 0 / 2 ^ (columns % 8)
rest_is bytes columns len fits =
    let place : columns ≡ 8 * (columns / 8) + columns % 8 = omega arith in
    let small : columns % 8 < 8 = omega arith in
    let past : length bytes ≤ suc (columns / 8) = omega (arith, len) in
    ap (λ (k : ℕ). low_number bytes / 2 ^ k) place ∙ low_number-shifted (columns / 8) (columns % 8) bytes small fits
    ∙ ap (λ (rest : List ℕ). get_or bytes (columns / 8) 0 / 2 ^ (columns % 8) + 2 ^ (8 - columns % 8) * low_number rest) (drop_all (suc (columns / 8)) bytes past) ∙ omega arith

-- no flag is left, by the byte that would have it
pub ends_is : (bytes : List ℕ) (columns : ℕ) → length bytes ≡ bitmap_length columns → IsBytes bytes → columns % 8 ≡ 0 → low_number bytes / 2 ^ columns ≡ 0
ends_is bytes columns len fits even =
    rest_is bytes columns len fits ∙ ap (λ (b : ℕ). b / 2 ^ (columns % 8)) (get_or_past bytes (columns / 8) 0 (omega (arith, len, even))) ∙ zero-div (2 ^ (columns % 8))

-- the flags of the column at i and of those after it
pub null_flags-drop : (row : List Value) (i : ℕ) (value : Value) → i < length row → value ≡ get_or row i value → null_flags (drop i row) ≡ null_flag value + 2 * null_flags (drop (i + 1) row)
null_flags-drop row i value below is = ap null_flags (drop_more row i value below) ∙ ap (λ (v : Value). null_flag v + 2 * null_flags (drop (i + 1) row)) (sym is)

-- they fit a byte
pub flags-fit : (row : List Value) (i flags : ℕ) → 0 < i → length row ≤ 8 → flags ≡ null_flags (drop i row) → flags < 128
flags-fit row i flags some few is = omega (arith, is, null_flags-below 7 (drop i row) (omega (arith, length-drop i row)))

-- a step of writing the bitmap
pub bitmap-step : (done all : List ℕ) (row : List Value) (n : ℕ) → n ≡ min (length row) 8 → 0 < length row → done ++ null_bitmap row ≡ all
    → (done ++ null_flags (take n row) ∷ []) ++ null_bitmap (drop n row) ≡ all
bitmap-step done all row n is some so_far =
    let group : null_flags (take n row) ∷ null_bitmap (drop n row) ≡ null_bitmap row = by (cases_lt (length row) 8) in
    append_assoc done (null_flags (take n row) ∷ []) (null_bitmap (drop n row)) ∙ ap (λ (tail : List ℕ). done ++ tail) group ∙ so_far
  where
    by : (length row < 8) ⊎ (8 ≤ length row) → null_flags (take n row) ∷ null_bitmap (drop n row) ≡ null_bitmap row
    by (inr many) = ap (λ (k : ℕ). null_flags (take k row) ∷ null_bitmap (drop k row)) (let e : n ≡ 8 = omega (arith, is) in e) ∙ sym (null_bitmap-group row some)
    by (inl few) =
        let whole : n ≡ length row = omega (arith, is) in
        let same_front : take n row ≡ take 8 row = take_all n row (omega (arith, whole)) ∙ sym (take_all 8 row (omega arith)) in
        let same_rest : drop n row ≡ drop 8 row = drop_all n row (omega (arith, whole)) ∙ sym (drop_all 8 row (omega arith)) in
        (λ i. null_flags (same_front i) ∷ null_bitmap (same_rest i)) ∙ sym (null_bitmap-group row some)
