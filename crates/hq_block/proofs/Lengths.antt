-- How long rows and blocks are.
use Rattle.std.proofs.Common.{◌≡◌, ℕ, zero, suc, true, false, ◌+◌, ◌*◌, ◌<◌, ◌≤◌, All, List, [], ◌∷◌, length, take, get_or, refl, ap, ◌∙◌, arith}
use Rattle.std.specs.Prelude.{flat_map}
use Rattle.std.specs.List.{AllByRecursion}
use Rattle.std.proofs.lemmas.List.{length-append, length-take}
use Rattle.hq_value.specs.declared.value.Value.{Value}
use Rattle.hq_value.specs.declared.value.Value.TheVariants as variant
use Rattle.hq_value.specs.declared.kind.Kind.{Kind}
use Rattle.hq_value.specs.Kinds.{Fits}
use Rattle.hq_block.specs.Row.{IsInRange, IsStorable, row_bytes, low_bytes, null_flags, null_bitmap, bitmap_length, value_bytes, row_length}
use Rattle.hq_block.specs.Block.{body_bytes}

pub length-low_bytes : (count n : ℕ) → length (low_bytes count n) ≡ count
length-low_bytes zero n = refl
length-low_bytes (suc count) n = ap suc (length-low_bytes count _)

pub length-row_bytes : (row : List Value) → row_length row ≡ bitmap_length (length row) + length (flat_map value_bytes row)
length-row_bytes row =
    length-append (null_bitmap row) (flat_map value_bytes row) ∙ ap (λ (n : ℕ). n + length (flat_map value_bytes row)) (length-low_bytes (bitmap_length (length row)) (null_flags row))

pub length-Fits : (kinds : List Kind) (row : List Value) → Fits kinds row → length row ≡ length kinds
length-Fits [] [] fits = refl
length-Fits [] (value ∷ row) fits = absurd fits
length-Fits (kind ∷ kinds) [] fits = absurd fits
length-Fits (kind ∷ kinds) (value ∷ row) fits = ap suc (length-Fits kinds row fits.1)

-- each row takes a byte or more
pub rows_below : (kinds : List Kind) (rows : List (List Value)) → 0 < length kinds → AllByRecursion (Fits kinds) rows → length rows ≤ length (body_bytes rows)
rows_below kinds [] some fit = omega arith
rows_below kinds (row ∷ rows) some fit =
    let rest : length rows ≤ length (body_bytes rows) = rows_below kinds rows some fit.1 in
    let columns : length row ≡ length kinds = length-Fits kinds row fit.0 in
    omega (arith, rest, columns, length-row_bytes row, length-append (row_bytes row) (body_bytes rows))

pub few_columns : (kinds : List Kind) (rows : List (List Value)) → length kinds ≤ 64 → All (Fits kinds) rows → All (λ row. length row ≤ 64) rows
few_columns kinds rows few fit k d below = omega (arith, length-Fits kinds (get_or rows k d) (fit k d below))

pub length-take_kinds : (n : ℕ) (kinds : List Kind) → n ≤ length kinds → length (take n kinds) ≡ n
length-take_kinds n kinds enough = omega (arith, length-take n kinds)

-- a value takes at most 1,002 bytes
value_short : (value : Value) → IsInRange value → length (value_bytes value) ≤ 1002
value_short variant.Null ok = omega arith
value_short (variant.Bool false) ok = omega arith
value_short (variant.Bool true) ok = omega arith
value_short (variant.Int n) ok = omega arith
value_short (variant.Text text) ok = omega (arith, ok.0)

values_short : (row : List Value) → AllByRecursion IsInRange row → length (flat_map value_bytes row) ≤ 1002 * length row
values_short [] ok = omega arith
values_short (value ∷ row) ok = omega (arith, value_short value ok.0, values_short row ok.1, length-append (value_bytes value) (flat_map value_bytes row))

-- so every row fits a block
pub row_short : (kinds : List Kind) (row : List Value) → length kinds ≤ 64 → IsStorable kinds row → row_length row ≤ 64136
row_short kinds row few ok = omega (arith, length-row_bytes row, values_short row ok.in_range, length-Fits kinds row ok.fits)
