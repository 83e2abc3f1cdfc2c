-- A range of a list that begins later.
use Rattle.std.proofs.Common.{◌≡◌, ◌+◌, ◌-◌, ◌≤◌, ℕ, List, drop, length, refl, arith}
use Rattle.std.proofs.lemmas.List.{drop-drop, drop-take, length-take}
use Rattle.std.specs.Prelude.{slice_range}

pub range-later : (xs : List ℕ) (at end count : ℕ) → count ≤ length (slice_range xs at end) → slice_range xs (at + count) end ≡ drop count (slice_range xs at end)
range-later xs at end count fits =
    let less : count ≤ end - at = omega (arith, fits, length-take (end - at) (drop at xs)) in
    let rest : end - at ≡ count + (end - (at + count)) = omega arith in
    rw (rest, drop-take, drop-drop) refl
