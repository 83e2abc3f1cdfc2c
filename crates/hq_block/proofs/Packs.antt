-- Packed rows are blocks, and a file of the rows.
use Rattle.std.proofs.Common.{◌≡◌, ℕ, zero, suc, ◌<◌, ◌≤◌, List, [], ◌∷◌, ◌++◌, length, take, drop, refl, ap, subst, arith}
use Rattle.std.specs.List.{AllByRecursion}
use Rattle.std.proofs.lemmas.List.{length-drop, length-take, take-append-drop}
use Rattle.hq_value.specs.declared.value.Value.{Value}
use Rattle.hq_value.specs.declared.kind.Kind.{Kind}
use Rattle.hq_block.specs.Row.{IsStorable}
use Rattle.hq_block.specs.Block.{block_bytes, fitting_a_block, packed, pack, FileRows}
use Rattle.hq_block.proofs.Files.{one_block, files_joined}
use Rattle.hq_block.proofs.Written.{All-take, All-drop, most-some, fitting-fits, block_spelled}

-- what is left after the first block is shorter
rest-shorter : (kinds : List Kind) (row : List Value) (rows : List (List Value)) → length (drop (fitting_a_block kinds (row ∷ rows)) (row ∷ rows)) ≤ length rows
rest-shorter kinds row rows = omega (arith, length-drop (fitting_a_block kinds (row ∷ rows)) (row ∷ rows), most-some kinds (row ∷ rows) (length (row ∷ rows)) (omega arith))

-- more blocks than rows make no difference
packed-same : (kinds : List Kind) (m n : ℕ) (rows : List (List Value)) → length rows ≤ m → length rows ≤ n → packed kinds m rows ≡ packed kinds n rows
packed-same kinds zero zero rows enough also = refl
packed-same kinds zero (suc n) [] enough also = refl
packed-same kinds zero (suc n) (row ∷ rows) enough also = absurd (omega (arith, enough))
packed-same kinds (suc m) zero [] enough also = refl
packed-same kinds (suc m) zero (row ∷ rows) enough also = absurd (omega (arith, also))
packed-same kinds (suc m) (suc n) [] enough also = refl
packed-same kinds (suc m) (suc n) (row ∷ rows) enough also =
    let k : ℕ = fitting_a_block kinds (row ∷ rows) in
    let less : length (drop k (row ∷ rows)) ≤ length rows = rest-shorter kinds row rows in
    ap (λ (l : List ℕ). block_bytes kinds (take k (row ∷ rows)) ++ l) (packed-same kinds m n (drop k (row ∷ rows)) (omega (arith, less, enough)) (omega (arith, less, also)))

pub pack_step : (kinds : List Kind) (rows : List (List Value)) → 0 < length rows → pack kinds rows ≡ block_bytes kinds (take (fitting_a_block kinds rows) rows) ++ pack kinds (drop (fitting_a_block kinds rows) rows)
pack_step kinds [] some = absurd (omega (arith, some))
pack_step kinds (row ∷ rows) some =
    let k : ℕ = fitting_a_block kinds (row ∷ rows) in
    let less : length (drop k (row ∷ rows)) ≤ length rows = rest-shorter kinds row rows in
    let self : length (drop k (row ∷ rows)) ≤ length (drop k (row ∷ rows)) = omega arith in
    ap (λ (l : List ℕ). block_bytes kinds (take k (row ∷ rows)) ++ l) (packed-same kinds (length rows) (length (drop k (row ∷ rows))) (drop k (row ∷ rows)) less self)

packed_file : (kinds : List Kind) (most : ℕ) (rows : List (List Value)) → length rows ≤ most → 0 < length kinds → length kinds ≤ 64 → AllByRecursion (IsStorable kinds) rows → FileRows kinds (packed kinds most rows) rows
packed_file kinds zero [] enough some few all = ([], tt, refl, refl)
packed_file kinds zero (row ∷ rows) enough some few all = absurd (omega (arith, enough))
packed_file kinds (suc most) [] enough some few all = ([], tt, refl, refl)
packed_file kinds (suc most) (row ∷ rows) enough some few all =
    let k : ℕ = fitting_a_block kinds (row ∷ rows) in
    let these : List (List Value) = take k (row ∷ rows) in
    let some_rows : 0 < length these = omega (arith, length-take k (row ∷ rows), most-some kinds (row ∷ rows) (length (row ∷ rows)) (omega arith)) in
    let block = block_spelled kinds these some few some_rows (All-take (IsStorable kinds) k (row ∷ rows) all) (fitting-fits kinds row rows few all.0) in
    let first = one_block kinds (block_bytes kinds these) these block in
    let less : length (drop k (row ∷ rows)) ≤ length rows = rest-shorter kinds row rows in
    let others = packed_file kinds most (drop k (row ∷ rows)) (omega (arith, less, enough)) some few (All-drop (IsStorable kinds) k (row ∷ rows) all) in
    subst (λ (them : List (List Value)). FileRows kinds (packed kinds (suc most) (row ∷ rows)) them) (take-append-drop k (row ∷ rows))
    (files_joined kinds (block_bytes kinds these) (packed kinds most (drop k (row ∷ rows))) these (drop k (row ∷ rows)) first others)

pub pack_file : (kinds : List Kind) (rows : List (List Value)) → 0 < length kinds → length kinds ≤ 64 → AllByRecursion (IsStorable kinds) rows → FileRows kinds (pack kinds rows) rows
pack_file kinds rows some few all = packed_file kinds (length rows) rows (omega arith) some few all
