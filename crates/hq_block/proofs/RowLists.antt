-- The first of a list in two parts, and the others.
use Rattle.std.proofs.Common.{◌≡◌, ◌∙◌, ℕ, ◌+◌, ◌-◌, ◌<◌, List, ◌++◌, length, take, drop, map, sym, ap, arith}
use Rattle.std.proofs.Math.Seq.{take-append-add, drop-append-add}
use Rattle.std.proofs.lemmas.List.{take-map, drop-map, take_all, length-drop}

pub first_past : {X Y : Type 0} (f : Y → X) (whole : List X) (chosen : List Y) (count : ℕ) → length whole < count → whole ++ map f (take (count - length whole) chosen) ≡ take count (whole ++ map f chosen)
first_past f whole chosen count past =
    let same : length whole + (count - length whole) ≡ count = omega (arith, past) in
    ap (λ l. whole ++ l) (sym (take-map f (count - length whole) chosen))
    ∙ sym (take-append-add whole (map f chosen) (count - length whole))
    ∙ ap (λ n. take n (whole ++ map f chosen)) same

pub behind_past : {X Y : Type 0} (f : Y → X) (whole : List X) (chosen : List Y) (count : ℕ) → length whole < count → map f (take (length chosen - (count - length whole)) (drop (count - length whole) chosen)) ≡ drop count (whole ++ map f chosen)
behind_past f whole chosen count past =
    let more : ℕ = count - length whole in
    let same : length whole + more ≡ count = omega (arith, past) in
    let long : length (drop more chosen) ≡ length chosen - more = length-drop more chosen in
    ap (map f) (take_all (length chosen - more) (drop more chosen) (omega (arith, long)))
    ∙ sym (drop-map f more chosen)
    ∙ sym (drop-append-add whole (map f chosen) more)
    ∙ ap (λ n. drop n (whole ++ map f chosen)) same
