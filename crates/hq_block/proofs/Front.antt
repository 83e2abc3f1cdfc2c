-- What was written stays in front of what is written after it.
use Rattle.std.proofs.Common.{◌≡◌, ℕ, ◌≤◌, List, ◌++◌, length, take, drop, ap, sym, ◌∙◌, arith}
use Rattle.std.proofs.lemmas.List.{length-take, take-append-le, take-append-drop}

pub front_stays : (old now more : List ℕ) → take (length old) now ≡ old → take (length old) (now ++ more) ≡ old
front_stays old now more kept =
    let enough : length old ≤ length now = omega (arith, length-take (length old) now, ap length kept) in
    take-append-le (length old) now more enough ∙ kept

-- what stood in front of what stood in front
pub kept_through : {A : Type 0} (old now new : List A) → take (length old) now ≡ old → take (length now) new ≡ now → take (length old) new ≡ old
kept_through old now new kept then =
    let enough : length old ≤ length now = omega (arith, length-take (length old) now, ap length kept) in
    ap (take (length old)) (sym (take-append-drop (length now) new) ∙ ap (λ l. l ++ drop (length now) new) then) ∙ take-append-le (length old) now (drop (length now) new) enough ∙ kept
