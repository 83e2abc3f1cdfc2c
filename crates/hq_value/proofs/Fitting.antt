-- A row that fits a table has the columns of its keys.
use Rattle.std.proofs.Common.{◌≡◌, ◌<◌, ℕ, suc, Bool, true, false, ◌&&◌, All, IsTrue, List, [], ◌∷◌, length, map, refl, sym, ◌∙◌, ap, subst, arith}
use Rattle.std.proofs.lemmas.Bool.Decides.{nat_tests}
use Rattle.std.proofs.lemmas.List.{length-map}
use Rattle.std.proofs.lemmas.List.Elements.{All-cons}
use Rattle.std.proofs.lemmas.Slice.Zip.{AllZip-long}
use Rattle.std.specs.Prelude.{nat_lt}
use Rattle.hq_value.specs.declared.value.Value.{Value}
use Rattle.hq_value.specs.Bucket.{HasColumns}
use Rattle.hq_value.specs.Kinds.{IsOfKind, Fits, kinds_of}
use Rattle.hq_value.specs.Tables.{Definition, IsDefinition, all_below}

both_true : (a b : Bool) → (a && b) ≡ true → (a ≡ true) × (b ≡ true)
both_true true b e = (refl, e)
both_true false b e = cc

below : (n : ℕ) (keys : List ℕ) → all_below n keys ≡ true → All (λ key. key < n) keys
below n [] e = λ k d within. absurd (omega (arith, within))
below n (key ∷ keys) e =
    let both = both_true (nat_lt key n) (all_below n keys) e in
    All-cons (λ key. key < n) key keys (grind (arith, nat_tests)) (below n keys both.1)

pub keys-in_row : (def : Definition) (row : List Value) → IsDefinition def → Fits (kinds_of def.columns) row → HasColumns def.keys row
keys-in_row def row is fit =
    let long : length row ≡ length def.columns = AllZip-long IsOfKind (kinds_of def.columns) row fit ∙ length-map def.columns (λ column. column.kind) in
    subst (λ n. All (λ key. key < n) def.keys) (sym long) (below (length def.columns) def.keys is.keys_within)
