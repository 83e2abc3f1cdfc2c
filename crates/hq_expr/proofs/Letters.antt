-- Reserved words by their first letters.
use Rattle.std.proofs.Common.{◌≡◌, ℕ, Bool, true, false, cond, ◌==◌, List, [], ◌∷◌, slice_index, Some, refl, sym, ap, ◌∙◌}
use Rattle.std.specs.Str.{bytes_eq}
use Rattle.std.proofs.lemmas.Bool.{eqb-true, eq-eqb}
use Rattle.hq_expr.specs.Lexemes.{look_up, reserved, reserved_words}
use Rattle.hq_expr.specs.declared.mark.Mark.{Mark}

abbrev pub Entry : Type 0
Entry = List ℕ × Mark

-- the entries whose word begins with this letter
abbrev pub beginning_with : ℕ → List Entry → List Entry
beginning_with letter [] = []
beginning_with letter (entry ∷ entries) = cond (slice_index entry.0 0 == letter) (entry ∷ beginning_with letter entries) (beginning_with letter entries)

eqb_other : (x y : ℕ) → (x == y) ≡ false → (y == x) ≡ false
eqb_other x y h = go (y == x) refl
  where
    go : (b : Bool) → (y == x) ≡ b → b ≡ false
    go false e = refl
    go true e = let yes : x ≡ y = sym (eqb-true y x e) in let same = eq-eqb x y yes in cc

-- words of other first letters differ
differ : (v w : List ℕ) → (slice_index v 0 == slice_index w 0) ≡ false → bytes_eq w v ≡ false
differ [] [] h = cc
differ [] (y ∷ ys) h = refl
differ (x ∷ xs) [] h = refl
differ (x ∷ xs) (y ∷ ys) h = rw (eqb_other x y h) refl

look_up_step : (w : List ℕ) (entry : Entry) (entries : List Entry) (b : Bool) → (slice_index entry.0 0 == slice_index w 0) ≡ b
    → look_up w entries ≡ look_up w (beginning_with (slice_index w 0) entries)
    → look_up w (entry ∷ entries) ≡ look_up w (cond b (entry ∷ beginning_with (slice_index w 0) entries) (beginning_with (slice_index w 0) entries))
look_up_step w entry entries true e again = ap (λ r. cond (bytes_eq w entry.0) (Some entry.1) r) again
look_up_step w entry entries false e again = rw (differ entry.0 w e) again

look_up_letter : (w : List ℕ) (entries : List Entry) → look_up w entries ≡ look_up w (beginning_with (slice_index w 0) entries)
look_up_letter w [] = refl
look_up_letter w (entry ∷ entries) = look_up_step w entry entries (slice_index entry.0 0 == slice_index w 0) refl (look_up_letter w entries)

-- a word is looked up among those of its first letter alone
pub by_letter : (w : List ℕ) (letter : ℕ) → letter ≡ slice_index w 0 → reserved w ≡ look_up w (beginning_with letter reserved_words)
unfolding reserved
by_letter w letter h = rw h (look_up_letter w reserved_words)
