-- Looking a word up in the table.
use Rattle.std.proofs.Common.{◌≡◌, ℕ, ◌+◌, ◌<◌, Bool, true, false, cond, List, [], ◌∷◌, length, map, drop, slice_index_or, Bor, Option, Some, None, refl, sym, ap, ◌∙◌, drop-cons, add-one, arith}
use Rattle.std.specs.Char.{to_ascii_lowercase}
use Rattle.std.specs.Str.{bytes_eq}
use Rattle.hq_expr.specs.Lexemes.{look_up}
use Rattle.hq_expr.specs.declared.mark.Mark.{Mark}

abbrev pub Entry : Type 0
Entry = Bor (List ℕ) × Mark

abbrev pub folded : Entry → List ℕ × Mark
folded e = (map to_ascii_lowercase e.0.now, e.1)

look_up_at : (w : List ℕ) (entries : List Entry) (i : ℕ) (d : Entry) → i < length entries
    → look_up w (map folded (drop i entries))
    ≡ cond (bytes_eq w (folded (slice_index_or entries i d)).0) (Some (slice_index_or entries i d).1) (look_up w (map folded (drop (i + 1) entries)))
look_up_at w entries i d h = rw (add-one, drop-cons entries i d h) refl

pub found_at : (w : List ℕ) (entries : List Entry) (i : ℕ) (d : Entry) (all : Option Mark) → i < length entries → all ≡ look_up w (map folded (drop i entries))
    → bytes_eq w (folded (slice_index_or entries i d)).0 ≡ true → Some (slice_index_or entries i d).1 ≡ all
found_at w entries i d all h e is = sym (e ∙ look_up_at w entries i d h ∙ rw is refl)

pub passed_at : (w : List ℕ) (entries : List Entry) (i : ℕ) (d : Entry) (all : Option Mark) → i < length entries → all ≡ look_up w (map folded (drop i entries))
    → bytes_eq w (folded (slice_index_or entries i d)).0 ≡ false → all ≡ look_up w (map folded (drop (i + 1) entries))
passed_at w entries i d all h e is = e ∙ look_up_at w entries i d h ∙ rw is refl
