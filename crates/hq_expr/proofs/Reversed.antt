-- A list whose last item is the next.
use Rattle.std.proofs.Common.{◌≡◌, ℕ, ◌-◌, ◌+◌, List, [], ◌∷◌, ◌++◌, length, reverse, Option, Some, None, refl, sym, ap, ◌∙◌}
use Rattle.std.specs.Prelude.{slice_get}
use Rattle.std.specs.Option.{option_to_list}
use Rattle.std.proofs.lemmas.List.{reverse-append, reverse-reverse, length-reverse}
use Rattle.hq_expr.specs.Reader.{peek, tail, kind_of}
use Rattle.hq_expr.specs.declared.cursor.Peek.{Peek}
use Rattle.hq_expr.specs.declared.cursor.Peek.TheVariants as p
use Rattle.hq_expr.specs.declared.lexeme.Lexeme.{Lexeme}

pub reverse_twice : (xs : List Lexeme) → reverse (reverse xs) ≡ xs
reverse_twice xs = reverse-reverse xs

pub reverse_last : (xs : List Lexeme) (x : Lexeme) → reverse (xs ++ x ∷ []) ≡ x ∷ reverse xs
reverse_last xs x = reverse-append xs (x ∷ [])

-- what is next, by the last item
abbrev pub peek_at : Option Lexeme → Peek
peek_at None = p.End
peek_at (Some x) = kind_of x
