-- Lists with commas between their members.
use Rattle.std.specs.Prelude.{◌≡◌, ℕ, zero, suc, Bool, true, false, List, [], ◌∷◌, ◌++◌, length}
use Rattle.hq_expr.specs.Reader.{Parser, ◌>>=◌, ◌>>◌, pure, refuse, next, skip, sees}
use Rattle.hq_expr.specs.declared.lexeme.Lexeme.{Lexeme}
use Rattle.hq_expr.specs.declared.lexeme.Lexeme.TheVariants.{Mark}
use Rattle.hq_expr.specs.declared.mark.Mark.TheVariants as m

-- member {"," member}
pub data Listed {X : Type 0} (Member : List Lexeme → X → List Lexeme → Type 0) : List Lexeme → List X → List Lexeme → Type 0 where
  one : {ts rest : List Lexeme} {x : X} → Member ts x rest → Listed Member ts (x ∷ []) rest
  more : {ts mid rest : List Lexeme} {x : X} {xs : List X} → Member ts x (Mark m.Comma ∷ mid) → Listed Member mid xs rest → Listed Member ts (x ∷ xs) rest

abbrev pub goes_on : {X : Type 0} → Bool → (List X → Parser (List X)) → List X → Parser (List X)
goes_on true go found = skip >> go found
goes_on false go found = pure found

-- the number bounds the turns; each takes a token, so the count of tokens is enough
unfoldable pub list_from : {X : Type 0} → Parser X → ℕ → List X → Parser (List X)
list_from member zero found = refuse
list_from member (suc n) found = member >>= λ x. next >>= λ k. goes_on (sees m.Comma k) (list_from member n) (found ++ x ∷ [])

abbrev pub list : {X : Type 0} → Parser X → Parser (List X)
list member = λ s. list_from member (length s.rest) [] s
