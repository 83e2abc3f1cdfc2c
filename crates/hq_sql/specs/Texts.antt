-- The statement that a text is, as a function.
--     lexemes_in text       its lexemes, or none where something begins no token
--     statement_in text     the statement that these are, or none
use Rattle.std.specs.Prelude.{ℕ, zero, suc, ◌+◌, ◌-◌, List, [], ◌∷◌, length, take, drop, Option, Some, None, if◌then◌else◌}
use Rattle.std.specs.Str.{is_utf8}
use Rattle.hq_lex.specs.Step.{step_at}
use Rattle.hq_lex.specs.declared.step.Step.{Step}
use Rattle.hq_lex.specs.declared.step.Step.TheVariants as step
use Rattle.hq_expr.specs.State.{State}
use Rattle.hq_expr.specs.Lexemes.{lexeme}
use Rattle.hq_expr.specs.declared.lexeme.Lexeme.{Lexeme}
use Rattle.hq_sql.specs.Reading.{read}
use Rattle.hq_sql.specs.Grammar.{statement_rule}
use Rattle.hq_sql.specs.declared.tree.Statement.{Statement}

abbrev pub in_front : {A : Type 0} → A → Option (List A) → Option (List A)
in_front x (Some xs) = Some (x ∷ xs)
in_front x None = None

abbrev pub behind_token : List ℕ → (ℕ → Option (List Lexeme)) → Step → Option (List Lexeme)
behind_token text go step.End = Some []
behind_token text go (step.Fault place) = None
behind_token text go (step.Token kind start stop) = in_front (lexeme kind (take (stop - start) (drop start text))) (go stop)

-- from the place `at` on; the first number bounds the tokens
abbrev pub lexemes_from : ℕ → List ℕ → ℕ → Option (List Lexeme)
lexemes_from zero text at = None
lexemes_from (suc n) text at = behind_token text (lexemes_from n text) (step_at at (drop at text))

-- a token has a byte at least, and one step more finds the end
abbrev pub lexemes_in : List ℕ → Option (List Lexeme)
lexemes_in text = lexemes_from (length text + 1) text 0

-- what was read, where nothing is left
abbrev pub if_done : Option (Statement × State) → Option Statement
if_done None = None
if_done (Some (s, left)) = if_none_left left.rest
  where
    if_none_left : List Lexeme → Option Statement
    if_none_left [] = Some s
    if_none_left (l ∷ ls) = None

abbrev pub statement_of : Option (List Lexeme) → Option Statement
statement_of None = None
statement_of (Some ls) = if_done (read statement_rule (record { left = 256; rest = ls }))

abbrev pub statement_in : List ℕ → Option Statement
statement_in text = if is_utf8 text then statement_of (lexemes_in text) else None
