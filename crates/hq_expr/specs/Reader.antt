-- The steps that every rule is read by.
use Rattle.std.specs.Prelude.{◌≡◌, ℕ, zero, suc, ◌-◌, Bool, true, false, if◌then◌else◌, List, [], ◌∷◌, Option, Some, None, Result, Ok, Err}
use denote.Enum.Bare.{sameb}
use Rattle.hq_expr.specs.contracts.mark.Mark.{the_type}
use Rattle.hq_expr.specs.State.{State}
use Rattle.hq_expr.specs.declared.mark.Mark.{Mark}
use Rattle.hq_expr.specs.declared.lexeme.Lexeme.{Lexeme}
use Rattle.hq_expr.specs.declared.lexeme.Lexeme.TheVariants as lexeme
use Rattle.hq_expr.specs.declared.cursor.Peek.{Peek}
use Rattle.hq_expr.specs.declared.cursor.Peek.TheVariants as p
use Rattle.hq_expr.specs.declared.mark.Mark.TheVariants as m
use Rattle.hq_expr.specs.declared.cursor.Start.{Start}
use Rattle.hq_expr.specs.declared.cursor.Start.TheVariants as start
use Rattle.hq_expr.specs.declared.fault.ParseFault.{ParseFault}
use Rattle.hq_expr.specs.declared.fault.ParseFault.TheVariants.{Syntax, NoMemory}

abbrev pub Parser : Type 0 → Type 0
Parser A = State → Option (A × State)

abbrev pub and_then : {A B : Type 0} → Option (A × State) → (A → Parser B) → Option (B × State)
and_then (Some p) f = f p.0 p.1
and_then None f = None

infixl 10 ◌>>=◌
abbrev pub ◌>>=◌ : {A B : Type 0} → Parser A → (A → Parser B) → Parser B
p >>= f = λ s. and_then (p s) f

infixl 10 ◌>>◌
abbrev pub ◌>>◌ : {A B : Type 0} → Parser A → Parser B → Parser B
p >> q = p >>= (λ _. q)

abbrev pub pure : {A : Type 0} → A → Parser A
pure a = λ s. Some (a, s)

abbrev pub refuse : {A : Type 0} → Parser A
refuse = λ s. None

abbrev pub kind_of : Lexeme → Peek
kind_of (lexeme.Mark m) = p.Mark m
kind_of (lexeme.Name n) = p.Name
kind_of (lexeme.Digits n) = p.Digits
kind_of (lexeme.Text t) = p.Text
kind_of lexeme.Long = p.Long

abbrev pub peek : List Lexeme → Peek
peek [] = p.End
peek (t ∷ rest) = kind_of t

abbrev pub start_of : Peek → Start
start_of (p.Mark m.Open) = start.Open
start_of (p.Mark m.Minus) = start.Minus
start_of (p.Mark m.Not) = start.Not
start_of _ = start.Other

abbrev pub tail : List Lexeme → List Lexeme
tail [] = []
tail (t ∷ rest) = rest

abbrev pub skipped : State → State
skipped s = record s { rest = tail s.rest }

abbrev pub skip : Parser (Unit {0})
skip = λ s. Some (tt, skipped s)

abbrev pub next : Parser Peek
next = λ s. Some (peek s.rest, s)

-- one operator more
abbrev pub spend_from : ℕ → List Lexeme → Option (Unit {0} × State)
spend_from zero rest = None
spend_from (suc left) rest = Some (tt, record { left = left; rest = rest })

abbrev pub spend : Parser (Unit {0})
spend s = spend_from s.left s.rest

-- what a function that parses ensures: what the parser gives, unless memory fails
abbrev pub Reads : {A : Type 0} → Option (A × State) → Result A ParseFault → State → Type 0
Reads read (Ok a) new = read ≡ Some (a, new)
Reads read (Err Syntax) new = read ≡ None
Reads read (Err NoMemory) new = Unit {0}

-- ---- single tokens

abbrev pub sees : Mark → Peek → Bool
sees mark (p.Mark found) = sameb the_type found mark
sees mark _ = false

unfoldable pub expect : Mark → Parser (Unit {0})
expect mark = λ s. if sees mark (peek s.rest) then Some (tt, skipped s) else None

abbrev pub name_at : ℕ → List Lexeme → Option (List ℕ × State)
name_at left (lexeme.Name n ∷ rest) = Some (n, record { left = left; rest = rest })
name_at left _ = None

unfoldable pub name : Parser (List ℕ)
name s = name_at s.left s.rest

abbrev pub digits_at : ℕ → List Lexeme → Option (ℕ × State)
digits_at left (lexeme.Digits n ∷ rest) = Some (n, record { left = left; rest = rest })
digits_at left _ = None

unfoldable pub digits : Parser ℕ
digits s = digits_at s.left s.rest

abbrev pub text_at : ℕ → List Lexeme → Option (List ℕ × State)
text_at left (lexeme.Text t ∷ rest) = Some (t, record { left = left; rest = rest })
text_at left _ = None

unfoldable pub text : Parser (List ℕ)
text s = text_at s.left s.rest
