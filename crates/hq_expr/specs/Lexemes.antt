-- Tokens, as the grammar reads them.
--     lexeme_of text t     what the token t of the text is for the grammar
--     IsLexed text ls      the text is cut into tokens that are these for the grammar
use Rattle.std.specs.Prelude.{◌≡◌, ℕ, ◌+◌, ◌-◌, ◌*◌, ◌^◌, ◌==◌, ◌≤◌, Bool, true, false, if◌then◌else◌, ◌&&◌, nat_le, min, List, [], ◌∷◌, length, map, fold, take, drop, slice_index, codes, Option, Some, None}
use denote.Enum.Bare.{sameb}
use Rattle.std.specs.Char.{to_ascii_lowercase}
use Rattle.std.specs.Str.{bytes_eq}
use Rattle.hq_lex.specs.Cut.{IsTokens}
use Rattle.hq_lex.specs.declared.token.Token.{Token}
use Rattle.hq_lex.specs.declared.token.TokenKind.{TokenKind}
use Rattle.hq_lex.specs.declared.token.TokenKind.TheVariants as kind
use Rattle.hq_expr.specs.contracts.mark.Mark.{the_type}
use Rattle.hq_expr.specs.declared.mark.Mark.{Mark as MarkType}
use Rattle.hq_expr.specs.declared.mark.Mark.TheVariants as m
use Rattle.hq_expr.specs.declared.lexeme.Lexeme.{Lexeme}
use Rattle.hq_expr.specs.declared.lexeme.Lexeme.TheVariants.{Mark, Name, Digits, Text, Long}

-- ---- words

-- the words that are no names
abbrev pub reserved_words : List (List ℕ × MarkType)
reserved_words =
    (codes "add", m.Add) ∷ (codes "alter", m.Alter) ∷ (codes "and", m.And) ∷ (codes "as", m.As) ∷
    (codes "asc", m.Asc) ∷ (codes "begin", m.Begin) ∷ (codes "bigint", m.Bigint) ∷ (codes "bool", m.Bool) ∷
    (codes "boolean", m.Boolean) ∷ (codes "by", m.By) ∷ (codes "column", m.Column) ∷ (codes "commit", m.Commit) ∷
    (codes "count", m.Count) ∷ (codes "create", m.Create) ∷ (codes "desc", m.Desc) ∷ (codes "distinct", m.Distinct) ∷
    (codes "distributed", m.Distributed) ∷ (codes "false", m.False) ∷ (codes "from", m.From) ∷
    (codes "group", m.Group) ∷ (codes "having", m.Having) ∷ (codes "inner", m.Inner) ∷ (codes "insert", m.Insert) ∷
    (codes "int", m.Int) ∷ (codes "integer", m.Integer) ∷ (codes "into", m.Into) ∷ (codes "is", m.Is) ∷
    (codes "join", m.Join) ∷ (codes "limit", m.Limit) ∷ (codes "max", m.Max) ∷ (codes "min", m.Min) ∷
    (codes "not", m.Not) ∷ (codes "null", m.Null) ∷ (codes "on", m.On) ∷ (codes "or", m.Or) ∷
    (codes "order", m.Order) ∷ (codes "randomly", m.Randomly) ∷ (codes "rollback", m.Rollback) ∷
    (codes "select", m.Select) ∷ (codes "snapshot", m.Snapshot) ∷ (codes "sum", m.Sum) ∷ (codes "table", m.Table) ∷
    (codes "text", m.Text) ∷ (codes "true", m.True) ∷ (codes "values", m.Values) ∷ (codes "where", m.Where) ∷ []

abbrev pub look_up : List ℕ → List (List ℕ × MarkType) → Option MarkType
look_up word [] = None
look_up word (entry ∷ entries) = if bytes_eq word entry.0 then Some entry.1 else look_up word entries

unfoldable pub reserved : List ℕ → Option MarkType
reserved word = look_up word reserved_words

-- a word that isn't reserved is a name where it has at most 63 bytes
abbrev pub by_mark : Option MarkType → List ℕ → Lexeme
by_mark (Some mark) word = Mark mark
by_mark None word = if nat_le (length word) 63 then Name word else Long

-- a word, in lower case
abbrev pub word_of : List ℕ → Lexeme
word_of word = by_mark (reserved word) word

-- ---- numbers

-- the number that digits stand for
abbrev pub digits_value : List ℕ → ℕ
digits_value digits = fold (λ n digit. 10 * n + (digit - 48)) 0 digits

-- ---- texts

-- of two quotes in a row the second is left out
abbrev pub without_doubles : Bool → List ℕ → List ℕ
without_doubles is_second [] = []
without_doubles is_second (b ∷ z) = if is_second && b == 39 then without_doubles false z else b ∷ without_doubles (b == 39) z

abbrev pub is_quote : ℕ → Bool
is_quote b = b == 39

-- the text up to its first quote, which stands at this place
abbrev pub up_to_quote : List ℕ → ℕ → List ℕ
up_to_quote z place = take (place + 1) z

-- the text behind its first quote, and behind a second one that follows at once
abbrev pub behind_quote : List ℕ → ℕ → List ℕ
behind_quote z place = if is_quote (slice_index z (place + 1)) then drop (place + 2) z else drop (place + 1) z

-- what stands between the quotes of a text
abbrev pub between_quotes : List ℕ → List ℕ
between_quotes z = take (length z - 2) (drop 1 z)

-- ---- signs

abbrev pub sign_of_one : ℕ → Option MarkType
sign_of_one b =
    if b == 40 then Some m.Open
    else (if b == 41 then Some m.Close
    else (if b == 44 then Some m.Comma
    else (if b == 46 then Some m.Dot
    else (if b == 42 then Some m.Star
    else (if b == 43 then Some m.Plus
    else (if b == 45 then Some m.Minus
    else (if b == 61 then Some m.Equal
    else (if b == 60 then Some m.Less
    else (if b == 62 then Some m.Greater
    else None)))))))))

-- `!=` is `<>`
abbrev pub sign_of_two : ℕ → ℕ → Option MarkType
sign_of_two b c =
    if b == 60 then (if c == 61 then Some m.AtMost else (if c == 62 then Some m.NotEqual else None))
    else (if b == 62 then (if c == 61 then Some m.AtLeast else None)
    else (if b == 33 then (if c == 61 then Some m.NotEqual else None) else None))

abbrev pub sign_of : List ℕ → Option MarkType
sign_of (b ∷ []) = sign_of_one b
sign_of (b ∷ c ∷ []) = sign_of_two b c
sign_of _ = None

abbrev pub or_long : Option MarkType → Lexeme
or_long (Some mark) = Mark mark
or_long None = Long

-- ---- tokens

-- digits above 2 ^ 64 - 1 stand for that number, which is no number of the grammar either
abbrev pub lexeme : TokenKind → List ℕ → Lexeme
lexeme kind.Word z = word_of (map to_ascii_lowercase z)
lexeme kind.Digits z = Digits (min (digits_value z) (2 ^ 64 - 1))
lexeme kind.Text z = Text (without_doubles false (between_quotes z))
lexeme kind.Sign z = or_long (sign_of z)

abbrev pub lexeme_of : List ℕ → Token → Lexeme
lexeme_of text t = lexeme t.kind (take (t.end - t.start) (drop t.start text))

-- from the place `at` on
abbrev pub IsLexedFrom : List ℕ → ℕ → List Lexeme → Type 0
IsLexedFrom text at ls = (ts : List Token) × IsTokens text at ts × (map (lexeme_of text) ts ≡ ls)

abbrev pub IsLexed : List ℕ → List Lexeme → Type 0
IsLexed text ls = IsLexedFrom text 0 ls

-- the word or sign that a lexeme is
abbrev pub mark_in : Lexeme → Option MarkType
mark_in (Mark mark) = Some mark
mark_in _ = None

abbrev pub is_mark : MarkType → Option MarkType → Bool
is_mark mark (Some found) = sameb the_type found mark
is_mark mark None = false

abbrev pub marks_alone : List MarkType → List Lexeme
marks_alone marks = map (λ mark. Mark mark) marks

-- at the place `at` stands this word or sign, and it goes up to `end`
pub record Passes (text : List ℕ) (at : ℕ) (mark : MarkType) (end : ℕ) : Type 0 where
  pub within : end ≤ length text
  pub on : (ls : List Lexeme) → IsLexedFrom text end ls → IsLexedFrom text at (Mark mark ∷ ls)
  pub back : (ls : List Lexeme) → IsLexedFrom text at (Mark mark ∷ ls) → IsLexedFrom text end ls
