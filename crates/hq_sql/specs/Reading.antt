-- How a rule is read: one token tells which way to go.
--     begins rule k       what the rule spells may begin with a token k
--     is_empty rule       the rule spells also nothing
--     read rule           the parser
use Rattle.std.specs.Prelude.{ℕ, zero, suc, ◌^◌, nat_lt, Bool, true, false, ◌&&◌, ◌||◌, if◌then◌else◌, List, [], ◌∷◌, ◌++◌, length, Option, Some, None, is_some}
use Rattle.hq_expr.specs.Reader.{Parser, ◌>>=◌, ◌>>◌, pure, refuse, skip, next, sees, expect, digits}
use Rattle.hq_expr.specs.Reader as r
use Rattle.hq_expr.specs.Reading as expr
use Rattle.hq_expr.specs.Parts.{item_sum}
use Rattle.hq_expr.specs.Parts as parts
use Rattle.hq_expr.specs.Lists.{list}
use Rattle.hq_expr.specs.declared.cursor.Peek.{Peek}
use Rattle.hq_expr.specs.declared.cursor.Peek.TheVariants as p
use Rattle.hq_expr.specs.declared.mark.Mark.{Mark as MarkType}
use Rattle.hq_expr.specs.declared.mark.Mark.TheVariants as m
use Rattle.hq_sql.specs.Rules.{Rule, nothing, mark, one_of, name, number, reference, value, sum, condition, both, either, listed, repeated, only}

-- ---- what a rule may begin with

abbrev pub is_name : Peek → Bool
is_name p.Name = true
is_name _ = false

abbrev pub is_digits : Peek → Bool
is_digits p.Digits = true
is_digits _ = false

-- no expression begins with a star or DISTINCT
abbrev pub may_begin_expr : Peek → Bool
may_begin_expr (p.Mark m.Star) = false
may_begin_expr (p.Mark m.Distinct) = false
may_begin_expr _ = true

abbrev pub meaning_at : {A : Type 0} → (MarkType → Option A) → Peek → Option A
meaning_at meaning (p.Mark found) = meaning found
meaning_at meaning _ = None

abbrev pub is_empty : {A : Type 0} → Rule A → Bool
is_empty (nothing a) = true
is_empty (mark word) = false
is_empty (one_of meaning) = false
is_empty name = false
is_empty number = false
is_empty reference = false
is_empty value = false
is_empty sum = false
is_empty (condition aggs) = false
is_empty (both f r q) = is_empty r && is_empty q
is_empty (either r q) = is_empty r || is_empty q
is_empty (listed r) = is_empty r
is_empty (repeated r) = true
is_empty (only test r) = is_empty r

-- a first part, or the second where the first may be nothing
abbrev pub or_next : Bool → Bool → Bool → Bool
or_next false first second = first
or_next true first second = first || second

abbrev pub begins : {A : Type 0} → Rule A → Peek → Bool
begins (nothing a) k = false
begins (mark word) k = sees word k
begins (one_of meaning) k = is_some (meaning_at meaning k)
begins name k = is_name k
begins number k = is_digits k
begins reference k = is_name k
begins value k = true
begins sum k = may_begin_expr k
begins (condition aggs) k = true
begins (both f r q) k = or_next (is_empty r) (begins r k) (begins q k)
begins (either r q) k = begins r k || begins q k
begins (listed r) k = begins r k
begins (repeated r) k = begins r k
begins (only test r) k = begins r k

-- ---- the parser

abbrev pub below_limit : ℕ → Parser ℕ
below_limit n = λ s. if nat_lt n (2 ^ 63) then Some (n, s) else None

abbrev pub passed : {A : Type 0} → Option A → Parser A
passed (Some x) = skip >> pure x
passed None = refuse

abbrev pub chosen : {A : Type 0} → Bool → Parser A → Parser A → Parser A
chosen true first second = first
chosen false first second = second

abbrev pub goes_on : {X : Type 0} → Bool → Parser X → (List X → Parser (List X)) → List X → Parser (List X)
goes_on true member go found = member >>= λ x. go (found ++ x ∷ [])
goes_on false member go found = pure found

-- the number bounds the turns; each takes a token, so the count of tokens is enough
unfoldable pub repeat_from : {X : Type 0} → (Peek → Bool) → Parser X → ℕ → List X → Parser (List X)
repeat_from starts member zero found = pure found
repeat_from starts member (suc n) found = next >>= λ k. goes_on (starts k) member (repeat_from starts member n) found

abbrev pub repeat : {X : Type 0} → (Peek → Bool) → Parser X → Parser (List X)
repeat starts member = λ s. repeat_from starts member (length s.rest) [] s

abbrev pub kept : {A : Type 0} → (A → Bool) → A → Parser A
kept test x = λ s. if test x then Some (x, s) else None

abbrev pub read : {A : Type 0} → Rule A → Parser A
read (nothing a) = pure a
read (mark word) = expect word
read (one_of meaning) = next >>= λ k. passed (meaning_at meaning k)
read name = r.name
read number = digits >>= below_limit
read reference = expr.reference
read value = parts.value
read sum = item_sum
read (condition aggs) = parts.condition aggs
read (both f r q) = read r >>= λ a. read q >>= λ b. pure (f a b)
read (either r q) = next >>= λ k. chosen (begins r k) (read r) (read q)
read (listed r) = list (read r)
read (repeated r) = repeat (begins r) (read r)
read (only test r) = read r >>= kept test
