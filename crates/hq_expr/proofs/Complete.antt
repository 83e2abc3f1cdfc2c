-- What is spelled is read.
use Rattle.std.proofs.Common.{◌≡◌, ℕ, zero, suc, ◌+◌, ◌^◌, ◌<◌, ◌≤◌, Bool, true, false, cond, List, [], ◌∷◌, Some, None, Option, pos, refl, sym, ap, ◌∙◌, zero-add, lt-ltb, arith}
use Rattle.std.proofs.Math.Numerals.{one-add}
use Rattle.std.proofs.lemmas.Bool.{le-leb}
use Rattle.hq_expr.specs.State.{State}
use Rattle.hq_expr.specs.Words.{Level, Rule, Many, Factor, Neg, Test, Operand, Sum, Term, Cond, Both, part, joins, compares, aggregates}
use Rattle.hq_expr.specs.Reader as r
use Rattle.hq_expr.specs.Reader.{Parser, peek, ◌>>=◌, ◌>>◌}
use Rattle.hq_expr.specs.Reading as read
use Rattle.hq_expr.specs.Grammar.{Spells, SpellsLiteral, SpellsRef}
use Rattle.hq_expr.specs.Grammar as g
use Rattle.hq_expr.specs.declared.cursor.Peek.{Peek}
use Rattle.hq_expr.specs.declared.cursor.Peek.TheVariants as p
use Rattle.hq_expr.specs.declared.lexeme.Lexeme.{Lexeme}
use Rattle.hq_expr.specs.declared.lexeme.Lexeme.TheVariants as lexeme
use Rattle.hq_expr.specs.declared.mark.Mark.{Mark}
use Rattle.hq_expr.specs.declared.mark.Mark.TheVariants as m
use Rattle.hq_value.specs.declared.operator.ArithKind.TheVariants.{Minus}
use Rattle.hq_expr.specs.declared.tree.Literal.TheVariants as lit
use Rattle.hq_expr.specs.declared.tree.SqlExpr.{SqlExpr}
use Rattle.hq_expr.specs.declared.tree.SqlExpr.TheVariants as e

abbrev pub st : ℕ → List Lexeme → State
st left rest = record { left = left; rest = rest }

-- a sign of a level goes on, another doesn't
pub chain_step : (level : Level) (P : Parser SqlExpr) (t l n : ℕ) (x y : SqlExpr) (join : SqlExpr → SqlExpr → SqlExpr) (sign : Mark) (mid rest : List Lexeme)
    → joins level sign ≡ Some join → P (st l mid) ≡ Some (y, st n rest)
    → read.chain level P (suc t) x (st (suc l) (lexeme.Mark sign ∷ mid)) ≡ read.chain level P t (join x y) (st n rest)
unfolding read.chain
chain_step level P t l n x y join sign mid rest is reads = rw (is, reads) refl

pub chain_stop : (level : Level) (P : Parser SqlExpr) (t : ℕ) (x : SqlExpr) (s : State)
    → read.joined level (peek s.rest) ≡ None → read.chain level P t x s ≡ Some (x, s)
unfolding read.chain
chain_stop level P zero x s ends = refl
chain_stop level P (suc t) x s ends = rw ends refl

-- ---- what may follow

abbrev pub is_dot : Peek → Bool
is_dot (p.Mark m.Dot) = true
is_dot _ = false

abbrev pub is_is : Peek → Bool
is_is (p.Mark m.Is) = true
is_is _ = false

-- no part of the rule goes on with such a token
pub record NoDot (k : Peek) : Type 0 where
  pub dot : is_dot k ≡ false

pub record EndsTest (k : Peek) : Type 0 where
  pub dot : NoDot k
  pub is : is_is k ≡ false
  pub compares : read.compares_at k ≡ None

pub record EndsMany (level : Level) (Ends : Type 0) (k : Peek) : Type 0 where
  pub inner : Ends
  pub joins : read.joined level k ≡ None

abbrev pub Ends : Rule → Peek → Type 0
Ends Operand k = NoDot k
Ends Factor k = NoDot k
Ends (Many Term) k = EndsMany Term (NoDot k) k
Ends (Many Sum) k = EndsMany Sum (EndsMany Term (NoDot k) k) k
Ends Test k = EndsTest k
Ends Neg k = EndsTest k
Ends (Many Both) k = EndsMany Both (EndsTest k) k
Ends (Many Cond) k = EndsMany Cond (EndsMany Both (EndsTest k) k) k

-- what ends a level ends its parts, and doesn't join them
pub ends_part : (level : Level) (k : Peek) → Ends (Many level) k → Ends (part level) k × (read.joined level k ≡ None)
ends_part Sum k h = (h.inner, h.joins)
ends_part Term k h = (h.inner, h.joins)
ends_part Cond k h = (h.inner, h.joins)
ends_part Both k h = (h.inner, h.joins)

-- a sign between two parts ends the first
pub ends_sign : (level : Level) (sign : Mark) (join : SqlExpr → SqlExpr → SqlExpr) → joins level sign ≡ Some join → Ends (part level) (p.Mark sign)
ends_sign Sum m.Plus join h = record { inner = record { dot = refl }; joins = refl }
ends_sign Sum m.Minus join h = record { inner = record { dot = refl }; joins = refl }
ends_sign Sum _ join h = cc
ends_sign Term m.Star join h = record { dot = refl }
ends_sign Term _ join h = cc
ends_sign Cond m.Or join h = record { inner = record { dot = record { dot = refl }; is = refl; compares = refl }; joins = refl }
ends_sign Cond _ join h = cc
ends_sign Both m.And join h = record { dot = record { dot = refl }; is = refl; compares = refl }
ends_sign Both _ join h = cc

ends_compare : (sign : Mark) (kind : _) → compares sign ≡ Some kind → NoDot (p.Mark sign) × (is_is (p.Mark sign) ≡ false)
ends_compare m.Dot kind h = cc
ends_compare m.Is kind h = cc
ends_compare _ kind h = (record { dot = refl }, refl)

-- ---- which parser reads a rule

abbrev pub inner_of : ℕ → Parser SqlExpr
inner_of zero = λ s. None
inner_of (suc d) = read.sum (read.factor d false)

abbrev pub reads : ℕ → Bool → Rule → Parser SqlExpr
reads d a Operand = read.operand a (inner_of d)
reads d a Factor = read.factor d a
reads d a (Many Term) = read.term (read.factor d a)
reads d a (Many Sum) = read.sum (read.factor d a)
reads d a Test = read.test_at (read.operand a (inner_of d))
reads d a Neg = read.neg d a
reads d a (Many Both) = read.both (read.neg d a)
reads d a (Many Cond) = read.cond (read.neg d a)

pub reads_many : (d : ℕ) (a : Bool) (level : Level) → reads d a (Many level) ≡ read.many level (reads d a (part level))
reads_many d a Sum = refl
reads_many d a Term = refl
reads_many d a Cond = refl
reads_many d a Both = refl

-- ---- literals and references

pub complete_literal : {ts rest : List Lexeme} {x : _} {n : ℕ} → SpellsLiteral ts x n rest → (l : ℕ) → read.literal (st (n + l) ts) ≡ Some (x, st l rest)
unfolding read.literal read.negated r.digits r.text
complete_literal g.null l = rw zero-add refl
complete_literal g.yes l = rw zero-add refl
complete_literal g.no l = rw zero-add refl
complete_literal g.text l = rw zero-add refl
complete_literal (g.number {n = n} below) l = rw (zero-add, lt-ltb n (2 ^ 63) below) refl
complete_literal (g.minus {n = n} below) l = rw (one-add, le-leb n (2 ^ 63) below) refl

pub complete_ref : {ts rest : List Lexeme} {x : _} → SpellsRef ts x rest → (l : ℕ) → NoDot (peek rest) → read.reference (st l ts) ≡ Some (x, st l rest)
unfolding read.reference r.name
complete_ref (g.bare {c = c} {rest = rest}) l ends = go (peek rest) ends.dot
  where
    go : (k : Peek) → is_dot k ≡ false → read.reference_by c k (st l rest) ≡ Some (record { source = None; column = c }, st l rest)
    go (p.Mark m.Dot) h = cc
    go _ h = refl
complete_ref g.dotted l ends = refl

-- ---- first tokens

-- a factor that is an operand is read as one
factor_word : (a : Bool) (below inner : Parser SqlExpr) (word : Mark) (kind : _) → aggregates word ≡ Some kind
    → read.factor_by a below inner (r.start_of (p.Mark word)) ≡ read.operand a inner
factor_word a below inner m.Open kind h = cc
factor_word a below inner m.Minus kind h = cc
factor_word a below inner _ kind h = refl

factor_literal : {ts rest : List Lexeme} {x : _} {n : ℕ} (a : Bool) (below inner : Parser SqlExpr) (l : ℕ) → SpellsLiteral ts x n rest
    → read.factor_by a below inner (r.start_of (peek ts)) (st l ts) ≡ read.operand a inner (st l ts)
unfolding read.operand read.literal
factor_literal a below inner l g.null = refl
factor_literal a below inner l g.yes = refl
factor_literal a below inner l g.no = refl
factor_literal a below inner l g.text = refl
factor_literal a below inner l (g.number below') = refl
factor_literal a below inner zero (g.minus below') = refl
factor_literal a below inner (suc l) (g.minus below') = refl

factor_starts : {a : Bool} {ts rest : List Lexeme} {x : SqlExpr} {n : ℕ} (below inner : Parser SqlExpr) (l : ℕ) → Spells a Operand ts x n rest
    → read.factor_by a below inner (r.start_of (peek ts)) (st l ts) ≡ read.operand a inner (st l ts)
factor_starts {a = a} below inner l (g.operand_literal h) = factor_literal a below inner l h
factor_starts below inner l (g.operand_ref g.bare) = refl
factor_starts below inner l (g.operand_ref g.dotted) = refl
factor_starts below inner l g.count_all = refl
factor_starts below inner l (g.aggregate {ts = ts} {word = word} {kind = kind} is h) =
    ap (λ (P : Parser SqlExpr). P (st l (lexeme.Mark word ∷ lexeme.Mark m.Open ∷ ts))) (factor_word true below inner word kind is)

neg_word : (a : Bool) (below inner : Parser SqlExpr) (word : Mark) (kind : _) → aggregates word ≡ Some kind
    → read.neg_by a below inner (r.start_of (p.Mark word)) ≡ read.test_at (read.operand a inner)
neg_word a below inner m.Open kind h = cc
neg_word a below inner m.Not kind h = cc
neg_word a below inner _ kind h = refl

neg_literal : {ts rest : List Lexeme} {x : _} {n : ℕ} (a : Bool) (below inner : Parser SqlExpr) → SpellsLiteral ts x n rest
    → read.neg_by a below inner (r.start_of (peek ts)) ≡ read.test_at (read.operand a inner)
neg_literal a below inner g.null = refl
neg_literal a below inner g.yes = refl
neg_literal a below inner g.no = refl
neg_literal a below inner g.text = refl
neg_literal a below inner (g.number h) = refl
neg_literal a below inner (g.minus h) = refl

neg_operand : {a : Bool} {ts rest : List Lexeme} {x : SqlExpr} {n : ℕ} (below inner : Parser SqlExpr) → Spells a Operand ts x n rest
    → read.neg_by a below inner (r.start_of (peek ts)) ≡ read.test_at (read.operand a inner)
neg_operand {a = a} below inner (g.operand_literal h) = neg_literal a below inner h
neg_operand below inner (g.operand_ref g.bare) = refl
neg_operand below inner (g.operand_ref g.dotted) = refl
neg_operand below inner g.count_all = refl
neg_operand below inner (g.aggregate {word = word} {kind = kind} is h) = neg_word true below inner word kind is

neg_starts : {a : Bool} {ts rest : List Lexeme} {x : SqlExpr} {n : ℕ} (below inner : Parser SqlExpr) → Spells a Test ts x n rest
    → read.neg_by a below inner (r.start_of (peek ts)) ≡ read.test_at (read.operand a inner)
neg_starts below inner (g.test_operand h) = neg_operand below inner h
neg_starts below inner (g.test_compare h is h') = neg_operand below inner h
neg_starts below inner (g.test_null h) = neg_operand below inner h
neg_starts below inner (g.test_not_null h) = neg_operand below inner h

-- a star or DISTINCT, with which no rule begins
abbrev pub begins_no_rule : Peek → Bool
begins_no_rule (p.Mark m.Star) = true
begins_no_rule (p.Mark m.Distinct) = true
begins_no_rule _ = false

word_front : (word : Mark) (kind : _) → aggregates word ≡ Some kind → begins_no_rule (p.Mark word) ≡ false
word_front m.Star kind h = cc
word_front m.Distinct kind h = cc
word_front _ kind h = refl

literal_front : {ts rest : List Lexeme} {x : _} {n : ℕ} → SpellsLiteral ts x n rest → begins_no_rule (peek ts) ≡ false
literal_front g.null = refl
literal_front g.yes = refl
literal_front g.no = refl
literal_front g.text = refl
literal_front (g.number h) = refl
literal_front (g.minus h) = refl

-- no rule begins with a star or DISTINCT
pub rule_front : {a : Bool} {rule : Rule} {ts rest : List Lexeme} {x : SqlExpr} {n : ℕ} → Spells a rule ts x n rest → begins_no_rule (peek ts) ≡ false
rule_front (g.one h) = rule_front h
rule_front (g.more h is h') = rule_front h
rule_front (g.factor_operand h) = rule_front h
rule_front (g.factor_group h) = refl
rule_front (g.factor_minus is h) = refl
rule_front (g.neg_not h) = refl
rule_front (g.neg_group h) = refl
rule_front (g.neg_test h) = rule_front h
rule_front (g.test_operand h) = rule_front h
rule_front (g.test_compare h is h') = rule_front h
rule_front (g.test_null h) = rule_front h
rule_front (g.test_not_null h) = rule_front h
rule_front (g.operand_literal h) = literal_front h
rule_front (g.operand_ref g.bare) = refl
rule_front (g.operand_ref g.dotted) = refl
rule_front g.count_all = refl
rule_front (g.aggregate {word = word} {kind = kind} is h) = word_front word kind is

count_inner : (inner : Parser SqlExpr) (kind : _) (k : Peek) → begins_no_rule k ≡ false
    → read.count_by inner kind k ≡ (inner >>= λ x. r.expect m.Close >> r.pure (e.Aggregate kind x))
count_inner inner kind (p.Mark m.Star) h = cc
count_inner inner kind _ h = refl

-- ---- the theorem

-- what is to be shown of a derivation: a level may go on, so it is read as far as its loop
abbrev pub Goal : Bool → Rule → List Lexeme → SqlExpr → ℕ → List Lexeme → ℕ → ℕ → Type 0
Goal a (Many level) ts x n rest d l = Ends (part level) (peek rest)
    → (turns : ℕ) × (l ≤ turns) × (reads d a (Many level) (st (n + l) ts) ≡ read.chain level (reads d a (part level)) turns x (st l rest))
Goal a Factor ts x n rest d l = NoDot (peek rest) → reads d a Factor (st (n + l) ts) ≡ Some (x, st l rest)
Goal a Operand ts x n rest d l = NoDot (peek rest) → reads d a Operand (st (n + l) ts) ≡ Some (x, st l rest)
Goal a Neg ts x n rest d l = EndsTest (peek rest) → reads d a Neg (st (n + l) ts) ≡ Some (x, st l rest)
Goal a Test ts x n rest d l = EndsTest (peek rest) → reads d a Test (st (n + l) ts) ≡ Some (x, st l rest)

pub whole : (a : Bool) (rule : Rule) (ts rest : List Lexeme) (x : SqlExpr) (n d l : ℕ) → Goal a rule ts x n rest d l → Ends rule (peek rest)
    → reads d a rule (st (n + l) ts) ≡ Some (x, st l rest)
whole a (Many level) ts rest x n d l goal ends =
    let parts = ends_part level (peek rest) ends in
    let found = goal parts.0 in
    found.2 ∙ chain_stop level (reads d a (part level)) found.0 x (st l rest) parts.1
whole a Factor ts rest x n d l goal ends = goal ends
whole a Operand ts rest x n d l goal ends = goal ends
whole a Neg ts rest x n d l goal ends = goal ends
whole a Test ts rest x n d l goal ends = goal ends

begin_many : (a : Bool) (level : Level) (ts rest : List Lexeme) (x : SqlExpr) (n d l : ℕ)
    → reads d a (part level) (st (n + l) ts) ≡ Some (x, st l rest)
    → reads d a (Many level) (st (n + l) ts) ≡ read.chain level (reads d a (part level)) l x (st l rest)
unfolding read.many
begin_many a level ts rest x n d l e = rw (reads_many d a level, e) refl

go_on : (a : Bool) (level : Level) (ts mid rest : List Lexeme) (x y : SqlExpr) (k n d l turns : ℕ) (sign : Mark) (join : SqlExpr → SqlExpr → SqlExpr)
    → joins level sign ≡ Some join → suc (n + l) ≤ turns
    → reads d a (Many level) (st (k + suc (n + l)) ts) ≡ read.chain level (reads d a (part level)) turns x (st (suc (n + l)) (lexeme.Mark sign ∷ mid))
    → reads d a (part level) (st (n + l) mid) ≡ Some (y, st l rest)
    → (turns' : ℕ) × (l ≤ turns') × (reads d a (Many level) (st ((k + suc n) + l) ts) ≡ read.chain level (reads d a (part level)) turns' (join x y) (st l rest))
go_on a level ts mid rest x y k n d l zero sign join is h first second = absurd (omega arith)
go_on a level ts mid rest x y k n d l (suc t) sign join is h first second =
    let e : (k + suc n) + l ≡ k + suc (n + l) = omega arith in
    (t, omega arith, rw e (first ∙ chain_step level (reads d a (part level)) t (n + l) l x y join sign mid rest is second))

-- one step of each rule, with what is read below it given

suc_add : (n l : ℕ) → suc n + l ≡ suc (n + l)
suc_add n l = omega arith

factor_to_operand : (a : Bool) (d l : ℕ) (ts rest : List Lexeme) (x : SqlExpr) (n : ℕ) → Spells a Operand ts x n rest
    → reads (suc d) a Operand (st (n + l) ts) ≡ Some (x, st l rest) → read.factor (suc d) a (st (n + l) ts) ≡ Some (x, st l rest)
unfolding read.factor
factor_to_operand a d l ts rest x n h e = factor_starts (read.factor d a) (read.sum (read.factor d false)) (n + l) h ∙ e

group : (a : Bool) (d l : ℕ) (ts rest : List Lexeme) (x : SqlExpr) (n : ℕ) → read.sum (read.factor d a) (st (n + l) ts) ≡ Some (x, st l (lexeme.Mark m.Close ∷ rest))
    → read.factor (suc d) a (st (suc n + l) (lexeme.Mark m.Open ∷ ts)) ≡ Some (x, st l rest)
unfolding read.factor r.expect
group a d l ts rest x n e = rw (suc_add n l, e) refl

signed_below : (below : Parser SqlExpr) (ts : List Lexeme) → g.begins_digits ts ≡ false
    → read.signed_by below (peek ts) ≡ (below >>= λ x. r.pure (e.Arith Minus (e.Literal (lit.Int (pos 0))) x))
signed_below below [] h = refl
signed_below below (lexeme.Digits n ∷ ts) h = cc
signed_below below (lexeme.Mark k ∷ ts) h = refl
signed_below below (lexeme.Name k ∷ ts) h = refl
signed_below below (lexeme.Text k ∷ ts) h = refl
signed_below below (lexeme.Long ∷ ts) h = refl

minus : (a : Bool) (d l : ℕ) (ts rest : List Lexeme) (x : SqlExpr) (n : ℕ) → g.begins_digits ts ≡ false → read.factor d a (st (n + l) ts) ≡ Some (x, st l rest)
    → read.factor (suc d) a (st (suc n + l) (lexeme.Mark m.Minus ∷ ts)) ≡ Some (e.Arith Minus (e.Literal (lit.Int (pos 0))) x, st l rest)
unfolding read.factor
minus a d l ts rest x n no_digits e = rw (suc_add n l, signed_below (read.factor d a) ts no_digits, e) refl

not_below : (a : Bool) (d l : ℕ) (ts rest : List Lexeme) (x : SqlExpr) (n : ℕ) → read.neg d a (st (n + l) ts) ≡ Some (x, st l rest)
    → read.neg (suc d) a (st (suc n + l) (lexeme.Mark m.Not ∷ ts)) ≡ Some (e.Not x, st l rest)
unfolding read.neg
not_below a d l ts rest x n e = rw (suc_add n l, e) refl

cond_group : (a : Bool) (d l : ℕ) (ts rest : List Lexeme) (x : SqlExpr) (n : ℕ) → read.cond (read.neg d a) (st (n + l) ts) ≡ Some (x, st l (lexeme.Mark m.Close ∷ rest))
    → read.neg (suc d) a (st (suc n + l) (lexeme.Mark m.Open ∷ ts)) ≡ Some (x, st l rest)
unfolding read.neg r.expect
cond_group a d l ts rest x n e = rw (suc_add n l, e) refl

neg_to_test : (a : Bool) (d l : ℕ) (ts rest : List Lexeme) (x : SqlExpr) (n : ℕ) → Spells a Test ts x n rest
    → reads (suc d) a Test (st (n + l) ts) ≡ Some (x, st l rest) → read.neg (suc d) a (st (n + l) ts) ≡ Some (x, st l rest)
unfolding read.neg
neg_to_test a d l ts rest x n h e = rw (neg_starts (read.neg d a) (read.sum (read.factor d false)) h) e

test_plain : (P : Parser SqlExpr) (x : SqlExpr) (k : Peek) → is_is k ≡ false → read.test_by P x k ≡ read.compared P x (read.compares_at k)
test_plain P x (p.Mark m.Is) h = cc
test_plain P x _ h = refl

test_one : (P : Parser SqlExpr) (s : State) (x : SqlExpr) (l : ℕ) (rest : List Lexeme) → EndsTest (peek rest) → P s ≡ Some (x, st l rest) → read.test_at P s ≡ Some (x, st l rest)
unfolding read.test_at
test_one P s x l rest ends e = rw (e, test_plain P x (peek rest) ends.is, ends.compares) refl

test_two : (P : Parser SqlExpr) (s : State) (x y : SqlExpr) (n l : ℕ) (sign : Mark) (kind : _) (mid rest : List Lexeme) → compares sign ≡ Some kind
    → P s ≡ Some (x, st (suc n) (lexeme.Mark sign ∷ mid)) → P (st n mid) ≡ Some (y, st l rest) → read.test_at P s ≡ Some (e.Compare kind x y, st l rest)
unfolding read.test_at
test_two P s x y n l sign kind mid rest is first second = rw (first, test_plain P x (p.Mark sign) (ends_compare sign kind is).1, is, second) refl

test_is_null : (P : Parser SqlExpr) (s : State) (x : SqlExpr) (l : ℕ) (rest : List Lexeme)
    → P s ≡ Some (x, st (suc l) (lexeme.Mark m.Is ∷ lexeme.Mark m.Null ∷ rest)) → read.test_at P s ≡ Some (e.IsNull x, st l rest)
unfolding read.test_at
test_is_null P s x l rest first = rw first refl

test_is_not_null : (P : Parser SqlExpr) (s : State) (x : SqlExpr) (l : ℕ) (rest : List Lexeme)
    → P s ≡ Some (x, st (suc (suc l)) (lexeme.Mark m.Is ∷ lexeme.Mark m.Not ∷ lexeme.Mark m.Null ∷ rest)) → read.test_at P s ≡ Some (e.Not (e.IsNull x), st l rest)
unfolding read.test_at r.expect
test_is_not_null P s x l rest first = rw first refl

operand_plain : {ts rest : List Lexeme} {x : _} {n : ℕ} (a : Bool) (inner : Parser SqlExpr) (l : ℕ) → SpellsLiteral ts x n rest
    → read.operand a inner (st l ts) ≡ (read.literal >>= λ v. r.pure (e.Literal v)) (st l ts)
unfolding read.operand
operand_plain a inner l g.null = refl
operand_plain a inner l g.yes = refl
operand_plain a inner l g.no = refl
operand_plain a inner l g.text = refl
operand_plain a inner l (g.number h) = refl
operand_plain a inner l (g.minus h) = refl

literal_operand : (a : Bool) (inner : Parser SqlExpr) (l : ℕ) (ts rest : List Lexeme) (x : _) (n : ℕ) → SpellsLiteral ts x n rest
    → read.operand a inner (st (n + l) ts) ≡ Some (e.Literal x, st l rest)
literal_operand a inner l ts rest x n h = rw (operand_plain a inner (n + l) h, complete_literal h l) refl

ref_operand : (a : Bool) (inner : Parser SqlExpr) (l : ℕ) (ts rest : List Lexeme) (x : _) → SpellsRef ts x rest → NoDot (peek rest)
    → read.operand a inner (st (0 + l) ts) ≡ Some (e.Column x, st l rest)
unfolding read.operand
ref_operand a inner l ts rest x (g.bare {c = c}) ends = rw (zero-add, complete_ref (g.bare {c = c} {rest = rest}) l ends) refl
ref_operand a inner l ts rest x (g.dotted {s = s} {c = c}) ends = rw (zero-add, complete_ref (g.dotted {s = s} {c = c} {rest = rest}) l ends) refl

all_operand : (inner : Parser SqlExpr) (l : ℕ) (rest : List Lexeme)
    → read.operand true inner (st (1 + l) (lexeme.Mark m.Count ∷ lexeme.Mark m.Open ∷ lexeme.Mark m.Star ∷ lexeme.Mark m.Close ∷ rest)) ≡ Some (e.CountAll, st l rest)
unfolding read.operand read.aggregate r.expect
all_operand inner l rest = rw one-add refl

aggregate_operand : (inner : Parser SqlExpr) (l n : ℕ) (ts rest : List Lexeme) (x : SqlExpr) (word : Mark) (kind : _) → aggregates word ≡ Some kind
    → begins_no_rule (peek ts) ≡ false → inner (st (n + l) ts) ≡ Some (x, st l (lexeme.Mark m.Close ∷ rest))
    → read.operand true inner (st (suc n + l) (lexeme.Mark word ∷ lexeme.Mark m.Open ∷ ts)) ≡ Some (e.Aggregate kind x, st l rest)
unfolding read.operand read.aggregate r.expect
aggregate_operand inner l n ts rest x word kind is other e = rw (suc_add n l, is, count_inner inner kind (peek ts) other, e) refl

close_sum : Ends (Many Sum) (p.Mark m.Close)
close_sum = record { inner = record { inner = record { dot = refl }; joins = refl }; joins = refl }

close_cond : Ends (Many Cond) (p.Mark m.Close)
close_cond = record { inner = record { inner = record { dot = record { dot = refl }; is = refl; compares = refl }; joins = refl }; joins = refl }

pub complete : {a : Bool} {rule : Rule} {ts rest : List Lexeme} {x : SqlExpr} {n : ℕ} → Spells a rule ts x n rest → (d l : ℕ) → n < d → Goal a rule ts x n rest d l
complete (g.one {a = a} {level = level} {ts = ts} {rest = rest} {x = x} {n = n} h) d l lt = λ ends.
    (l, omega arith, begin_many a level ts rest x n d l (whole a (part level) ts rest x n d l (complete h d l lt) ends))
complete (g.more {a = a} {level = level} {ts = ts} {mid = mid} {rest = rest} {x = x} {y = y} {k = k} {n = n} {sign = sign} {join = join} h is h') d l lt = λ ends.
    let first = complete h d (suc (n + l)) (omega arith) (ends_sign level sign join is) in
    go_on a level ts mid rest x y k n d l first.0 sign join is first.1 first.2 (whole a (part level) mid rest y n d l (complete h' d l (omega arith)) ends)
complete (g.factor_operand h) zero l lt = absurd (omega arith)
complete (g.factor_operand {a = a} {ts = ts} {rest = rest} {x = x} {n = n} h) (suc d) l lt = λ ends.
    factor_to_operand a d l ts rest x n h (complete h (suc d) l lt ends)
complete (g.factor_group h) zero l lt = absurd (omega arith)
complete (g.factor_group {a = a} {ts = ts} {rest = rest} {x = x} {n = n} h) (suc d) l lt = λ ends.
    group a d l ts rest x n (whole a (Many Sum) ts (lexeme.Mark m.Close ∷ rest) x n d l (complete h d l (omega arith)) close_sum)
complete (g.factor_minus is h) zero l lt = absurd (omega arith)
complete (g.factor_minus {a = a} {ts = ts} {rest = rest} {x = x} {n = n} is h) (suc d) l lt = λ ends. minus a d l ts rest x n is (complete h d l (omega arith) ends)
complete (g.neg_not h) zero l lt = absurd (omega arith)
complete (g.neg_not {a = a} {ts = ts} {rest = rest} {x = x} {n = n} h) (suc d) l lt = λ ends. not_below a d l ts rest x n (complete h d l (omega arith) ends)
complete (g.neg_group h) zero l lt = absurd (omega arith)
complete (g.neg_group {a = a} {ts = ts} {rest = rest} {x = x} {n = n} h) (suc d) l lt = λ ends.
    cond_group a d l ts rest x n (whole a (Many Cond) ts (lexeme.Mark m.Close ∷ rest) x n d l (complete h d l (omega arith)) close_cond)
complete (g.neg_test h) zero l lt = absurd (omega arith)
complete (g.neg_test {a = a} {ts = ts} {rest = rest} {x = x} {n = n} h) (suc d) l lt = λ ends. neg_to_test a d l ts rest x n h (complete h (suc d) l lt ends)
complete (g.test_operand {a = a} {ts = ts} {rest = rest} {x = x} {n = n} h) d l lt = λ ends.
    test_one (reads d a Operand) (st (n + l) ts) x l rest ends (complete h d l lt ends.dot)
complete (g.test_compare {a = a} {ts = ts} {mid = mid} {rest = rest} {x = x} {y = y} {k = k} {n = n} {sign = sign} {kind = kind} h is h') d l lt = λ ends.
    let e : (k + suc n) + l ≡ k + suc (n + l) = omega arith in
    rw e (test_two (reads d a Operand) (st (k + suc (n + l)) ts) x y (n + l) l sign kind mid rest is
    (complete h d (suc (n + l)) (omega arith) (ends_compare sign kind is).0) (complete h' d l (omega arith) ends.dot))
complete (g.test_null {a = a} {ts = ts} {rest = rest} {x = x} {n = n} h) d l lt = λ ends.
    let e : suc n + l ≡ n + suc l = omega arith in
    rw e (test_is_null (reads d a Operand) (st (n + suc l) ts) x l rest (complete h d (suc l) (omega arith) (record { dot = refl })))
complete (g.test_not_null {a = a} {ts = ts} {rest = rest} {x = x} {n = n} h) d l lt = λ ends.
    let e : suc (suc n) + l ≡ n + suc (suc l) = omega arith in
    rw e (test_is_not_null (reads d a Operand) (st (n + suc (suc l)) ts) x l rest (complete h d (suc (suc l)) (omega arith) (record { dot = refl })))
complete (g.operand_literal {a = a} {ts = ts} {rest = rest} {x = x} {n = n} h) d l lt = λ ends. literal_operand a (inner_of d) l ts rest x n h
complete (g.operand_ref {a = a} {ts = ts} {rest = rest} {x = x} h) d l lt = λ ends. ref_operand a (inner_of d) l ts rest x h ends
complete (g.count_all {rest = rest}) d l lt = λ ends. all_operand (inner_of d) l rest
complete (g.aggregate is h) zero l lt = absurd (omega arith)
complete (g.aggregate {ts = ts} {rest = rest} {x = x} {n = n} {word = word} {kind = kind} is h) (suc d) l lt = λ ends.
    aggregate_operand (read.sum (read.factor d false)) l n ts rest x word kind is (rule_front h)
    (whole false (Many Sum) ts (lexeme.Mark m.Close ∷ rest) x n d l (complete h d l (omega arith)) close_sum)
