-- What is read is spelled.
use Rattle.std.proofs.Common.{subst, neg_ℤ, ◌≡◌, ℕ, zero, suc, ◌+◌, ◌^◌, ◌<◌, ◌≤◌, Bool, true, false, cond, List, [], ◌∷◌, Some, None, Option, pos, refl, sym, ap, ◌∙◌, ltb, leb, ltb-true, rules, arith}
use Rattle.std.proofs.lemmas.Bool.{leb-true}
use denote.Enum.Bare.{same_true}
use Rattle.hq_expr.specs.contracts.mark.Mark.{the_type}
use Rattle.hq_expr.specs.State.{State}
use Rattle.hq_expr.specs.Words.{Level, Rule, Many, Factor, Neg, Test, Operand, Sum, Term, Cond, Both, part, joins, compares, aggregates}
use Rattle.hq_expr.specs.Reader as r
use Rattle.hq_expr.specs.Reader.{Parser, peek, tail, and_then, ◌>>=◌, ◌>>◌}
use Rattle.hq_expr.specs.Reading as read
use Rattle.hq_expr.specs.Grammar.{Spells, SpellsLiteral, SpellsRef}
use Rattle.hq_expr.specs.Grammar as g
use Rattle.hq_expr.specs.declared.cursor.Peek.{Peek}
use Rattle.hq_expr.specs.declared.cursor.Peek.TheVariants as p
use Rattle.hq_expr.specs.declared.lexeme.Lexeme.{Lexeme}
use Rattle.hq_expr.specs.declared.lexeme.Lexeme.TheVariants as lexeme
use Rattle.hq_expr.specs.declared.mark.Mark.{Mark}
use Rattle.hq_expr.specs.declared.mark.Mark.TheVariants as m
use Rattle.hq_expr.specs.declared.tree.AggregateKind.{AggregateKind}
use Rattle.hq_expr.specs.declared.tree.AggregateKind.TheVariants as aggregate_kind
use Rattle.hq_value.specs.declared.operator.ArithKind.TheVariants.{Minus}
use Rattle.hq_expr.specs.declared.tree.Literal.{Literal}
use Rattle.hq_expr.specs.declared.tree.Literal.TheVariants as lit
use Rattle.hq_expr.specs.declared.tree.ColumnRef.{ColumnRef}
use Rattle.hq_expr.specs.declared.tree.SqlExpr.{SqlExpr}
use Rattle.hq_expr.specs.declared.tree.SqlExpr.TheVariants as e
use Rattle.hq_expr.proofs.Complete.{st}

-- ---- what a step that succeeds says

pub bind_some : {A B : Type 0} (o : Option (A × State)) (f : A → Parser B) (y : B × State) → and_then o f ≡ Some y
    → (q : A × State) × (o ≡ Some q) × (f q.0 q.1 ≡ Some y)
bind_some (Some q) f y h = (q, refl, h)
bind_some None f y h = cc

pub if_some : {A : Type 0} (b : Bool) (x y : A) → cond b (Some x) None ≡ Some y → (b ≡ true) × (x ≡ y)
if_some true x y h = (refl, cc)
if_some false x y h = cc

pub sees_mark : (mark : Mark) (ts : List Lexeme) → r.sees mark (peek ts) ≡ true → ts ≡ lexeme.Mark mark ∷ tail ts
sees_mark mark [] h = cc
sees_mark mark (lexeme.Mark found ∷ ts) h = let same : found ≡ mark = same_true the_type (search rules) _ _ h in ap (λ k. lexeme.Mark k ∷ ts) same
sees_mark mark (lexeme.Name _ ∷ ts) h = cc
sees_mark mark (lexeme.Digits _ ∷ ts) h = cc
sees_mark mark (lexeme.Text _ ∷ ts) h = cc
sees_mark mark (lexeme.Long ∷ ts) h = cc

pub expected : (mark : Mark) (s s' : State) → r.expect mark s ≡ Some (tt, s') → s ≡ st s'.left (lexeme.Mark mark ∷ s'.rest)
unfolding r.expect
expected mark s s' h =
    let found = if_some (r.sees mark (peek s.rest)) (tt, r.skipped s) (tt, s') h in
    let same : r.skipped s ≡ s' = ap (λ (q : Unit {0} × State). q.1) found.1 in
    rw (← same) (ap (λ ts. st s.left ts) (sees_mark mark s.rest found.0))

pub some_parts : {A : Type 0} (a b : A) (s t : State) → ◌≡◌ {A = Option (A × State)} (Some (a, s)) (Some (b, t)) → (a ≡ b) × (s ≡ t)
some_parts {A = A} a b s t h = let q : ◌≡◌ {A = A × State} (a, s) (b, t) = cc in (ap (λ (q : A × State). q.0) q, ap (λ (q : A × State). q.1) q)

pub pair_of : {A : Type 0} {a b : A} {s t : State} → a ≡ b → s ≡ t → ◌≡◌ {A = Option (A × State)} (Some (a, s)) (Some (b, t))
pair_of {a = a} {b = b} {s = s} {t = t} e f = ap (λ x. Some (x, s)) e ∙ ap (λ u. Some (b, u)) f

closed_end : {A : Type 0} (mark : Mark) (v x : A) (s s' : State) → (r.expect mark >> r.pure v) s ≡ Some (x, s')
    → ◌≡◌ {A = Option (A × State)} (Some (v, s)) (Some (x, st s'.left (lexeme.Mark mark ∷ s'.rest)))
closed_end mark v x s s' h =
    let found = bind_some (r.expect mark s) (λ _. r.pure v) (x, s') h in
    let parts = some_parts v x found.0.1 s' found.2 in
    pair_of parts.0 (expected mark s found.0.1 found.1 ∙ ap (λ u. st u.left (lexeme.Mark mark ∷ u.rest)) parts.1)

-- `P` and then a mark
pub closed_with : {A B : Type 0} (f : A → B) (mark : Mark) (P : Parser A) (s s' : State) (y : B) → (P >>= λ v. r.expect mark >> r.pure (f v)) s ≡ Some (y, s')
    → (x : A) × (P s ≡ Some (x, st s'.left (lexeme.Mark mark ∷ s'.rest))) × (f x ≡ y)
closed_with f mark P s s' y h =
    let found = bind_some (P s) (λ v. r.expect mark >> r.pure (f v)) (y, s') h in
    let closing = bind_some (r.expect mark found.0.1) (λ _. r.pure (f found.0.0)) (y, s') found.2 in
    let parts = some_parts (f found.0.0) y closing.0.1 s' closing.2 in
    (found.0.0, found.1 ∙ ap (λ u. Some (found.0.0, u)) (expected mark found.0.1 closing.0.1 closing.1 ∙ ap (λ u. st u.left (lexeme.Mark mark ∷ u.rest)) parts.1), parts.0)

-- `P` and then a mark
pub closed_by : {A : Type 0} (mark : Mark) (P : Parser A) (s s' : State) (x : A) → (P >>= λ v. r.expect mark >> r.pure v) s ≡ Some (x, s')
    → P s ≡ Some (x, st s'.left (lexeme.Mark mark ∷ s'.rest))
closed_by mark P s s' x h =
    let found = bind_some (P s) (λ v. r.expect mark >> r.pure v) (x, s') h in
    found.1 ∙ closed_end mark found.0.0 x found.0.1 s' found.2

pub mapped_by : {A B : Type 0} (f : A → B) (P : Parser A) (s s' : State) (y : B) → (P >>= λ v. r.pure (f v)) s ≡ Some (y, s')
    → (x : A) × (P s ≡ Some (x, s')) × (f x ≡ y)
mapped_by f P s s' y h =
    let found = bind_some (P s) (λ v. r.pure (f v)) (y, s') h in
    let parts = some_parts (f found.0.0) y found.0.1 s' found.2 in
    (found.0.0, found.1 ∙ ap (λ u. Some (found.0.0, u)) parts.1, parts.0)

-- ---- what was found

pub record Found (a : Bool) (rule : Rule) (left : ℕ) (ts : List Lexeme) (x : SqlExpr) (s : State) : Type 0 where
  pub n : ℕ
  pub count : left ≡ n + s.left
  pub spells : Spells a rule ts x n s.rest

abbrev pub IsSound : Bool → Rule → Parser SqlExpr → Type 0
IsSound a rule P = (left : ℕ) (ts : List Lexeme) (x : SqlExpr) (s : State) → P (st left ts) ≡ Some (x, s) → Found a rule left ts x s

-- ---- levels

pub joined_mark : (level : Level) (join : SqlExpr → SqlExpr → SqlExpr) (ts : List Lexeme) → read.joined level (peek ts) ≡ Some join
    → (sign : Mark) × (ts ≡ lexeme.Mark sign ∷ tail ts) × (joins level sign ≡ Some join)
joined_mark level join [] h = cc
joined_mark level join (lexeme.Mark sign ∷ ts) h = (sign, refl, h)
joined_mark level join (lexeme.Name _ ∷ ts) h = cc
joined_mark level join (lexeme.Digits _ ∷ ts) h = cc
joined_mark level join (lexeme.Text _ ∷ ts) h = cc
joined_mark level join (lexeme.Long ∷ ts) h = cc

-- the front of `all` spells x, with k operators, and the rest goes on
pub record Begun (a : Bool) (level : Level) (all : List Lexeme) (x : SqlExpr) (k left : ℕ) (s : State) : Type 0 where
  pub n : ℕ
  pub count : k + left ≡ n + s.left
  pub spells : Spells a (Many level) all x n s.rest

begun_at : {a : Bool} {level : Level} {all : List Lexeme} {x y : SqlExpr} {k left : ℕ} {s t : State} → x ≡ y → s ≡ t → Begun a level all x k left s → Begun a level all y k left t
begun_at e f b = rw (← e, ← f) b

spent : (level : Level) (P : Parser SqlExpr) (go : SqlExpr → Parser SqlExpr) (x : SqlExpr) (join : SqlExpr → SqlExpr → SqlExpr) (left : ℕ) (ts : List Lexeme) (y : SqlExpr × State)
    → read.linked P go x (Some join) (st left ts) ≡ Some y
    → (left' : ℕ) × (left ≡ suc left') × (and_then (P (st left' (tail ts))) (λ right. go (join x right)) ≡ Some y)
spent level P go x join zero ts y h = cc
spent level P go x join (suc left) ts y h = (left, refl, h)

sound_chain : (a : Bool) (level : Level) (P : Parser SqlExpr) → IsSound a (part level) P → (turns : ℕ) (all : List Lexeme) (x : SqlExpr) (k left : ℕ) (ts : List Lexeme)
    → Spells a (Many level) all x k ts → (y : SqlExpr) (s : State) → read.chain level P turns x (st left ts) ≡ Some (y, s) → Begun a level all y k left s
unfolding read.chain
sound_chain a level P sound zero all x k left ts spells y s h =
    let parts = some_parts x y (st left ts) s h in begun_at parts.0 parts.1 (record { n = k; count = refl; spells = spells })
sound_chain a level P sound (suc t) all x k left ts spells y s h =
    go (read.joined level (peek ts)) refl h (λ x k left ts spells h. sound_chain a level P sound t all x k left ts spells y s h)
  where
    go : (o : Option (SqlExpr → SqlExpr → SqlExpr)) → read.joined level (peek ts) ≡ o → read.linked P (read.chain level P t) x o (st left ts) ≡ Some (y, s)
        → ((x : SqlExpr) (k left : ℕ) (ts : List Lexeme) → Spells a (Many level) all x k ts → read.chain level P t x (st left ts) ≡ Some (y, s) → Begun a level all y k left s)
        → Begun a level all y k left s
    go None is h again = let parts = some_parts x y (st left ts) s h in begun_at parts.0 parts.1 (record { n = k; count = refl; spells = spells })
    go (Some join) is h again =
        let sign = joined_mark level join ts is in
        let paid = spent level P (read.chain level P t) x join left ts (y, s) h in
        let right = bind_some (P (st paid.0 (tail ts))) (λ right. read.chain level P t (join x right)) (y, s) paid.2 in
        let found = sound paid.0 (tail ts) right.0.0 right.0.1 right.1 in
        let whole : Spells a (Many level) all (join x right.0.0) (k + suc found.n) right.0.1.rest = g.more (rw sign.1 at spells) sign.2 found.spells in
        let rest = again (join x right.0.0) (k + suc found.n) right.0.1.left right.0.1.rest whole right.2 in
        record { n = rest.n; count = omega (arith, rest.count, paid.1, found.count); spells = rest.spells }

sound_many : (a : Bool) (level : Level) (P : Parser SqlExpr) → IsSound a (part level) P → IsSound a (Many level) (read.many level P)
unfolding read.many
sound_many a level P sound left ts x s h =
    let first = bind_some (P (st left ts)) (λ v. λ u. read.chain level P u.left v u) (x, s) h in
    let found = sound left ts first.0.0 first.0.1 first.1 in
    let rest = sound_chain a level P sound first.0.1.left ts first.0.0 found.n first.0.1.left first.0.1.rest (g.one found.spells) x s first.2 in
    record { n = rest.n; count = omega (arith, rest.count, found.count); spells = rest.spells }

pub guarded : {A : Type 0} (b : Bool) (P : Parser A) (s : State) (y : A × State) → cond b P (λ _. None) s ≡ Some y → (b ≡ true) × (P s ≡ Some y)
guarded true P s y h = (refl, h)
guarded false P s y h = cc

pub moved : {a : Bool} {rule : Rule} {left : ℕ} {ts : List Lexeme} {x y : SqlExpr} {s : State} → x ≡ y → Found a rule left ts x s → Found a rule left ts y s
moved e f = rw (← e) f

restated : {a : Bool} {rule : Rule} {left left' : ℕ} {ts ts' : List Lexeme} {x : SqlExpr} {s : State} → left ≡ left' → ts ≡ ts' → Found a rule left' ts' x s → Found a rule left ts x s
restated e e' f = rw (e, e') f

-- ---- literals and references

pub record FoundLiteral (left : ℕ) (ts : List Lexeme) (x : Literal) (s : State) : Type 0 where
  pub n : ℕ
  pub count : left ≡ n + s.left
  pub spells : SpellsLiteral ts x n s.rest

literal_at : {left : ℕ} {ts rest : List Lexeme} {x y : Literal} {n : ℕ} {l : ℕ} {s : State} → SpellsLiteral ts x n rest → left ≡ n + l
    → ◌≡◌ {A = Option (Literal × State)} (Some (x, st l rest)) (Some (y, s)) → FoundLiteral left ts y s
literal_at {left = left} {ts = ts} {rest = rest} {x = x} {y = y} {n = n} {l = l} {s = s} spells count h =
    let parts = some_parts x y (st l rest) s h in
    let same : FoundLiteral left ts x (st l rest) = record { n = n; count = count; spells = spells } in
    subst (λ v. FoundLiteral left ts v s) parts.0 (subst (λ u. FoundLiteral left ts x u) parts.1 same)

sound_negated : (left : ℕ) (ts : List Lexeme) (x : Literal) (s : State) → read.negated (st left ts) ≡ Some (x, s) → FoundLiteral (suc left) (lexeme.Mark m.Minus ∷ ts) x s
unfolding read.negated r.digits
sound_negated left [] x s h = cc
sound_negated left (lexeme.Digits n ∷ ts) x s h =
    let held = guarded (leb n (2 ^ 63)) (r.pure (lit.Int (neg_ℤ (pos n)))) (st left ts) (x, s) h in
    literal_at (g.minus (leb-true n (2 ^ 63) held.0)) (omega arith) held.1
sound_negated left (lexeme.Mark _ ∷ ts) x s h = cc
sound_negated left (lexeme.Name _ ∷ ts) x s h = cc
sound_negated left (lexeme.Text _ ∷ ts) x s h = cc
sound_negated left (lexeme.Long ∷ ts) x s h = cc

pub sound_literal : (left : ℕ) (ts : List Lexeme) (x : Literal) (s : State) → read.literal (st left ts) ≡ Some (x, s) → FoundLiteral left ts x s
unfolding read.literal r.digits r.text
sound_literal left [] x s h = cc
sound_literal left (lexeme.Digits n ∷ ts) x s h =
    let held = guarded (ltb n (2 ^ 63)) (r.pure (lit.Int (pos n))) (st left ts) (x, s) h in
    literal_at (g.number (ltb-true n (2 ^ 63) held.0)) (omega arith) held.1
sound_literal left (lexeme.Text t ∷ ts) x s h = literal_at g.text (omega arith) h
sound_literal left (lexeme.Mark m.Null ∷ ts) x s h = literal_at g.null (omega arith) h
sound_literal left (lexeme.Mark m.True ∷ ts) x s h = literal_at g.yes (omega arith) h
sound_literal left (lexeme.Mark m.False ∷ ts) x s h = literal_at g.no (omega arith) h
sound_literal zero (lexeme.Mark m.Minus ∷ ts) x s h = cc
sound_literal (suc left) (lexeme.Mark m.Minus ∷ ts) x s h = sound_negated left ts x s h
sound_literal left (lexeme.Mark _ ∷ ts) x s h = cc
sound_literal left (lexeme.Name _ ∷ ts) x s h = cc
sound_literal left (lexeme.Long ∷ ts) x s h = cc

pub record FoundRef (left : ℕ) (ts : List Lexeme) (x : ColumnRef) (s : State) : Type 0 where
  pub count : left ≡ s.left
  pub spells : SpellsRef ts x s.rest

ref_at : {left : ℕ} {ts rest : List Lexeme} {x y : ColumnRef} {s : State} → SpellsRef ts x rest
    → ◌≡◌ {A = Option (ColumnRef × State)} (Some (x, st left rest)) (Some (y, s)) → FoundRef left ts y s
ref_at {left = left} {ts = ts} {rest = rest} {x = x} {y = y} {s = s} spells h =
    let parts = some_parts x y (st left rest) s h in
    let same : FoundRef left ts x (st left rest) = record { count = refl; spells = spells } in
    subst (λ v. FoundRef left ts v s) parts.0 (subst (λ u. FoundRef left ts x u) parts.1 same)

pub sound_ref : (left : ℕ) (ts : List Lexeme) (x : ColumnRef) (s : State) → read.reference (st left ts) ≡ Some (x, s) → FoundRef left ts x s
unfolding read.reference r.name
sound_ref left (lexeme.Name c ∷ lexeme.Mark m.Dot ∷ lexeme.Name d ∷ ts) x s h = ref_at g.dotted h
sound_ref left (lexeme.Name c ∷ lexeme.Mark m.Dot ∷ lexeme.Mark _ ∷ ts) x s h = cc
sound_ref left (lexeme.Name c ∷ lexeme.Mark m.Dot ∷ lexeme.Digits _ ∷ ts) x s h = cc
sound_ref left (lexeme.Name c ∷ lexeme.Mark m.Dot ∷ lexeme.Text _ ∷ ts) x s h = cc
sound_ref left (lexeme.Name c ∷ lexeme.Mark m.Dot ∷ lexeme.Long ∷ ts) x s h = cc
sound_ref left (lexeme.Name c ∷ lexeme.Mark m.Dot ∷ []) x s h = cc
sound_ref left (lexeme.Name c ∷ lexeme.Mark _ ∷ ts) x s h = ref_at g.bare h
sound_ref left (lexeme.Name c ∷ lexeme.Name _ ∷ ts) x s h = ref_at g.bare h
sound_ref left (lexeme.Name c ∷ lexeme.Digits _ ∷ ts) x s h = ref_at g.bare h
sound_ref left (lexeme.Name c ∷ lexeme.Text _ ∷ ts) x s h = ref_at g.bare h
sound_ref left (lexeme.Name c ∷ lexeme.Long ∷ ts) x s h = ref_at g.bare h
sound_ref left (lexeme.Name c ∷ []) x s h = ref_at g.bare h
sound_ref left [] x s h = cc
sound_ref left (lexeme.Mark _ ∷ ts) x s h = cc
sound_ref left (lexeme.Digits _ ∷ ts) x s h = cc
sound_ref left (lexeme.Text _ ∷ ts) x s h = cc
sound_ref left (lexeme.Long ∷ ts) x s h = cc

-- ---- operands

by_literal : (a : Bool) → IsSound a Operand (read.literal >>= λ v. r.pure (e.Literal v))
by_literal a left ts x s h =
    let found = mapped_by e.Literal read.literal (st left ts) s x h in
    let read_so = sound_literal left ts found.0 s found.1 in
    moved found.2 (record { n = read_so.n; count = read_so.count; spells = g.operand_literal read_so.spells })

by_ref : (a : Bool) → IsSound a Operand (read.reference >>= λ v. r.pure (e.Column v))
by_ref a left ts x s h =
    let found = mapped_by e.Column read.reference (st left ts) s x h in
    let read_so = sound_ref left ts found.0 s found.1 in
    moved found.2 (record { n = 0; count = omega (arith, read_so.count); spells = g.operand_ref read_so.spells })

sound_plain : (a : Bool) (left : ℕ) (ts : List Lexeme) (x : SqlExpr) (s : State) → read.plain (peek ts) (st left ts) ≡ Some (x, s) → Found a Operand left ts x s
sound_plain a left (lexeme.Name c ∷ ts) x s h = by_ref a left (lexeme.Name c ∷ ts) x s h
sound_plain a left [] x s h = by_literal a left [] x s h
sound_plain a left (lexeme.Mark c ∷ ts) x s h = by_literal a left (lexeme.Mark c ∷ ts) x s h
sound_plain a left (lexeme.Digits c ∷ ts) x s h = by_literal a left (lexeme.Digits c ∷ ts) x s h
sound_plain a left (lexeme.Text c ∷ ts) x s h = by_literal a left (lexeme.Text c ∷ ts) x s h
sound_plain a left (lexeme.Long ∷ ts) x s h = by_literal a left (lexeme.Long ∷ ts) x s h

aggregate_word : (kind : AggregateKind) (ts : List Lexeme) → read.aggregates_at (peek ts) ≡ Some kind → (word : Mark) × (ts ≡ lexeme.Mark word ∷ tail ts) × (aggregates word ≡ Some kind)
aggregate_word kind [] h = cc
aggregate_word kind (lexeme.Mark word ∷ ts) h = (word, refl, h)
aggregate_word kind (lexeme.Name _ ∷ ts) h = cc
aggregate_word kind (lexeme.Digits _ ∷ ts) h = cc
aggregate_word kind (lexeme.Text _ ∷ ts) h = cc
aggregate_word kind (lexeme.Long ∷ ts) h = cc

-- behind COUNT and the like, the parenthesis
opened : (inner : Parser SqlExpr) (kind : AggregateKind) (left : ℕ) (word : Mark) (ts : List Lexeme) (y : SqlExpr × State) → read.aggregate inner kind (st left (lexeme.Mark word ∷ ts)) ≡ Some y
    → (left' : ℕ) × (left ≡ suc left') × (ts ≡ lexeme.Mark m.Open ∷ tail ts) × (read.count_by inner kind (peek (tail ts)) (st left' (tail ts)) ≡ Some y)
unfolding read.aggregate r.expect
opened inner kind left word ts y h = go left (r.sees m.Open (peek ts)) refl h
  where
    go : (left : ℕ) (b : Bool) → r.sees m.Open (peek ts) ≡ b
        → and_then (and_then (and_then {A = Unit {0}} (cond b (Some (tt {0}, st left (tail ts))) None) (λ _. r.spend)) (λ _. r.next)) (read.count_by inner kind) ≡ Some y
        → (left' : ℕ) × (left ≡ suc left') × (ts ≡ lexeme.Mark m.Open ∷ tail ts) × (read.count_by inner kind (peek (tail ts)) (st left' (tail ts)) ≡ Some y)
    go left false is h = cc
    go zero true is h = cc
    go (suc left) true is h = (left, refl, sees_mark m.Open ts is, h)

count_word : (word : Mark) → aggregates word ≡ Some aggregate_kind.Count → word ≡ m.Count
count_word m.Count h = refl
count_word m.Sum h = cc
count_word _ h = cc

sound_starred : (word : Mark) (kind : AggregateKind) → aggregates word ≡ Some kind → (left : ℕ) (ts : List Lexeme) (x : SqlExpr) (s : State)
    → read.starred kind (st left (lexeme.Mark m.Star ∷ ts)) ≡ Some (x, s) → Found true Operand (suc left) (lexeme.Mark word ∷ lexeme.Mark m.Open ∷ lexeme.Mark m.Star ∷ ts) x s
sound_starred word aggregate_kind.Count is left ts x s h =
    let closing = bind_some (r.expect m.Close (st left ts)) (λ _. r.pure e.CountAll) (x, s) h in
    let parts = some_parts e.CountAll x closing.0.1 s closing.2 in
    let behind = expected m.Close (st left ts) closing.0.1 closing.1 ∙ ap (λ u. st u.left (lexeme.Mark m.Close ∷ u.rest)) parts.1 in
    let left_is : left ≡ s.left = ap (λ (u : State). u.left) behind in
    let ts_is : ts ≡ lexeme.Mark m.Close ∷ s.rest = ap (λ (u : State). u.rest) behind in
    let spells : Spells true Operand (lexeme.Mark word ∷ lexeme.Mark m.Open ∷ lexeme.Mark m.Star ∷ ts) e.CountAll 1 s.rest = rw (count_word word is, ts_is) g.count_all in
    moved parts.0 (record { n = 1; count = omega (arith, left_is); spells = spells })
sound_starred word aggregate_kind.Sum is left ts x s h = cc
sound_starred word aggregate_kind.Min is left ts x s h = cc
sound_starred word aggregate_kind.Max is left ts x s h = cc

sound_inner : (inner : Parser SqlExpr) → IsSound false (Many Sum) inner → (word : Mark) (kind : AggregateKind) → aggregates word ≡ Some kind
    → (left : ℕ) (ts : List Lexeme) (x : SqlExpr) (s : State) → (inner >>= λ v. r.expect m.Close >> r.pure (e.Aggregate kind v)) (st left ts) ≡ Some (x, s)
    → Found true Operand (suc left) (lexeme.Mark word ∷ lexeme.Mark m.Open ∷ ts) x s
sound_inner inner sound word kind is left ts x s h =
    let found = closed_with (e.Aggregate kind) m.Close inner (st left ts) s x h in
    let read_so = sound left ts found.0 (st s.left (lexeme.Mark m.Close ∷ s.rest)) found.1 in
    moved found.2 (record { n = suc read_so.n; count = omega (arith, read_so.count); spells = g.aggregate is read_so.spells })

sound_count : (inner : Parser SqlExpr) → IsSound false (Many Sum) inner → (word : Mark) (kind : AggregateKind) → aggregates word ≡ Some kind
    → (left : ℕ) (ts : List Lexeme) (x : SqlExpr) (s : State) → read.count_by inner kind (peek ts) (st left ts) ≡ Some (x, s)
    → Found true Operand (suc left) (lexeme.Mark word ∷ lexeme.Mark m.Open ∷ ts) x s
sound_count inner sound word kind is left (lexeme.Mark m.Star ∷ ts) x s h = sound_starred word kind is left ts x s h
sound_count inner sound word kind is left ts x s h = sound_inner inner sound word kind is left ts x s h

sound_aggregate : (inner : Parser SqlExpr) → IsSound false (Many Sum) inner → (word : Mark) (kind : AggregateKind) → aggregates word ≡ Some kind
    → (left : ℕ) (ts : List Lexeme) (x : SqlExpr) (s : State) → read.aggregate inner kind (st left (lexeme.Mark word ∷ ts)) ≡ Some (x, s)
    → Found true Operand left (lexeme.Mark word ∷ ts) x s
sound_aggregate inner sound word kind is left ts x s h =
    let o = opened inner kind left word ts (x, s) h in
    restated o.1 (ap (λ us. lexeme.Mark word ∷ us) o.2) (sound_count inner sound word kind is o.0 (tail ts) x s o.3)

sound_operand : (a : Bool) (inner : Parser SqlExpr) → IsSound false (Many Sum) inner → IsSound a Operand (read.operand a inner)
unfolding read.operand
sound_operand a inner sound left ts x s h = go a (read.aggregates_at (peek ts)) refl h
  where
    go : (a : Bool) (o : Option AggregateKind) → read.aggregates_at (peek ts) ≡ o → read.operand_by o a inner (peek ts) (st left ts) ≡ Some (x, s) → Found a Operand left ts x s
    go a None is h = sound_plain a left ts x s h
    go false (Some kind) is h = cc
    go true (Some kind) is h =
        let word = aggregate_word kind ts is in
        restated refl word.1 (sound_aggregate inner sound word.0 kind word.2 left (tail ts) x s (ap (λ us. read.aggregate inner kind (st left us)) (sym word.1) ∙ h))

-- ---- factors

from_operand : {a : Bool} {left : ℕ} {ts : List Lexeme} {x : SqlExpr} {s : State} → Found a Operand left ts x s → Found a Factor left ts x s
from_operand f = record { n = f.n; count = f.count; spells = g.factor_operand f.spells }

sound_minus : (a : Bool) (below : Parser SqlExpr) → IsSound a Factor below → (left : ℕ) (ts : List Lexeme) (x : SqlExpr) (s : State) → g.begins_digits ts ≡ false
    → (below >>= λ v. r.pure (e.Arith Minus (e.Literal (lit.Int (pos 0))) v)) (st left ts) ≡ Some (x, s) → Found a Factor (suc left) (lexeme.Mark m.Minus ∷ ts) x s
sound_minus a below sound left ts x s other h =
    let found = mapped_by (e.Arith Minus (e.Literal (lit.Int (pos 0)))) below (st left ts) s x h in
    let read_so = sound left ts found.0 s found.1 in
    moved found.2 (record { n = suc read_so.n; count = omega (arith, read_so.count); spells = g.factor_minus other read_so.spells })

sound_signed : (a : Bool) (below : Parser SqlExpr) → IsSound a Factor below → (left : ℕ) (ts : List Lexeme) (x : SqlExpr) (s : State)
    → read.signed_by below (peek ts) (st left ts) ≡ Some (x, s) → Found a Factor (suc left) (lexeme.Mark m.Minus ∷ ts) x s
sound_signed a below sound left (lexeme.Digits n ∷ ts) x s h =
    let found = mapped_by e.Literal read.negated (st left (lexeme.Digits n ∷ ts)) s x h in
    let read_so = sound_negated left (lexeme.Digits n ∷ ts) found.0 s found.1 in
    from_operand (moved found.2 (record { n = read_so.n; count = read_so.count; spells = g.operand_literal read_so.spells }))
sound_signed a below sound left [] x s h = sound_minus a below sound left [] x s refl h
sound_signed a below sound left (lexeme.Mark k ∷ ts) x s h = sound_minus a below sound left (lexeme.Mark k ∷ ts) x s refl h
sound_signed a below sound left (lexeme.Name k ∷ ts) x s h = sound_minus a below sound left (lexeme.Name k ∷ ts) x s refl h
sound_signed a below sound left (lexeme.Text k ∷ ts) x s h = sound_minus a below sound left (lexeme.Text k ∷ ts) x s refl h
sound_signed a below sound left (lexeme.Long ∷ ts) x s h = sound_minus a below sound left (lexeme.Long ∷ ts) x s refl h

factor_step : (a : Bool) (below inner : Parser SqlExpr) → IsSound a Factor below → IsSound false (Many Sum) inner
    → (left : ℕ) (ts : List Lexeme) (x : SqlExpr) (s : State) → read.factor_by a below inner (r.start_of (peek ts)) (st left ts) ≡ Some (x, s) → Found a Factor left ts x s
factor_step a below inner sound sums zero (lexeme.Mark m.Open ∷ ts) x s h = cc
factor_step a below inner sound sums (suc left) (lexeme.Mark m.Open ∷ ts) x s h =
    let found = closed_by m.Close (read.sum below) (st left ts) s x h in
    let read_so = sound_many a Sum (read.term below) (sound_many a Term below sound) left ts x (st s.left (lexeme.Mark m.Close ∷ s.rest)) found in
    record { n = suc read_so.n; count = omega (arith, read_so.count); spells = g.factor_group read_so.spells }
factor_step a below inner sound sums zero (lexeme.Mark m.Minus ∷ ts) x s h = cc
factor_step a below inner sound sums (suc left) (lexeme.Mark m.Minus ∷ ts) x s h = sound_signed a below sound left ts x s h
factor_step a below inner sound sums left ts x s h = from_operand (sound_operand a inner sums left ts x s h)

pub sound_factor : (d : ℕ) (a : Bool) → IsSound a Factor (read.factor d a)
unfolding read.factor
sound_factor zero a left ts x s h = cc
sound_factor (suc d) a left ts x s h =
    factor_step a (read.factor d a) (read.sum (read.factor d false)) (sound_factor d a)
    (sound_many false Sum (read.term (read.factor d false)) (sound_many false Term (read.factor d false) (sound_factor d false))) left ts x s h

pub sound_sum : (d : ℕ) (a : Bool) → IsSound a (Many Sum) (read.sum (read.factor d a))
sound_sum d a = sound_many a Sum (read.term (read.factor d a)) (sound_many a Term (read.factor d a) (sound_factor d a))

-- ---- conditions

sound_null : (a : Bool) (left0 left k : ℕ) (all ts : List Lexeme) (v x : SqlExpr) (s : State) → left0 ≡ k + suc left → Spells a Operand all v k (lexeme.Mark m.Is ∷ ts)
    → read.null_by v (peek ts) (st left ts) ≡ Some (x, s) → Found a Test left0 all x s
sound_null a left0 left k all (lexeme.Mark m.Null ∷ ts) v x s count spells h =
    let parts = some_parts (e.IsNull v) x (st left ts) s h in
    let same : Found a Test left0 all (e.IsNull v) (st left ts) = record { n = suc k; count = omega arith; spells = g.test_null spells } in
    moved parts.0 (subst (λ u. Found a Test left0 all (e.IsNull v) u) parts.1 same)
sound_null a left0 zero k all (lexeme.Mark m.Not ∷ ts) v x s count spells h = cc
sound_null a left0 (suc left) k all (lexeme.Mark m.Not ∷ ts) v x s count spells h =
    let closing = bind_some (r.expect m.Null (st left ts)) (λ _. r.pure (e.Not (e.IsNull v))) (x, s) h in
    let parts = some_parts (e.Not (e.IsNull v)) x closing.0.1 s closing.2 in
    let behind = expected m.Null (st left ts) closing.0.1 closing.1 ∙ ap (λ u. st u.left (lexeme.Mark m.Null ∷ u.rest)) parts.1 in
    let left_is : left ≡ s.left = ap (λ (u : State). u.left) behind in
    let ts_is : ts ≡ lexeme.Mark m.Null ∷ s.rest = ap (λ (u : State). u.rest) behind in
    let spells' : Spells a Operand all v k (lexeme.Mark m.Is ∷ lexeme.Mark m.Not ∷ lexeme.Mark m.Null ∷ s.rest) = rw ts_is at spells in
    moved parts.0 (record { n = suc (suc k); count = omega (arith, left_is); spells = g.test_not_null spells' })
sound_null a left0 left k all ts v x s count spells h = cc

compare_mark : (kind : _) (ts : List Lexeme) → read.compares_at (peek ts) ≡ Some kind → (sign : Mark) × (ts ≡ lexeme.Mark sign ∷ tail ts) × (compares sign ≡ Some kind)
compare_mark kind [] h = cc
compare_mark kind (lexeme.Mark sign ∷ ts) h = (sign, refl, h)
compare_mark kind (lexeme.Name _ ∷ ts) h = cc
compare_mark kind (lexeme.Digits _ ∷ ts) h = cc
compare_mark kind (lexeme.Text _ ∷ ts) h = cc
compare_mark kind (lexeme.Long ∷ ts) h = cc

sound_compared : (a : Bool) (P : Parser SqlExpr) → IsSound a Operand P → (left0 left k : ℕ) (all ts : List Lexeme) (v x : SqlExpr) (s : State) → left0 ≡ k + left
    → Spells a Operand all v k ts → (o : _) → read.compares_at (peek ts) ≡ o → read.compared P v o (st left ts) ≡ Some (x, s) → Found a Test left0 all x s
sound_compared a P sound left0 left k all ts v x s count spells None is h =
    let parts = some_parts v x (st left ts) s h in
    let same : Found a Test left0 all v (st left ts) = record { n = k; count = count; spells = g.test_operand spells } in
    moved parts.0 (subst (λ u. Found a Test left0 all v u) parts.1 same)
sound_compared a P sound left0 zero k all ts v x s count spells (Some kind) is h = cc
sound_compared a P sound left0 (suc left) k all ts v x s count spells (Some kind) is h =
    let sign = compare_mark kind ts is in
    let right = mapped_by (e.Compare kind v) P (st left (tail ts)) s x h in
    let found = sound left (tail ts) right.0 s right.1 in
    moved right.2 (record { n = k + suc found.n; count = omega (arith, found.count); spells = g.test_compare (rw sign.1 at spells) sign.2 found.spells })

sound_tested : (a : Bool) (P : Parser SqlExpr) → IsSound a Operand P → (left0 left k : ℕ) (all ts : List Lexeme) (v x : SqlExpr) (s : State) → left0 ≡ k + left
    → Spells a Operand all v k ts → read.test_by P v (peek ts) (st left ts) ≡ Some (x, s) → Found a Test left0 all x s
sound_tested a P sound left0 zero k all (lexeme.Mark m.Is ∷ ts) v x s count spells h = cc
sound_tested a P sound left0 (suc left) k all (lexeme.Mark m.Is ∷ ts) v x s count spells h = sound_null a left0 left k all ts v x s count spells h
sound_tested a P sound left0 left k all ts v x s count spells h = sound_compared a P sound left0 left k all ts v x s count spells (read.compares_at (peek ts)) refl h

sound_test : (a : Bool) (P : Parser SqlExpr) → IsSound a Operand P → IsSound a Test (read.test_at P)
unfolding read.test_at
sound_test a P sound left ts x s h =
    let first = bind_some (P (st left ts)) (λ v. r.next >>= read.test_by P v) (x, s) h in
    let found = sound left ts first.0.0 first.0.1 first.1 in
    sound_tested a P sound left first.0.1.left found.n ts first.0.1.rest first.0.0 x s found.count found.spells first.2

from_test : {a : Bool} {left : ℕ} {ts : List Lexeme} {x : SqlExpr} {s : State} → Found a Test left ts x s → Found a Neg left ts x s
from_test f = record { n = f.n; count = f.count; spells = g.neg_test f.spells }

neg_step : (a : Bool) (below inner : Parser SqlExpr) → IsSound a Neg below → IsSound false (Many Sum) inner
    → (left : ℕ) (ts : List Lexeme) (x : SqlExpr) (s : State) → read.neg_by a below inner (r.start_of (peek ts)) (st left ts) ≡ Some (x, s) → Found a Neg left ts x s
neg_step a below inner sound sums zero (lexeme.Mark m.Not ∷ ts) x s h = cc
neg_step a below inner sound sums (suc left) (lexeme.Mark m.Not ∷ ts) x s h =
    let found = mapped_by e.Not below (st left ts) s x h in
    let read_so = sound left ts found.0 s found.1 in
    moved found.2 (record { n = suc read_so.n; count = omega (arith, read_so.count); spells = g.neg_not read_so.spells })
neg_step a below inner sound sums zero (lexeme.Mark m.Open ∷ ts) x s h = cc
neg_step a below inner sound sums (suc left) (lexeme.Mark m.Open ∷ ts) x s h =
    let found = closed_by m.Close (read.cond below) (st left ts) s x h in
    let read_so = sound_many a Cond (read.both below) (sound_many a Both below sound) left ts x (st s.left (lexeme.Mark m.Close ∷ s.rest)) found in
    record { n = suc read_so.n; count = omega (arith, read_so.count); spells = g.neg_group read_so.spells }
neg_step a below inner sound sums left ts x s h = from_test (sound_test a (read.operand a inner) (sound_operand a inner sums) left ts x s h)

pub sound_neg : (d : ℕ) (a : Bool) → IsSound a Neg (read.neg d a)
unfolding read.neg
sound_neg zero a left ts x s h = cc
sound_neg (suc d) a left ts x s h = neg_step a (read.neg d a) (read.sum (read.factor d false)) (sound_neg d a) (sound_sum d false) left ts x s h

pub sound_cond : (d : ℕ) (a : Bool) → IsSound a (Many Cond) (read.cond (read.neg d a))
sound_cond d a = sound_many a Cond (read.both (read.neg d a)) (sound_many a Both (read.neg d a) (sound_neg d a))
