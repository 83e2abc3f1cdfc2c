-- Items, conditions, values and references, both ways.
use Rattle.std.proofs.Common.{◌≡◌, ℕ, zero, suc, ◌+◌, ◌-◌, ◌<◌, ◌≤◌, Bool, true, false, List, [], ◌∷◌, length, Some, None, Option, refl, sym, ap, ◌∙◌, arith}
use Rattle.hq_expr.specs.State.{State}
use Rattle.hq_expr.specs.Words.{Rule, Many, Factor, Neg, Test, Operand, Sum, Cond}
use Rattle.hq_expr.specs.Grammar.{Spells, SpellsLiteral, SpellsRef}
use Rattle.hq_expr.specs.Grammar as g
use Rattle.hq_expr.specs.Reader.{peek, Parser}
use Rattle.hq_expr.specs.Reading as read
use Rattle.hq_expr.specs.Whole.{IsPart, IsItem, IsCond, IsValue, ends_expr}
use Rattle.hq_expr.specs.Parts.{item_sum, condition, value}
use Rattle.hq_expr.specs.declared.cursor.Peek.{Peek}
use Rattle.hq_expr.specs.declared.cursor.Peek.TheVariants as p
use Rattle.hq_expr.specs.declared.lexeme.Lexeme.{Lexeme}
use Rattle.hq_expr.specs.declared.lexeme.Lexeme.TheVariants as lexeme
use Rattle.hq_expr.specs.declared.mark.Mark.TheVariants as m
use Rattle.hq_expr.specs.declared.tree.ColumnRef.{ColumnRef}
use Rattle.hq_expr.specs.declared.tree.Literal.{Literal}
use Rattle.hq_expr.specs.declared.tree.SqlExpr.{SqlExpr}
use Rattle.hq_expr.proofs.Complete.{st, begins_no_rule, rule_front, complete, complete_literal, complete_ref, whole, Ends, NoDot, reads}
use Rattle.hq_expr.proofs.Sound.{sound_cond, sound_sum, sound_literal, sound_ref, some_parts}
use Rattle.hq_expr.proofs.ListLemmas as l

-- ---- what may follow

abbrev pub EndsExpr : Peek → Type 0
EndsExpr k = ends_expr k ≡ true

pub ends_dot : (k : Peek) → ends_expr k ≡ true → NoDot k
ends_dot (p.Mark m.Dot) h = cc
ends_dot _ h = record { dot = refl }

ends_sum : (k : Peek) → ends_expr k ≡ true → Ends (Many Sum) k
ends_sum (p.Mark m.Dot) h = cc
ends_sum (p.Mark m.Plus) h = cc
ends_sum (p.Mark m.Minus) h = cc
ends_sum (p.Mark m.Star) h = cc
ends_sum _ h = record { inner = record { inner = record { dot = refl }; joins = refl }; joins = refl }

ends_cond : (k : Peek) → ends_expr k ≡ true → Ends (Many Cond) k
ends_cond (p.Mark m.Dot) h = cc
ends_cond (p.Mark m.Is) h = cc
ends_cond (p.Mark m.Equal) h = cc
ends_cond (p.Mark m.NotEqual) h = cc
ends_cond (p.Mark m.Less) h = cc
ends_cond (p.Mark m.AtMost) h = cc
ends_cond (p.Mark m.Greater) h = cc
ends_cond (p.Mark m.AtLeast) h = cc
ends_cond (p.Mark m.And) h = cc
ends_cond (p.Mark m.Or) h = cc
ends_cond _ h = record { inner = record { inner = record { dot = record { dot = refl }; is = refl; compares = refl }; joins = refl }; joins = refl }

-- ---- what is spelled takes a token

literal_shrinks : {ts rest : List Lexeme} {x : Literal} {n : ℕ} → SpellsLiteral ts x n rest → length rest < length ts
literal_shrinks g.null = omega arith
literal_shrinks g.yes = omega arith
literal_shrinks g.no = omega arith
literal_shrinks g.text = omega arith
literal_shrinks (g.number h) = omega arith
literal_shrinks (g.minus h) = omega arith

pub ref_shrinks : l.Shrinks SpellsRef read.reference
ref_shrinks ts rest x g.bare = omega arith
ref_shrinks ts rest x g.dotted = omega arith

spells_shrinks : {a : Bool} {rule : Rule} {ts rest : List Lexeme} {x : SqlExpr} {n : ℕ} → Spells a rule ts x n rest → length rest < length ts
spells_shrinks (g.one h) = spells_shrinks h
spells_shrinks (g.more h is h') = omega (arith, spells_shrinks h, spells_shrinks h')
spells_shrinks (g.factor_operand h) = spells_shrinks h
spells_shrinks (g.factor_group h) = omega (arith, spells_shrinks h)
spells_shrinks (g.factor_minus is h) = omega (arith, spells_shrinks h)
spells_shrinks (g.neg_not h) = omega (arith, spells_shrinks h)
spells_shrinks (g.neg_group h) = omega (arith, spells_shrinks h)
spells_shrinks (g.neg_test h) = spells_shrinks h
spells_shrinks (g.test_operand h) = spells_shrinks h
spells_shrinks (g.test_compare h is h') = omega (arith, spells_shrinks h, spells_shrinks h')
spells_shrinks (g.test_null h) = omega (arith, spells_shrinks h)
spells_shrinks (g.test_not_null h) = omega (arith, spells_shrinks h)
spells_shrinks (g.operand_literal h) = literal_shrinks h
spells_shrinks (g.operand_ref {ts = ts} {rest = rest} {x = x} h) = ref_shrinks ts rest x h
spells_shrinks g.count_all = omega arith
spells_shrinks (g.aggregate is h) = omega (arith, spells_shrinks h)

pub part_shrinks : {a : Bool} {rule : Rule} (ts rest : List Lexeme) (x : SqlExpr) → IsPart a rule ts x rest → length rest < length ts
part_shrinks ts rest x h = spells_shrinks h.2

pub part_front : {a : Bool} {rule : Rule} (ts rest : List Lexeme) (x : SqlExpr) → IsPart a rule ts x rest → begins_no_rule (peek ts) ≡ false
part_front ts rest x h = rule_front h.2

pub value_shrinks : l.Shrinks IsValue value
value_shrinks ts rest x h = literal_shrinks h.1

-- ---- what is spelled is read

pub item_complete : l.IsComplete IsItem item_sum EndsExpr
unfolding item_sum
item_complete k ts rest x h ends =
    let all : 256 ≡ h.0 + (256 - h.0) = omega (arith, h.1) in
    let found = whole true (Many Sum) ts rest x h.0 257 (256 - h.0) (complete h.2 257 (256 - h.0) (omega (arith, h.1))) (ends_sum (peek rest) ends) in
    (256 - h.0, ap (λ n. read.sum (read.factor 257 true) (st n ts)) all ∙ found)

pub cond_complete : (a : Bool) → l.IsComplete (IsCond a) (condition a) EndsExpr
unfolding condition
cond_complete a k ts rest x h ends =
    let all : 256 ≡ h.0 + (256 - h.0) = omega (arith, h.1) in
    let found = whole a (Many Cond) ts rest x h.0 257 (256 - h.0) (complete h.2 257 (256 - h.0) (omega (arith, h.1))) (ends_cond (peek rest) ends) in
    (256 - h.0, ap (λ n. read.cond (read.neg 257 a) (st n ts)) all ∙ found)

literal_count : {ts rest : List Lexeme} {x : Literal} {n : ℕ} → SpellsLiteral ts x n rest → n ≤ 1
literal_count g.null = omega arith
literal_count g.yes = omega arith
literal_count g.no = omega arith
literal_count g.text = omega arith
literal_count (g.number h) = omega arith
literal_count (g.minus h) = omega arith

abbrev pub Anything : Peek → Type 0
Anything k = Unit {0}

pub value_complete : l.IsComplete IsValue value Anything
unfolding value
value_complete k ts rest x h ends =
    let few = literal_count h.1 in
    let all : 256 ≡ h.0 + (256 - h.0) = omega (arith, few) in
    (256 - h.0, ap (λ n. read.literal (st n ts)) all ∙ complete_literal h.1 (256 - h.0))

pub ref_complete : l.IsComplete SpellsRef read.reference EndsExpr
ref_complete k ts rest x h ends = (k, complete_ref h k (ends_dot (peek rest) ends))

-- ---- what is read is spelled

pub item_sound : l.IsSound IsItem item_sum
unfolding item_sum
item_sound s s' x h = let found = sound_sum 257 true 256 s.rest x s' h in (found.n, omega (arith, found.count), found.spells)

pub cond_sound : (a : Bool) → l.IsSound (IsCond a) (condition a)
unfolding condition
cond_sound a s s' x h = let found = sound_cond 257 a 256 s.rest x s' h in (found.n, omega (arith, found.count), found.spells)

pub value_sound : l.IsSound IsValue value
unfolding value
value_sound s s' x h = let found = sound_literal 256 s.rest x s' h in (found.n, found.spells)

pub ref_sound : l.IsSound SpellsRef read.reference
ref_sound s s' x h = (sound_ref s.left s.rest x s' h).spells

-- ---- exact

-- what is spelled is not refused, and is read in just one way
pub not_refused : {X : Type 0} (Member : List Lexeme → X → List Lexeme → Type 0) (P : Parser X) (Ends : Peek → Type 0) → l.IsComplete Member P Ends
    → (s : State) → P s ≡ None → (x : X) (rest : List Lexeme) → Member s.rest x rest → Ends (peek rest) → ⊥
not_refused Member P Ends complete s h x rest is ends = let e = sym h ∙ (complete s.left s.rest rest x is ends).1 in cc

pub one_way : {X : Type 0} (Member : List Lexeme → X → List Lexeme → Type 0) (P : Parser X) (Ends : Peek → Type 0) → l.IsComplete Member P Ends
    → (ts r r' : List Lexeme) (x y : X) → Member ts x r → Ends (peek r) → Member ts y r' → Ends (peek r') → x ≡ y
one_way Member P Ends complete ts r r' x y h ends h' ends' =
    let first = complete 0 ts r x h ends in
    let second = complete 0 ts r' y h' ends' in
    (some_parts x y (st first.0 r) (st second.0 r') (sym first.1 ∙ second.1)).0
