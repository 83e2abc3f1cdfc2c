-- The grammar of expressions: `Spells a rule ts e n rest` says that the front of `ts` spells `e` by the rule,
-- with n operators, signs, NOTs and pairs of parentheses, and that `rest` is what stands behind it.
-- Aggregates may stand in it where `a` is true.
use Rattle.std.specs.Prelude.{◌≡◌, ℕ, suc, ◌+◌, ◌^◌, ◌<◌, ◌≤◌, Bool, true, false, List, [], ◌∷◌, Option, Some, None, pos, neg_ℤ}
use Rattle.hq_expr.specs.Words.{Level, Rule, Many, Factor, Neg, Test, Operand, Sum, Cond, part, joins, compares, aggregates}
use Rattle.hq_expr.specs.declared.lexeme.Lexeme.{Lexeme}
use Rattle.hq_expr.specs.declared.lexeme.Lexeme.TheVariants.{Mark, Name, Digits, Text}
use Rattle.hq_expr.specs.declared.mark.Mark.TheVariants as m
use Rattle.hq_expr.specs.declared.mark.Mark.{Mark as MarkType}
use Rattle.hq_value.specs.declared.operator.CompareKind.{CompareKind}
use Rattle.hq_expr.specs.declared.tree.AggregateKind.{AggregateKind}
use Rattle.hq_value.specs.declared.operator.ArithKind.TheVariants.{Minus}
use Rattle.hq_expr.specs.declared.tree.Literal.{Literal}
use Rattle.hq_expr.specs.declared.tree.Literal.TheVariants as l
use Rattle.hq_expr.specs.declared.tree.ColumnRef.{ColumnRef}
use Rattle.hq_expr.specs.declared.tree.SqlExpr.{SqlExpr}
use Rattle.hq_expr.specs.declared.tree.SqlExpr.TheVariants as e

-- literal = ["-"] digits | text | TRUE | FALSE | NULL
pub data SpellsLiteral : List Lexeme → Literal → ℕ → List Lexeme → Type 0 where
  null : {rest : List Lexeme} → SpellsLiteral (Mark m.Null ∷ rest) l.Null 0 rest
  yes : {rest : List Lexeme} → SpellsLiteral (Mark m.True ∷ rest) (l.Bool true) 0 rest
  no : {rest : List Lexeme} → SpellsLiteral (Mark m.False ∷ rest) (l.Bool false) 0 rest
  text : {t : List ℕ} {rest : List Lexeme} → SpellsLiteral (Text t ∷ rest) (l.Text t) 0 rest
  number : {n : ℕ} {rest : List Lexeme} → n < 2 ^ 63 → SpellsLiteral (Digits n ∷ rest) (l.Int (pos n)) 0 rest
  minus : {n : ℕ} {rest : List Lexeme} → n ≤ 2 ^ 63 → SpellsLiteral (Mark m.Minus ∷ Digits n ∷ rest) (l.Int (neg_ℤ (pos n))) 1 rest

-- ref = name ["." name]
pub data SpellsRef : List Lexeme → ColumnRef → List Lexeme → Type 0 where
  bare : {c : List ℕ} {rest : List Lexeme} → SpellsRef (Name c ∷ rest) (record { source = None; column = c }) rest
  dotted : {s c : List ℕ} {rest : List Lexeme} → SpellsRef (Name s ∷ Mark m.Dot ∷ Name c ∷ rest) (record { source = Some s; column = c }) rest

abbrev pub begins_digits : List Lexeme → Bool
begins_digits (Digits n ∷ rest) = true
begins_digits _ = false

pub data Spells : Bool → Rule → List Lexeme → SqlExpr → ℕ → List Lexeme → Type 0 where
  -- sum = term {("+" | "-") term}, term = factor {"*" factor}, cond = both {OR both}, both = neg {AND neg}; they group to the left
  one : {a : Bool} {level : Level} {ts rest : List Lexeme} {x : SqlExpr} {n : ℕ}
      → Spells a (part level) ts x n rest → Spells a (Many level) ts x n rest
  more : {a : Bool} {level : Level} {ts mid rest : List Lexeme} {x y : SqlExpr} {k n : ℕ} {sign : MarkType} {join : SqlExpr → SqlExpr → SqlExpr}
      → Spells a (Many level) ts x k (Mark sign ∷ mid) → joins level sign ≡ Some join → Spells a (part level) mid y n rest
      → Spells a (Many level) ts (join x y) (k + suc n) rest
  -- factor = literal | ref | aggregate | "(" sum ")" | "-" factor
  factor_operand : {a : Bool} {ts rest : List Lexeme} {x : SqlExpr} {n : ℕ} → Spells a Operand ts x n rest → Spells a Factor ts x n rest
  factor_group : {a : Bool} {ts rest : List Lexeme} {x : SqlExpr} {n : ℕ}
      → Spells a (Many Sum) ts x n (Mark m.Close ∷ rest) → Spells a Factor (Mark m.Open ∷ ts) x (suc n) rest
  factor_minus : {a : Bool} {ts rest : List Lexeme} {x : SqlExpr} {n : ℕ}
      → begins_digits ts ≡ false → Spells a Factor ts x n rest
      → Spells a Factor (Mark m.Minus ∷ ts) (e.Arith Minus (e.Literal (l.Int (pos 0))) x) (suc n) rest
  -- neg = NOT neg | "(" cond ")" | test
  neg_not : {a : Bool} {ts rest : List Lexeme} {x : SqlExpr} {n : ℕ} → Spells a Neg ts x n rest → Spells a Neg (Mark m.Not ∷ ts) (e.Not x) (suc n) rest
  neg_group : {a : Bool} {ts rest : List Lexeme} {x : SqlExpr} {n : ℕ}
      → Spells a (Many Cond) ts x n (Mark m.Close ∷ rest) → Spells a Neg (Mark m.Open ∷ ts) x (suc n) rest
  neg_test : {a : Bool} {ts rest : List Lexeme} {x : SqlExpr} {n : ℕ} → Spells a Test ts x n rest → Spells a Neg ts x n rest
  -- test = operand [(= | <> | != | < | <= | > | >=) operand | IS [NOT] NULL]
  test_operand : {a : Bool} {ts rest : List Lexeme} {x : SqlExpr} {n : ℕ} → Spells a Operand ts x n rest → Spells a Test ts x n rest
  test_compare : {a : Bool} {ts mid rest : List Lexeme} {x y : SqlExpr} {k n : ℕ} {sign : MarkType} {kind : CompareKind}
      → Spells a Operand ts x k (Mark sign ∷ mid) → compares sign ≡ Some kind → Spells a Operand mid y n rest
      → Spells a Test ts (e.Compare kind x y) (k + suc n) rest
  test_null : {a : Bool} {ts rest : List Lexeme} {x : SqlExpr} {n : ℕ}
      → Spells a Operand ts x n (Mark m.Is ∷ Mark m.Null ∷ rest) → Spells a Test ts (e.IsNull x) (suc n) rest
  test_not_null : {a : Bool} {ts rest : List Lexeme} {x : SqlExpr} {n : ℕ}
      → Spells a Operand ts x n (Mark m.Is ∷ Mark m.Not ∷ Mark m.Null ∷ rest) → Spells a Test ts (e.Not (e.IsNull x)) (suc (suc n)) rest
  -- operand = literal | ref, and an aggregate where one may stand
  operand_literal : {a : Bool} {ts rest : List Lexeme} {x : Literal} {n : ℕ} → SpellsLiteral ts x n rest → Spells a Operand ts (e.Literal x) n rest
  operand_ref : {a : Bool} {ts rest : List Lexeme} {x : ColumnRef} → SpellsRef ts x rest → Spells a Operand ts (e.Column x) 0 rest
  -- aggregate = COUNT "(" "*" ")" | (COUNT | SUM | MIN | MAX) "(" sum ")"
  count_all : {rest : List Lexeme} → Spells true Operand (Mark m.Count ∷ Mark m.Open ∷ Mark m.Star ∷ Mark m.Close ∷ rest) e.CountAll 1 rest
  aggregate : {ts rest : List Lexeme} {x : SqlExpr} {n : ℕ} {word : MarkType} {kind : AggregateKind}
      → aggregates word ≡ Some kind → Spells false (Many Sum) ts x n (Mark m.Close ∷ rest)
      → Spells true Operand (Mark word ∷ Mark m.Open ∷ ts) (e.Aggregate kind x) (suc n) rest
