-- Items, conditions and values, each with its limit of operators.
--     IsItem ts x rest       the front of ts is the item's sum x, with at most 256 operators, signs and pairs of parentheses
--     IsCond a ts x rest     .. the condition x, with at most 256; aggregates may stand in it where a is true
--     IsValue ts v rest      .. the literal v
use Rattle.std.specs.Prelude.{ℕ, ◌≤◌, Bool, true, false, List}
use Rattle.hq_expr.specs.Words.{Rule, Many, Sum, Cond}
use Rattle.hq_expr.specs.Grammar.{Spells, SpellsLiteral}
use Rattle.hq_expr.specs.declared.cursor.Peek.{Peek}
use Rattle.hq_expr.specs.declared.cursor.Peek.TheVariants as p
use Rattle.hq_expr.specs.declared.mark.Mark.TheVariants as m
use Rattle.hq_expr.specs.declared.lexeme.Lexeme.{Lexeme}
use Rattle.hq_expr.specs.declared.tree.Literal.{Literal}
use Rattle.hq_expr.specs.declared.tree.SqlExpr.{SqlExpr}

abbrev pub IsPart : Bool → Rule → List Lexeme → SqlExpr → List Lexeme → Type 0
IsPart a rule ts x rest = (n : ℕ) × (n ≤ 256) × Spells a rule ts x n rest

abbrev pub IsItem : List Lexeme → SqlExpr → List Lexeme → Type 0
IsItem ts x rest = IsPart true (Many Sum) ts x rest

abbrev pub IsCond : Bool → List Lexeme → SqlExpr → List Lexeme → Type 0
IsCond a ts x rest = IsPart a (Many Cond) ts x rest

abbrev pub IsValue : List Lexeme → Literal → List Lexeme → Type 0
IsValue ts v rest = (n : ℕ) × SpellsLiteral ts v n rest

-- what stands behind an item or a condition goes on with neither
abbrev pub ends_expr : Peek → Bool
ends_expr (p.Mark m.Dot) = false
ends_expr (p.Mark m.Is) = false
ends_expr (p.Mark m.Equal) = false
ends_expr (p.Mark m.NotEqual) = false
ends_expr (p.Mark m.Less) = false
ends_expr (p.Mark m.AtMost) = false
ends_expr (p.Mark m.Greater) = false
ends_expr (p.Mark m.AtLeast) = false
ends_expr (p.Mark m.Plus) = false
ends_expr (p.Mark m.Minus) = false
ends_expr (p.Mark m.Star) = false
ends_expr (p.Mark m.And) = false
ends_expr (p.Mark m.Or) = false
ends_expr _ = true
