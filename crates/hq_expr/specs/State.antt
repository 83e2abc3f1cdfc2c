-- What a parser reads from.
use Rattle.std.specs.Prelude.{ℕ, List}
use Rattle.hq_expr.specs.declared.lexeme.Lexeme.{Lexeme}

pub record State : Type 0 where
  -- how many operators the expression may still have
  pub left : ℕ
  -- the tokens that are left
  pub rest : List Lexeme
