-- Texts that are statements.
--     IsStatement ls s      the lexemes are just the statement s
--     Parses text s         the text is UTF-8, and its lexemes are just the statement s
--     IsControl s           s is BEGIN, BEGIN SNAPSHOT, COMMIT or ROLLBACK
use Rattle.std.specs.Prelude.{ℕ, List, []}
use Rattle.std.specs.Str.{IsUtf8}
use Rattle.hq_expr.specs.Lexemes.{IsLexed}
use Rattle.hq_expr.specs.declared.lexeme.Lexeme.{Lexeme}
use Rattle.hq_sql.specs.Rules.{Spells}
use Rattle.hq_sql.specs.Grammar.{statement_rule}
use Rattle.hq_sql.specs.declared.tree.Statement.{Statement}
use Rattle.hq_sql.specs.declared.tree.Statement.TheVariants as statement

abbrev pub IsStatement : List Lexeme → Statement → Type 0
IsStatement ls s = Spells statement_rule ls s []

abbrev pub Parses : List ℕ → Statement → Type 0
Parses text s = IsUtf8 text × (ls : List Lexeme) × IsLexed text ls × IsStatement ls s

abbrev pub IsControl : Statement → Type 0
IsControl (statement.Begin snapshot) = Unit {0}
IsControl statement.Commit = Unit {0}
IsControl statement.Rollback = Unit {0}
IsControl _ = ⊥
