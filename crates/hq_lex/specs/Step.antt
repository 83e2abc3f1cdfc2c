-- What stands at a place of a text.
--     step_at at rest      what stands at the place `at`, where `rest` is the text from there on
--     Advances at end s    a step stays within the text, and a token takes a byte at least
use Rattle.std.specs.Prelude.{ℕ, ◌+◌, ◌<◌, ◌≤◌, ◌==◌, Bool, true, false, List, length, drop, Option, Some, None}
use Rattle.hq_lex.specs.Front.{front, gap}
use Rattle.hq_lex.specs.declared.token.TokenKind.{TokenKind}
use Rattle.hq_lex.specs.declared.step.Step.{Step}
use Rattle.hq_lex.specs.declared.step.Step.TheVariants as step

-- the token that begins at `start`, or none
abbrev pub begun : ℕ → Option (TokenKind × ℕ) → Step
begun start (Some token) = step.Token token.0 start (start + token.1)
begun start None = step.Fault start

abbrev pub step_behind : ℕ → List ℕ → ℕ → Bool → Step
step_behind at rest blank true = step.End
step_behind at rest blank false = begun (at + blank) (front (drop blank rest))

-- behind the spaces and comments: the end, a token, or neither
unfoldable pub step_at : ℕ → List ℕ → Step
step_at at rest = step_behind at rest (gap rest) (gap rest == length rest)

abbrev pub Advances : ℕ → ℕ → Step → Type 0
Advances at all step.End = Unit {0}
Advances at all (step.Token kind start end) = (at ≤ start) × (start < end) × (end ≤ all)
Advances at all (step.Fault start) = (at ≤ start) × (start < all)
