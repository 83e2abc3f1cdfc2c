-- Rows of a sort that gives so many of the first.
--     StandFor order limit rows others     some rows stand for others, whatever comes behind them
use Rattle.std.specs.Prelude.{◌≡◌, ℕ, List, ◌++◌, Option}
use Rattle.hq_algebra.specs.declared.op.SortKey.{SortKey}
use Rattle.hq_meaning.specs.Rows.{Row}
use Rattle.hq_meaning.specs.Operators.{sorted}

-- some rows stand for others in a sort, whatever comes behind them
abbrev pub StandFor : List SortKey → Option ℕ → List Row → List Row → Type 0
StandFor order limit rows others = (more : List Row) → sorted order limit (rows ++ more) ≡ sorted order limit (others ++ more)
