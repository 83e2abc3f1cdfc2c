-- Rows in bytes, one after another.
--     rows_bytes rows             the spelling of rows
--     AreRows kinds rows bytes    the bytes spell the rows
use Rattle.std.specs.Prelude.{◌≡◌, ℕ, List, flat_map}
use Rattle.std.specs.List.{AllByRecursion}
use Rattle.hq_value.specs.declared.value.Value.{Value}
use Rattle.hq_value.specs.declared.kind.Kind.{Kind}
use Rattle.hq_block.specs.Row.{IsStorable, row_bytes}

-- the spelling of rows
abbrev pub rows_bytes : List (List Value) → List ℕ
rows_bytes rows = flat_map row_bytes rows

-- the bytes spell the rows, each of which can be written in columns of these kinds
pub record AreRows (kinds : List Kind) (rows : List (List Value)) (bytes : List ℕ) : Type 0 where
  pub storable : AllByRecursion (IsStorable kinds) rows
  pub spelled : bytes ≡ rows_bytes rows
