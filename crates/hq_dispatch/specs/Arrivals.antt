-- Rows that come in bytes, by the node that sends them.
--     came a                  the bytes that came of a node: those of its rows so far, and those behind them
--     came_at from n          those of the node at a place, none where it is past the end
--     AreStorable kinds from  the rows so far can be written in columns of these kinds
--     IsArriving kinds from   what holds at any time
use Rattle.std.specs.Prelude.{◌≡◌, ◌<◌, ℕ, zero, suc, List, [], ◌∷◌, ◌++◌, length}
use Rattle.std.specs.List.{AllByRecursion}
use Rattle.hq_value.specs.declared.kind.Kind.{Kind}
use Rattle.hq_block.specs.Row.{IsStorable}
use Rattle.hq_motion.specs.Bytes.{rows_bytes}
use Rattle.hq_dispatch.specs.declared.arrivals.Arrival.{Arrival}

-- the bytes that came of a node: those of its rows so far, and those behind them
abbrev pub came : Arrival → List ℕ
came a = rows_bytes a.rows.items ++ a.rest.items

-- those of the node at a place, none where it is past the end
abbrev pub came_at : List Arrival → ℕ → List ℕ
came_at [] n = []
came_at (a ∷ from) zero = came a
came_at (a ∷ from) (suc n) = came_at from n

-- the rows so far can be written in columns of these kinds
abbrev pub AreStorable : List Kind → List Arrival → Type 0
AreStorable kinds from = AllByRecursion (λ (a : Arrival). AllByRecursion (IsStorable kinds) a.rows.items) from

-- rows of some columns, by 16 nodes
pub record Arriving : Type 0 where
  pub kinds : List Kind
  pub from : List Arrival

-- what holds at any time
pub record IsArriving (kinds : List Kind) (from : List Arrival) : Type 0 where
  pub some : 0 < length kinds
  pub sixteen : length from ≡ 16
  pub storable : AreStorable kinds from
