-- The values of a row, wherever they stand.
--     cells_of cells      the values in order
--     has_room cells      one more value has room in place
use Rattle.std.specs.Prelude.{Bool, true, false, List, []}
use Rattle.hq_value.specs.declared.value.Value.{Value}
use Rattle.hq_value.specs.declared.cells.Cells.{Cells}
use Rattle.hq_value.specs.declared.cells.Cells.TheVariants as cells

-- the values in order
abbrev pub cells_of : Cells → List Value
cells_of cells.Zero = []
cells_of (cells.One values) = values
cells_of (cells.Two values) = values
cells_of (cells.Three values) = values
cells_of (cells.Many values) = values.items

-- one more value has room in place
abbrev pub has_room : Cells → Bool
has_room cells.Zero = true
has_room (cells.One values) = true
has_room (cells.Two values) = true
has_room (cells.Three values) = false
has_room (cells.Many values) = false

-- three values lie in place
abbrev pub is_full : Cells → Bool
is_full cells.Zero = false
is_full (cells.One values) = false
is_full (cells.Two values) = false
is_full (cells.Three values) = true
is_full (cells.Many values) = false
