-- Rows in their order, wherever each lies.
--     listed whole chosen     the rows of a slice, and then those that references lead to
use Rattle.std.specs.Prelude.{List, ◌++◌, map}
use Rattle.std.specs.Borrow.{Bor}
use Rattle.hq_value.specs.declared.value.Value.{Value}

-- the rows of a slice, and then those that references lead to
abbrev pub listed : List (List Value) → List (Bor (List Value)) → List (List Value)
listed whole chosen = whole ++ map (λ row. row.now) chosen
