-- The marks of nodes.
--     some_up marks           some node is up
use Rattle.std.specs.Prelude.{Bool, List}
use Rattle.std.specs.List.{list_any}

-- some node is up
abbrev pub some_up : List Bool → Bool
some_up marks = list_any (λ up. up) marks
