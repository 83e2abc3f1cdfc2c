-- Tables by their numbers.
--     numbered n tables     the tables, of which the first has the number n, and each other one the next
--     are_apart defs        no two have one number
--     KeepRules defs        each keeps the rules of a table
use Rattle.std.specs.Prelude.{ℕ, suc, Bool, List, [], ◌∷◌, map, nat_eq}
use Rattle.std.specs.List.{AllByRecursion}
use Rattle.hq_value.specs.Tables.{Definition, IsDefinition, are_distinct}
use Rattle.hq_bind.specs.Scope.{Defs}

abbrev pub numbered : ℕ → List Definition → Defs
numbered n [] = []
numbered n (table ∷ tables) = (n, table) ∷ numbered (suc n) tables

abbrev pub numbers : Defs → List ℕ
numbers defs = map (λ (d : ℕ × Definition). d.0) defs

-- no two have one number
abbrev pub are_apart : Defs → Bool
are_apart defs = are_distinct nat_eq (numbers defs)

-- each keeps the rules of a table
abbrev pub KeepRules : Defs → Type 0
KeepRules defs = AllByRecursion (λ (d : ℕ × Definition). IsDefinition d.1) defs
