-- The tables of a scope.
use Rattle.std.specs.Prelude.{ℕ, Bool, true, List}
use Rattle.std.specs.List.{list_any}
use Rattle.hq_value.specs.Tables.{same_names}
use Rattle.hq_snap.specs.declared.scope.Scope.{Scope}
use Rattle.hq_snap.specs.declared.scope.Scope.TheVariants.{Names, All}

-- the scope has the table of this name
abbrev pub is_in : Scope → List ℕ → Bool
is_in All name = true
is_in (Names names) name = list_any (λ wanted. same_names wanted name) names.items
