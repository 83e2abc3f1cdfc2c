-- What the kinds of tables' columns, by the tables' numbers, are to the definitions.
--     HasKinds kinds d         a table keeps the rules of a table, and its number has the kinds of its columns
--     AreTables kinds defs     so does each
use Rattle.std.specs.Prelude.{◌≡◌, ℕ, List}
use Rattle.std.specs.List.{AllByRecursion}
use Rattle.hq_value.specs.Tables.{Definition, IsDefinition}
use Rattle.hq_value.specs.Kinds.{kinds_of}
use Rattle.hq_value.specs.declared.kind.Kind.{Kind}
use Rattle.hq_bind.specs.Scope.{Defs}

-- a table keeps the rules of a table, and its number has the kinds of its columns
pub record HasKinds (kinds : ℕ → List Kind) (d : ℕ × Definition) : Type 0 where
  pub rules : IsDefinition d.1
  pub its_kinds : kinds d.0 ≡ kinds_of d.1.columns

abbrev pub AreTables : (ℕ → List Kind) → Defs → Type 0
AreTables kinds defs = AllByRecursion (HasKinds kinds) defs
