-- Copies of tables, as a look takes them.
--     is_had t have                whether it is the table of this number
--     IsCopyOf have x snap         table x, with what changed since the session had it
--     IsCopy have tables snap      the same of one of the tables
--     AddsIf wanted have x old new   the copy is added, if it is wanted
--     HasTables tables             they have their numbers, and 64 lanes
--     is_marked flags t            whether the flag of table t is set
--     name_at names t              the name of table t
--     AreNamed wanted names flags  of each table whether its name is one of these
--     AreWanted scope names flags  of each table whether the scope has it
use Rattle.std.specs.Prelude.{◌≡◌, ℕ, ◌<◌, Bool, true, false, List, [], ◌∷◌, ◌++◌, length, slice_index_or, ◌==◌}
use Rattle.std.specs.List.{list_any}
use Rattle.hq_value.specs.Tables.{same_names}
use Rattle.hq_snap.specs.declared.scope.Scope.{Scope}
use Rattle.hq_snap.specs.declared.scope.Have.{Have}
use Rattle.hq_snap.specs.Scopes.{is_in}
use Rattle.hq_snap.specs.Snaps.{TableSnapState, AreSince}
use Rattle.hq_catalog.specs.State.{TableState, table_in}
use Rattle.hq_catalog.specs.Looks.{have_at}

-- whether it is the table of this number
abbrev pub is_had : ℕ → Have → Bool
is_had t h = h.table == t

-- table x, with what changed since the session had it
pub record IsCopyOf (have : List Have) (x : TableState) (snap : TableSnapState) : Type 0 where
  pub table : snap.table ≡ x.number
  pub def : snap.def ≡ x.def
  pub seals : AreSince x.changed (have_at have x.number) x.seals snap.lanes

-- the same of one of the tables
pub record IsCopy (have : List Have) (tables : List TableState) (snap : TableSnapState) : Type 0 where
  pub within : snap.table < length tables
  pub copy : IsCopyOf have (table_in tables snap.table) snap

-- the copy is added, if it is wanted
abbrev pub AddsIf : Bool → List Have → TableState → List TableSnapState → List TableSnapState → Type 0
AddsIf true have x old new = (snap : TableSnapState) × IsCopyOf have x snap × (new ≡ old ++ snap ∷ [])
AddsIf false have x old new = new ≡ old

-- each has its number and the seals of 64 lanes
pub record HasTables (tables : List TableState) : Type 0 where
  pub numbers : (t : ℕ) → t < length tables → (table_in tables t).number ≡ t
  pub seals : (t : ℕ) → t < length tables → length (table_in tables t).seals ≡ 64

-- whether the flag of table t is set
abbrev pub is_marked : List Bool → ℕ → Bool
is_marked flags t = slice_index_or flags t false

-- the name of table t
abbrev pub name_at : List (List ℕ) → ℕ → List ℕ
name_at names t = slice_index_or names t []

-- of each table whether its name is one of these
abbrev pub AreNamed : List (List ℕ) → List (List ℕ) → List Bool → Type 0
AreNamed wanted names flags = (t : ℕ) → t < length names → is_marked flags t ≡ list_any (λ one. same_names one (name_at names t)) wanted

-- of each table whether the scope has it
abbrev pub AreWanted : Scope → List (List ℕ) → List Bool → Type 0
AreWanted scope names flags = (t : ℕ) → t < length names → is_marked flags t ≡ is_in scope (name_at names t)
