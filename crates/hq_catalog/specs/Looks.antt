-- What a look sees.
--     numbers_in scope from tables       the numbers of the tables of the scope, of which the first has the number `from`
--     have_at have t                     the place at which the session has table t, or 0
--     IsSeenSeal told history at file seal   the committed bytes of the file, if it changed since; else no seal
--     AreSeen told history scope have snaps  the tables of the scope, with what changed of each since the session had it
use Rattle.std.specs.Prelude.{◌≡◌, ℕ, suc, ◌<◌, Bool, true, false, List, [], ◌∷◌, Option, Some, None, IsTrue, length, map, nat_lt, find, ◌==◌, if◌then◌else◌}
use Rattle.hq_value.specs.declared.entry.FileId.{FileId}
use Rattle.hq_value.specs.Tables.{Definition}
use Rattle.hq_store.specs.FileStep.{SealState}
use Rattle.hq_lane.specs.Lanes.{id_of}
use Rattle.hq_history.specs.declared.noted.Noted.{Noted}
use Rattle.hq_history.specs.Deposits.{tables_left, length_left, bytes_left}
use Rattle.hq_snap.specs.declared.scope.Scope.{Scope}
use Rattle.hq_snap.specs.declared.scope.Have.{Have}
use Rattle.hq_snap.specs.Scopes.{is_in}
use Rattle.hq_snap.specs.Snaps.{TableSnapState, seal_in}
use Rattle.hq_snap.specs.Caches.{snap_at}
use Rattle.hq_catalog.specs.Files.{def_at, last_change}

-- the numbers of the tables of the scope, of which the first has the number `from`
abbrev pub numbers_in : Scope → ℕ → List Definition → List ℕ
numbers_in scope from [] = []
numbers_in scope from (def ∷ defs) = if is_in scope def.name then from ∷ numbers_in scope (suc from) defs else numbers_in scope (suc from) defs

abbrev pub place_or_first : Option Have → ℕ
place_or_first None = 0
place_or_first (Some h) = h.at

-- the place at which the session has table t, or 0
abbrev pub have_at : List Have → ℕ → ℕ
have_at have t = place_or_first (find (λ (h : Have). h.table == t) have)

-- a seal of the file's committed bytes
pub record IsCommitted (told : Bool) (history : List Noted) (file : FileId) (seal : SealState) : Type 0 where
  pub id : seal.id ≡ file
  pub len : seal.len ≡ length_left history file
  pub bytes : IsTrue told → seal.bytes ≡ bytes_left history file

abbrev pub IsSealOf : Bool → List Noted → FileId → Option SealState → Type 0
IsSealOf told history file None = ⊥
IsSealOf told history file (Some seal) = IsCommitted told history file seal

abbrev pub IsSealIf : Bool → Bool → List Noted → FileId → Option SealState → Type 0
IsSealIf true told history file seal = IsSealOf told history file seal
IsSealIf false told history file seal = seal ≡ None

-- the committed bytes of the file, if a Commit at this place or behind it changed it; else no seal
abbrev pub IsSeenSeal : Bool → List Noted → ℕ → FileId → Option SealState → Type 0
IsSeenSeal told history at file seal = IsSealIf (nat_lt at (last_change history file)) told history file seal

-- the table's definition, and seals of the files that changed since
pub record IsSeen (told : Bool) (history : List Noted) (at : ℕ) (snap : TableSnapState) : Type 0 where
  pub made : snap.table < length (tables_left history)
  pub def : snap.def ≡ def_at history snap.table
  pub seals : (n b : ℕ) → IsSeenSeal told history at (id_of snap.table n b) (seal_in snap.lanes n b)

-- the tables of the scope, with what changed of each since the session had it
pub record AreSeen (told : Bool) (history : List Noted) (scope : Scope) (have : List Have) (snaps : List TableSnapState) : Type 0 where
  pub tables : map (λ snap. snap.table) snaps ≡ numbers_in scope 0 (tables_left history)
  pub each : (i : ℕ) → i < length snaps → IsSeen told history (have_at have (snap_at snaps i).table) (snap_at snaps i)
