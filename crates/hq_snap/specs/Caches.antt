-- A cache of tables as looks saw them.
--     cached t tables places          the table of this number with its place, where it is there
--     have_of scope tables places     the tables of the scope, with their places
--     AreDistinct delta               no two of these are one table
--     IsMerged at snap old new        the table is as it was, with what the newer one has, and its place is `at`
--     MergesAll at delta old new      each of these tables is merged, and every other stays
use Rattle.std.specs.Prelude.{◌≡◌, ◌≢◌, ℕ, ◌<◌, Bool, false, List, [], ◌∷◌, ◌++◌, ◌==◌, Option, Some, None, length, slice_index_or, if◌then◌else◌}
use Rattle.std.specs.List.{list_any}
use Rattle.hq_store.specs.FileStep.{SealState}
use Rattle.hq_snap.specs.declared.scope.Scope.{Scope}
use Rattle.hq_snap.specs.declared.scope.Have.{Have}
use Rattle.hq_snap.specs.Scopes.{is_in}
use Rattle.hq_snap.specs.Snaps.{TableSnapState, AreMerged}

-- the tables, and of each the place of the look that it stands for
pub record CacheState : Type 0 where
  pub tables : List TableSnapState
  pub places : List ℕ

-- a table with its place
pub record CachedState : Type 0 where
  pub at : ℕ
  pub snap : TableSnapState

-- whether it is the table of this number
abbrev pub is_table : ℕ → TableSnapState → Bool
is_table t snap = snap.table == t

-- the table of this number with its place, where it is there
abbrev pub cached : ℕ → List TableSnapState → List ℕ → Option CachedState
cached t [] places = None
cached t (snap ∷ snaps) [] = None
cached t (snap ∷ snaps) (p ∷ ps) = if is_table t snap then Some (record { at = p; snap = snap }) else cached t snaps ps

-- the same of a cache
abbrev pub cached_in : CacheState → ℕ → Option CachedState
cached_in cache t = cached t cache.tables cache.places

-- a table with its place, if the scope has it
abbrev pub have_one : Scope → TableSnapState → ℕ → List Have
have_one scope snap p = if is_in scope snap.def.name then (record { table = snap.table; at = p } ∷ []) else []

-- the tables of the scope, with their places
abbrev pub have_of : Scope → List TableSnapState → List ℕ → List Have
have_of scope [] places = []
have_of scope (snap ∷ snaps) [] = []
have_of scope (snap ∷ snaps) (p ∷ ps) = have_one scope snap p ++ have_of scope snaps ps

abbrev pub no_snap : TableSnapState
no_snap = record { table = 0; def = record { name = []; columns = []; keys = [] }; lanes = [] }

abbrev pub snap_at : List TableSnapState → ℕ → TableSnapState
snap_at delta i = slice_index_or delta i no_snap

-- no two of these are one table
abbrev pub AreDistinct : List TableSnapState → Type 0
AreDistinct delta = (i j : ℕ) → i < j → j < length delta → (snap_at delta i).table ≢ (snap_at delta j).table

-- the seals of a table that may not be there
abbrev pub seals_of : Option CachedState → List (List (Option SealState))
seals_of None = []
seals_of (Some c) = c.snap.lanes

-- the table has the definition of the newer one, of each file its seal or else the one that was there, and the place `at`
pub record IsMergedTo (at : ℕ) (snap : TableSnapState) (old : Option CachedState) (new : CachedState) : Type 0 where
  pub place : new.at ≡ at
  pub table : new.snap.table ≡ snap.table
  pub def : new.snap.def ≡ snap.def
  pub seals : AreMerged snap.lanes (seals_of old) new.snap.lanes

abbrev pub IsMerged : ℕ → TableSnapState → Option CachedState → Option CachedState → Type 0
IsMerged at snap old None = ⊥
IsMerged at snap old (Some new) = IsMergedTo at snap old new

-- each of these tables is merged, where none stands twice, and every other stays
pub record MergesAll (at : ℕ) (delta : List TableSnapState) (old new : CacheState) : Type 0 where
  pub merged : AreDistinct delta → (i : ℕ) → i < length delta → IsMerged at (snap_at delta i) (cached_in old (snap_at delta i).table) (cached_in new (snap_at delta i).table)
  pub others : (t : ℕ) → list_any (is_table t) delta ≡ false → cached_in new t ≡ cached_in old t
