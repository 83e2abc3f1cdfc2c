-- What a Commit of lanes does to tables.
--     grows f                      the file has blocks behind its committed bytes
--     the_lane lanes t n           lane n of table t, where it is one of these
--     the_file lane b              its file of bucket b
--     grown_of m lanes             what the catalogue keeps of the Commit at place m
--     AreApart lanes               no lane stands twice
--     IsWell told l                what a Commit needs of a lane
--     AreCommitted i p l new ..    the first i files of lane l are committed by the entry before place p
--     IsReady files seals tables l    the lane is out, sealed, and begins with the bytes under its table's seals
--     IsTaken told m l old new     table `old` after lane l has come home
--     AreTaken told m lanes old new   the tables after all lanes have come home
use Rattle.std.specs.Prelude.{◌≡◌, ◌≢◌, ℕ, suc, ◌<◌, ◌≤◌, ◌==◌, ◌&&◌, Bool, true, List, [], ◌∷◌, Option, Some, None, IsTrue, length, flat_map, nat_lt, slice_set, if◌then◌else◌}
use Rattle.hq_log.specs.declared.place.Place.{Place}
use Rattle.hq_log.specs.declared.place.Place.TheVariants as place
use Rattle.hq_log.specs.Places.{is_out, passes_at}
use Rattle.hq_store.specs.FileStep.{SealState}
use Rattle.hq_lane.specs.Lanes.{LaneState, id_of, file_of, AreSealed}
use Rattle.hq_lane.specs.BucketFiles.{BucketState, file_bytes, base_bytes, published}
use Rattle.hq_pool.specs.declared.slot.Slot.TheVariants as slot
use Rattle.hq_pool.specs.Slots as slots
use Rattle.hq_snap.specs.Snaps.{seal_at, seal_in, seal_len, seal_bytes, change_in, changes_in}
use Rattle.hq_catalog.specs.declared.kept.Grown.{Grown}
use Rattle.hq_catalog.specs.State.{TableState, table_in, places_in, seal_of, change_of}
use Rattle.hq_catalog.specs.Kept.{IsTable, slot_at}

-- the file has blocks behind its committed bytes
abbrev pub grows : BucketState → Bool
grows f = nat_lt f.base f.good

-- lane n of table t
abbrev pub is_lane : ℕ → ℕ → LaneState → Bool
is_lane t n l = (l.table == t) && (l.number == n)

-- lane n of table t, where it is one of these
abbrev pub the_lane : List LaneState → ℕ → ℕ → Option LaneState
the_lane [] t n = None
the_lane (l ∷ ls) t n = if is_lane t n l then Some l else the_lane ls t n

-- its file of bucket b
abbrev pub the_file : Option LaneState → ℕ → Option BucketState
the_file None b = None
the_file (Some l) b = Some (file_of l.files b)

-- no lane stands twice
abbrev pub AreApart : List LaneState → Type 0
AreApart [] = Unit {0}
AreApart (l ∷ ls) = (the_lane ls l.table l.number ≡ None) × AreApart ls

-- the seal of a file once it is committed, or the one that it had
abbrev pub seal_by : Option BucketState → Option SealState → Option SealState
seal_by None old = old
seal_by (Some f) old = if grows f then f.fresh else old

-- the place behind the Commit where the file grew, or the one that it had
abbrev pub place_by : ℕ → Option BucketState → ℕ → ℕ
place_by p None old = old
place_by p (Some f) old = if grows f then p else old

-- where the lane is, or was
abbrev pub home_by : Option LaneState → Place → Place
home_by None old = old
home_by (Some l) old = place.Clean

-- what the catalogue keeps of a file's growth
abbrev pub grown_from : ℕ → BucketState → Grown
grown_from m f = record { file = f.id; place = m; before = f.base; after = f.good }

abbrev pub grown_if_any : ℕ → BucketState → List Grown
grown_if_any m f = if grows f then grown_from m f ∷ [] else []

abbrev pub grown_in_lane : ℕ → LaneState → List Grown
grown_in_lane m l = flat_map (grown_if_any m) l.files

-- what the catalogue keeps of the Commit at place m
abbrev pub grown_of : ℕ → List LaneState → List Grown
grown_of m lanes = flat_map (grown_in_lane m) lanes

-- a seal of all bytes of the file
pub record IsFresh (told : Bool) (f : BucketState) : Type 0 where
  pub seal : SealState
  pub is : f.fresh ≡ Some seal
  pub len : seal.len ≡ f.good
  pub id : seal.id ≡ f.id
  pub bytes : IsTrue told → seal.bytes ≡ file_bytes f.file
  pub long : IsTrue told → length (file_bytes f.file) ≡ f.good

-- each file has the id of its bucket
abbrev pub HasIds : LaneState → Type 0
HasIds l = (i : ℕ) → i < length l.files → (file_of l.files i).id ≡ id_of l.table l.number i

-- 16 files, each with a seal of its bytes if it has grown
pub record IsWell (told : Bool) (l : LaneState) : Type 0 where
  pub sixteen : length l.files ≡ 16
  pub ids : HasIds l
  pub order : (b : ℕ) → (file_of l.files b).base ≤ (file_of l.files b).good
  pub fresh : (b : ℕ) → grows (file_of l.files b) ≡ true → IsFresh told (file_of l.files b)

-- the file of bucket b, where it is one of the first i
abbrev pub file_below : ℕ → List BucketState → ℕ → Option BucketState
file_below i files b = if nat_lt b i then Some (file_of files b) else None

-- the file once it is committed, or the one that it was
abbrev pub file_by : Option BucketState → BucketState → BucketState
file_by None old = old
file_by (Some f) old = published f

-- the seals of a lane once the file of bucket b is committed
abbrev pub with_seal : BucketState → ℕ → List (Option SealState) → List (Option SealState)
with_seal f b seals = if grows f then slice_set seals b f.fresh else seals

-- when files changed, once the file that lane n has in bucket b is committed by the entry before place p
abbrev pub with_change : BucketState → ℕ → ℕ → ℕ → List (List ℕ) → List (List ℕ)
with_change f p n b changed = if grows f then slice_set changed n (slice_set (changes_in changed n) b p) else changed

-- the first i files of lane l are committed by the entry before place p: the lane, its seals, and when files changed
pub record AreCommitted (i p : ℕ) (l new : LaneState) (old_seals new_seals : List (Option SealState)) (old_changed new_changed : List (List ℕ)) : Type 0 where
  pub table : new.table ≡ l.table
  pub number : new.number ≡ l.number
  pub as_many : length new.files ≡ length l.files
  pub files : (b : ℕ) → b < 16 → file_of new.files b ≡ file_by (file_below i l.files b) (file_of l.files b)
  pub many : length new_seals ≡ length old_seals
  pub seals : (b : ℕ) → seal_at new_seals b ≡ seal_by (file_below i l.files b) (seal_at old_seals b)
  pub rows : length new_changed ≡ length old_changed
  pub row : length (changes_in new_changed l.number) ≡ length (changes_in old_changed l.number)
  pub places : (b : ℕ) → change_in new_changed l.number b ≡ place_by p (file_below i l.files b) (change_in old_changed l.number b)
  pub others : (n : ℕ) → n ≢ l.number → changes_in new_changed n ≡ changes_in old_changed n

-- the lane begins with the bytes under its seals
pub record Begins (told : Bool) (seals : List (List (Option SealState))) (l : LaneState) : Type 0 where
  pub base : (b : ℕ) → b < 16 → (file_of l.files b).base ≡ seal_len (seal_in seals l.number b)
  pub bytes : IsTrue told → (b : ℕ) → b < 16 → base_bytes (file_of l.files b) ≡ seal_bytes (seal_in seals l.number b)

-- the lane is out of a table that is made, it is sealed, and it begins with the bytes under its seals
pub record IsReady (files seals : Bool) (tables : List TableState) (l : LaneState) : Type 0 where
  pub made : l.table < length tables
  pub out : passes_at is_out (places_in tables l.table) l.number ≡ true
  pub begins : Begins (files && seals) (table_in tables l.table).seals l
  pub sealed : AreSealed files seals l.files

-- the table after the lane has come home
pub record IsTaken (told : Bool) (m : ℕ) (l : LaneState) (old new : TableState) : Type 0 where
  pub def : new.def ≡ old.def
  pub table : IsTable told l.table new
  pub home : LaneState
  pub slots : new.slots ≡ slice_set old.slots l.number (slot.Clean home)
  pub seals : (b : ℕ) → seal_in new.seals l.number b ≡ seal_by (Some (file_of l.files b)) (seal_in old.seals l.number b)
  pub changed : (b : ℕ) → change_in new.changed l.number b ≡ place_by (suc m) (Some (file_of l.files b)) (change_in old.changed l.number b)
  pub other_seals : (n b : ℕ) → n ≢ l.number → seal_in new.seals n b ≡ seal_in old.seals n b
  pub other_changed : (n b : ℕ) → n ≢ l.number → change_in new.changed n b ≡ change_in old.changed n b

-- where lane n of table t is
abbrev pub place_at : List TableState → ℕ → ℕ → Place
place_at tables t n = slots.place_of (slot_at (table_in tables t).slots n)

-- the tables after all lanes have come home
pub record AreTaken (told : Bool) (m : ℕ) (ls : List LaneState) (old new : List TableState) : Type 0 where
  pub many : length new ≡ length old
  pub defs : (t : ℕ) → (table_in new t).def ≡ (table_in old t).def
  pub tables : (t : ℕ) → t < length new → IsTable told t (table_in new t)
  pub places : (t n : ℕ) → place_at new t n ≡ home_by (the_lane ls t n) (place_at old t n)
  pub seals : (t n b : ℕ) → seal_of new (id_of t n b) ≡ seal_by (the_file (the_lane ls t n) b) (seal_of old (id_of t n b))
  pub changed : (t n b : ℕ) → change_of new (id_of t n b) ≡ place_by (suc m) (the_file (the_lane ls t n) b) (change_of old (id_of t n b))
