-- What a catalogue stands for. `file_rows` gives the rows of a file's bytes.
--     StandsFor file_rows told v history    it stands for its history, with no input told
--     Stands file_rows binds inputs v log   it stands for its log and the inputs
use Rattle.std.specs.Prelude.{◌≡◌, ℕ, Bool, List, ◌++◌, flat_map, Some, slice_get}
use Rattle.std.specs.List.{range_with_len}
use Rattle.hq_value.specs.declared.entry.Entry.{Entry}
use Rattle.hq_value.specs.declared.entry.FileId.{FileId}
use Rattle.hq_value.specs.declared.value.Value.{Value}
use Rattle.hq_value.specs.declared.kind.Kind.{Kind}
use Rattle.hq_value.specs.Order.{SameBag}
use Rattle.hq_value.specs.Tables.{Definition}
use Rattle.hq_log.specs.declared.place.Place.{Place}
use Rattle.hq_log.specs.declared.place.Place.TheVariants.{Unborn, Clean, Dirty}
use Rattle.hq_log.specs.Pools.{pool}
use Rattle.hq_log.specs.Marks.{marks}
use Rattle.hq_log.specs.Legal.{IsLegal}
use Rattle.hq_history.specs.declared.noted.Noted.{Noted}
use Rattle.hq_history.specs.History.{entries_of}
use Rattle.hq_history.specs.Deposits.{tables_left, IsHistory}
use Rattle.hq_transcript.specs.Pieces.{Piece}
use Rattle.hq_transcript.specs.Tables.{kinds_in, width}
use Rattle.hq_transcript.specs.Binding.{Binder}
use Rattle.hq_transcript.specs.Sights.{start, replay}
use Rattle.hq_transcript.specs.History.{bucket_rows, rows_left}

-- A catalogue as it is seen: its log, folds, and files. `sealed` has the bytes under the seals, `files` those of lanes at home.
pub record View : Type 0 where
  pub nodes : ℕ
  pub log : List Entry
  pub places : ℕ → List Place
  pub up : List Bool
  pub tables : List Definition
  pub sealed : FileId → List ℕ
  pub files : FileId → List ℕ

-- the files of a lane at home begin with the bytes under its seals, and a clean or unborn one's have just those
abbrev pub IsHome : View → FileId → Place → Type 0
IsHome v file Clean = v.files file ≡ v.sealed file
IsHome v file Unborn = v.files file ≡ v.sealed file
IsHome v file Dirty = (tail : List ℕ) × (v.files file ≡ v.sealed file ++ tail)
IsHome v file _ = Unit {0}

module _ (file_rows : List Kind → List ℕ → List (List Value)) where
  -- the rows of bucket b of table t under the seals, over all lanes
  abbrev pub sealed_rows : View → ℕ → ℕ → List (List Value)
  sealed_rows v t b = flat_map (λ n. file_rows (kinds_in v.tables t) (v.sealed (record { table = t; lane = n; bucket = b }))) (range_with_len 0 64)

  -- the catalogue stands for its history: no input, no session. `told`: its seals tell their bytes
  pub record StandsFor (told : Bool) (v : View) (history : List Noted) : Type 0 where
    pub deposits : IsHistory told history
    pub log_is : v.log ≡ entries_of history
    pub legal : IsLegal v.nodes (entries_of history)
    pub pools : (t : ℕ) → v.places t ≡ pool (entries_of history) t
    pub marked : v.up ≡ marks v.nodes (entries_of history)
    pub defined : v.tables ≡ tables_left history
    pub rows : (t b : ℕ) → SameBag (sealed_rows v t b) (rows_left file_rows (width v.tables t) (start v.nodes) history t b)
    pub homes : (file : FileId) (place : Place) → slice_get (v.places file.table) file.lane ≡ Some place → IsHome v file place

  -- the catalogue stands for the log and the inputs: under its seals are the committed rows and nothing else
  pub record Stands (binds : Binder) (inputs : ℕ → List Piece) (v : View) (log : List Entry) : Type 0 where
    pub log_is : v.log ≡ log
    pub legal : IsLegal v.nodes log
    pub pools : (t : ℕ) → v.places t ≡ pool log t
    pub marked : v.up ≡ marks v.nodes log
    pub defined : v.tables ≡ (replay binds inputs v.nodes log).tables
    pub rows : (t b : ℕ) → SameBag (sealed_rows v t b) (bucket_rows (width v.tables t) (replay binds inputs v.nodes log).puts t b)
    pub homes : (file : FileId) (place : Place) → slice_get (v.places file.table) file.lane ≡ Some place → IsHome v file place
