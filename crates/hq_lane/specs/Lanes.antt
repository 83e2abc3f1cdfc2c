-- A lane: 16 files, one for each bucket; and its parts.
--     id_of table number b                  the id of the file of bucket b
--     no_files table number                 no files yet
--     file_of files b                       the file of bucket b
--     HaveIds table number files            each has the id of its bucket
--     EachFile R old new                    R holds from each old file to the new one
--     are_clean files, AreClean files       each has just its committed bytes
--     AreFlushed files                      none is torn, and each that has grown is flushed
--     AreSealed told seal_told files        none is torn, and each that has grown has a fresh seal of its bytes
--     HaveNoSeal files                      none has a fresh seal
--     StopsAt told old new                  files are cut back in order, up to a failure
--     owns part b, file_in parts n b        whether a part has the file of bucket b, and that file of part n
--     ArePartsOf lane owner parts           the lane's files, each in the part of its owner
--     AreOneLane parts                      they are of one lane, with every file once
--     IsWholeOf parts lane                  the lane has the files of the parts
--     HaveSameHeads old new                 nothing of the parts changes but their files
use Rattle.std.specs.Prelude.{◌≡◌, ℕ, ◌<◌, Bool, true, false, List, [], ◌∷◌, map, length, None, nat_eq, slice_index, slice_index_or}
use Rattle.std.specs.List.{list_all}
use Rattle.hq_value.specs.declared.entry.FileId.{FileId}
use Rattle.hq_lane.specs.BucketFiles.{BucketState, no_file, is_clean, IsCutBack, IsTornBack, IsFlushed, IsSealed}

-- its table, its number among the table's lanes, and its 16 files
pub record LaneState : Type 0 where
  pub table : ℕ
  pub number : ℕ
  pub files : List BucketState

-- its lane's table and number, the buckets whose files are here, and 16 files, of which the others are none
pub record PartState : Type 0 where
  pub table : ℕ
  pub number : ℕ
  pub here : List Bool
  pub files : List BucketState

-- the id of the file of bucket b
abbrev pub id_of : ℕ → ℕ → ℕ → FileId
id_of table number b = record { table = table; lane = number; bucket = b }

-- no files yet
abbrev pub no_files : ℕ → ℕ → List BucketState
no_files table number = map (λ b. no_file (id_of table number b)) (0 ∷ 1 ∷ 2 ∷ 3 ∷ 4 ∷ 5 ∷ 6 ∷ 7 ∷ 8 ∷ 9 ∷ 10 ∷ 11 ∷ 12 ∷ 13 ∷ 14 ∷ 15 ∷ [])

-- the file of bucket b
abbrev pub file_of : List BucketState → ℕ → BucketState
file_of files b = slice_index_or files b (no_file (id_of 0 0 0))

-- each has the id of its bucket
abbrev pub HaveIds : ℕ → ℕ → List BucketState → Type 0
HaveIds table number files = (b : ℕ) → b < 16 → (file_of files b).id ≡ id_of table number b

-- R holds from each old file to the new one
abbrev pub EachFile : (BucketState → BucketState → Type 0) → List BucketState → List BucketState → Type 0
EachFile R old new = (b : ℕ) → b < 16 → R (file_of old b) (file_of new b)

-- each has just its committed bytes
abbrev pub are_clean : List BucketState → Bool
are_clean files = list_all is_clean files

-- none is torn, and what is good is what is committed
abbrev pub AreClean : List BucketState → Type 0
AreClean files = (b : ℕ) → b < 16 → ((file_of files b).torn ≡ false) × ((file_of files b).good ≡ (file_of files b).base)

-- none is torn
abbrev pub AreWhole : List BucketState → Type 0
AreWhole files = (b : ℕ) → b < 16 → (file_of files b).torn ≡ false

-- none is torn, and each that has grown is flushed
abbrev pub AreFlushed : List BucketState → Type 0
AreFlushed files = (b : ℕ) → b < 16 → ((file_of files b).torn ≡ false) × IsFlushed (file_of files b)

-- none is torn, and each that has grown has a fresh seal of its bytes
abbrev pub AreSealed : Bool → Bool → List BucketState → Type 0
AreSealed told seal_told files = (b : ℕ) → b < 16 → IsSealed told seal_told (file_of files b)

-- none has a fresh seal
abbrev pub HaveNoSeal : List BucketState → Type 0
HaveNoSeal files = (b : ℕ) → b < 16 → (file_of files b).fresh ≡ None

-- the files before a bucket are cut back, the cut of that one failed, and those behind it stay as they were
pub record StopsAt (told : Bool) (old new : List BucketState) : Type 0 where
  pub bucket : ℕ
  pub within : bucket < 16
  pub before : (b : ℕ) → b < bucket → IsCutBack told (file_of old b) (file_of new b)
  pub failed : IsTornBack told (file_of old bucket) (file_of new bucket)
  pub behind : (b : ℕ) → bucket < b → file_of new b ≡ file_of old b

-- whether the file of bucket b is here
abbrev pub owns : PartState → ℕ → Bool
owns p b = slice_index_or p.here b false

abbrev pub no_part : PartState
no_part = record { table = 0; number = 0; here = []; files = [] }

-- the part of node n
abbrev pub part_at : List PartState → ℕ → PartState
part_at parts n = slice_index_or parts n no_part

-- the file of bucket b in the part of node n
abbrev pub file_in : List PartState → ℕ → ℕ → BucketState
file_in parts n b = file_of (part_at parts n).files b

-- one part for each node, with the lane's table and number and the files of the buckets that the node owns
pub record ArePartsOf (lane : LaneState) (owner : List ℕ) (parts : List PartState) : Type 0 where
  pub sixteen : length parts ≡ 16
  pub table : (n : ℕ) → n < 16 → (part_at parts n).table ≡ lane.table
  pub number : (n : ℕ) → n < 16 → (part_at parts n).number ≡ lane.number
  pub owned : (n b : ℕ) → n < 16 → b < 16 → owns (part_at parts n) b ≡ nat_eq (slice_index owner b) n
  pub files : (b : ℕ) → b < 16 → file_in parts (slice_index owner b) b ≡ file_of lane.files b

-- the file of bucket b is in just one part
pub record IsOnce (parts : List PartState) (b : ℕ) : Type 0 where
  pub owner : ℕ
  pub within : owner < length parts
  pub here : owns (part_at parts owner) b ≡ true
  pub only : (n : ℕ) → n < length parts → owns (part_at parts n) b ≡ true → n ≡ owner

-- they are of one lane, with every file once
pub record AreOneLane (parts : List PartState) : Type 0 where
  pub table : (n : ℕ) → n < length parts → (part_at parts n).table ≡ (part_at parts 0).table
  pub number : (n : ℕ) → n < length parts → (part_at parts n).number ≡ (part_at parts 0).number
  pub once : (b : ℕ) → b < 16 → IsOnce parts b

-- the lane has the table, the number and the files of the parts
pub record IsWholeOf (parts : List PartState) (lane : LaneState) : Type 0 where
  pub table : lane.table ≡ (part_at parts 0).table
  pub number : lane.number ≡ (part_at parts 0).number
  pub files : (n b : ℕ) → n < length parts → b < 16 → owns (part_at parts n) b ≡ true → file_of lane.files b ≡ file_in parts n b

-- nothing of the parts changes but their files
pub record HaveSameHeads (old new : List PartState) : Type 0 where
  pub sixteen : length new ≡ length old
  pub table : (n : ℕ) → (part_at new n).table ≡ (part_at old n).table
  pub number : (n : ℕ) → (part_at new n).number ≡ (part_at old n).number
  pub here : (n : ℕ) → (part_at new n).here ≡ (part_at old n).here
