-- What changed of a table since an earlier look, as contracts see it: a list of files with their seals.
--     file_seal files n b           the seal of the file that lane n has in bucket b, where it is one of these
--     lanes_of files                the same as the lists of 64 lanes
--     files_since changed at lanes k   of the first k lanes the files that changed since and have a seal
--     AreAtMost most places         no file of a lane changed behind this place
--     OthersAreAtMost most last places   the same of all files but that of bucket `last`
--     ArePlaces lanes               there are 64 lanes of 16 places each
--     IsPut f old new               the seal of file f is put in its place
--     HaveRoom delta rooms tables places   where there is no room, the table is there
use Rattle.std.specs.Prelude.{◌≡◌, ◌≢◌, ℕ, zero, suc, ◌<◌, ◌≤◌, ◌==◌, ◌&&◌, Bool, true, false, List, [], ◌∷◌, ◌++◌, Option, Some, None, IsSome, length, map, slice_index_or, nat_lt, if◌then◌else◌}
use Rattle.std.specs.List.{range_with_len}
use Rattle.hq_store.specs.FileStep.{SealState}
use Rattle.hq_snap.specs.Snaps.{TableSnapState, seal_at, seal_in, lane_in, change_at, changes_in, kept_if, newer}
use Rattle.hq_snap.specs.Caches.{cached, snap_at}

-- the seal of the file that a lane has in a bucket
pub record FileSealState : Type 0 where
  pub lane : ℕ
  pub bucket : ℕ
  pub seal : SealState

-- the seal, if the file is that of lane n in bucket b
abbrev pub seal_if : FileSealState → ℕ → ℕ → Option SealState
seal_if f n b = if (f.lane == n) && (f.bucket == b) then Some f.seal else None

-- the seal of the file that lane n has in bucket b, where it is one of these
abbrev pub file_seal : List FileSealState → ℕ → ℕ → Option SealState
file_seal [] n b = None
file_seal (f ∷ fs) n b = newer (seal_if f n b) (file_seal fs n b)

-- the same of the 16 buckets of 64 lanes
unfoldable pub lanes_of : List FileSealState → List (List (Option SealState))
lanes_of files = map (λ n. map (file_seal files n) (range_with_len 0 16)) (range_with_len 0 64)

-- the file that lane n has in bucket b, if it has a seal
abbrev pub file_if : ℕ → ℕ → Option SealState → List FileSealState
file_if n b None = []
file_if n b (Some seal) = record { lane = n; bucket = b; seal = seal } ∷ []

-- the seal of a lane's file of bucket b, if the file changed since
abbrev pub seal_since : List ℕ → ℕ → List (Option SealState) → ℕ → Option SealState
seal_since places at seals b = kept_if (nat_lt at (change_at places b)) (seal_at seals b)

-- of the first i files of lane n those that changed since and have a seal
abbrev pub files_in : ℕ → List ℕ → ℕ → List (Option SealState) → ℕ → List FileSealState
files_in n places at seals zero = []
files_in n places at seals (suc i) = files_in n places at seals i ++ file_if n i (seal_since places at seals i)

-- of the first k lanes the files that changed since and have a seal
abbrev pub files_since : List (List ℕ) → ℕ → List (List (Option SealState)) → ℕ → List FileSealState
files_since changed at lanes zero = []
files_since changed at lanes (suc n) = files_since changed at lanes n ++ files_in n (changes_in changed n) at (lane_in lanes n) (length (lane_in lanes n))

-- no file of a lane changed behind this place
abbrev pub AreAtMost : ℕ → List ℕ → Type 0
AreAtMost most places = (b : ℕ) → change_at places b ≤ most

-- the same of all files but that of bucket `last`
abbrev pub OthersAreAtMost : ℕ → ℕ → List ℕ → Type 0
OthersAreAtMost most last places = (b : ℕ) → b ≢ last → change_at places b ≤ most

-- 64 lanes of 16 places each
pub record ArePlaces (lanes : List (List (Option SealState))) : Type 0 where
  pub many : length lanes ≡ 64
  pub places : (n : ℕ) → n < 64 → length (lane_in lanes n) ≡ 16

-- the seals of a table once this one is put in its place
abbrev pub IsPut : FileSealState → List (List (Option SealState)) → List (List (Option SealState)) → Type 0
IsPut f old new = (n b : ℕ) → seal_in new n b ≡ newer (seal_if f n b) (seal_in old n b)

-- whether there is room for table i of a list
abbrev pub room_at : List Bool → ℕ → Bool
room_at rooms i = slice_index_or rooms i true

-- there is one for each of these tables, and a table is there if its room is none
pub record HaveRoom (delta : List TableSnapState) (rooms : List Bool) (tables : List TableSnapState) (places : List ℕ) : Type 0 where
  pub many : length rooms ≡ length delta
  pub there : (i : ℕ) → i < length delta → room_at rooms i ≡ false → IsSome (cached (snap_at delta i).table tables places)
