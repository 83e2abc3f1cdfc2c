-- The names of a folder's files.
--     lane_name id              the name of a lane's file
--     lane_path folder id       where it lies
--     PathOfLane                a lane's file and where it lies
--     node_path folder node     where the folder of a node lies
--     FitsId id                 its numbers are those of a table, a lane and a bucket
--     BeginsAsLane name         the name begins as those of lanes' files do
use Rattle.std.specs.Prelude.{◌≡◌, ℕ, ◌<◌, ◌≤◌, ◌^◌, List, [], ◌∷◌, ◌++◌, codes, decimal}
use Rattle.hq_value.specs.declared.entry.FileId.{FileId}

-- the name of a lane's file: its table, its lane and its bucket
abbrev pub lane_name : FileId → List ℕ
lane_name id = codes "t" ++ decimal id.table ++ codes "-l" ++ decimal id.lane ++ codes "-b" ++ decimal id.bucket

-- where it lies
abbrev pub lane_path : List ℕ → FileId → List ℕ
lane_path folder id = folder ++ codes "/" ++ lane_name id

-- a lane's file and where it lies
pub record PathOfLane : Type 0 where
  pub id : FileId
  pub bytes : List ℕ

-- where the folder of a node lies
abbrev pub node_path : List ℕ → ℕ → List ℕ
node_path folder node = folder ++ codes "/seg-" ++ decimal node

-- its numbers are those of a table, a lane and a bucket
pub record FitsId (id : FileId) : Type 0 where
  pub table : id.table < 2 ^ 32
  pub lane : id.lane < 2 ^ 8
  pub bucket : id.bucket < 2 ^ 8

-- the name begins as those of lanes' files do: with `t` and a digit
abbrev pub BeginsAsLane : List ℕ → Type 0
BeginsAsLane [] = ⊥
BeginsAsLane (first ∷ []) = ⊥
BeginsAsLane (first ∷ second ∷ rest) = (first ≡ 116) × (48 ≤ second) × (second ≤ 57)
