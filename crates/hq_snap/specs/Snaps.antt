-- A table as a look saw it, as contracts see it. The seals of a lane are a list of 16, one for each bucket's file, or an
-- empty list where there is none.
--     seal_in lanes n b             the seal of the file that lane n has in bucket b
--     table_length lanes            how many bytes lie under the seals
--     change_in changed n b         the place behind the last Commit that changed the file, or 0
--     is_since changed at n b       a Commit at this place of the log or behind it changed the file
--     kept_if keep seal             the seal, if it is kept
--     AreSince changed at all some  of the seals those of the files that changed since
--     newer newest own              the newest seal, or else the own one
--     AreMerged newest own new      of each file the newest seal, or else the own one
use Rattle.std.specs.Prelude.{◌≡◌, ℕ, Bool, true, false, List, [], Option, Some, None, slice_index_or, sum_by, nat_lt}
use Rattle.hq_store.specs.FileStep.{SealState}
use Rattle.hq_value.specs.Tables.{Definition}

-- a table's number and definition, and the seals of its 64 lanes
pub record TableSnapState : Type 0 where
  pub table : ℕ
  pub def : Definition
  pub lanes : List (List (Option SealState))

-- how many bytes the seal has; none where there is no seal
abbrev pub seal_len : Option SealState → ℕ
seal_len None = 0
seal_len (Some seal) = seal.len

-- the bytes under the seal; none where there is no seal
abbrev pub seal_bytes : Option SealState → List ℕ
seal_bytes None = []
seal_bytes (Some seal) = seal.bytes

-- the seal of bucket b's file
abbrev pub seal_at : List (Option SealState) → ℕ → Option SealState
seal_at seals b = slice_index_or seals b None

-- the seals of lane n
abbrev pub lane_in : List (List (Option SealState)) → ℕ → List (Option SealState)
lane_in lanes n = slice_index_or lanes n []

-- the seal of the file that lane n has in bucket b
abbrev pub seal_in : List (List (Option SealState)) → ℕ → ℕ → Option SealState
seal_in lanes n b = seal_at (lane_in lanes n) b

-- how many bytes lie under a lane's seals
abbrev pub seals_length : List (Option SealState) → ℕ
seals_length seals = sum_by seal_len seals

-- how many bytes lie under a table's seals
abbrev pub table_length : List (List (Option SealState)) → ℕ
table_length lanes = sum_by seals_length lanes

-- the place behind the last Commit that changed the file of bucket b, or 0
abbrev pub change_at : List ℕ → ℕ → ℕ
change_at places b = slice_index_or places b 0

-- the places of lane n's files
abbrev pub changes_in : List (List ℕ) → ℕ → List ℕ
changes_in changed n = slice_index_or changed n []

-- the place behind the last Commit that changed the file that lane n has in bucket b, or 0
abbrev pub change_in : List (List ℕ) → ℕ → ℕ → ℕ
change_in changed n b = change_at (changes_in changed n) b

-- a Commit at this place of the log or behind it changed the file
abbrev pub is_since : List (List ℕ) → ℕ → ℕ → ℕ → Bool
is_since changed at n b = nat_lt at (change_in changed n b)

-- the seal, if it is kept
abbrev pub kept_if : Bool → Option SealState → Option SealState
kept_if true seal = seal
kept_if false seal = None

-- of a lane's seals those of the files that changed since
abbrev pub AreSinceIn : List ℕ → ℕ → List (Option SealState) → List (Option SealState) → Type 0
AreSinceIn places at all some = (b : ℕ) → seal_at some b ≡ kept_if (nat_lt at (change_at places b)) (seal_at all b)

-- of a table's seals those of the files that changed since
abbrev pub AreSince : List (List ℕ) → ℕ → List (List (Option SealState)) → List (List (Option SealState)) → Type 0
AreSince changed at all some = (n b : ℕ) → seal_in some n b ≡ kept_if (is_since changed at n b) (seal_in all n b)

-- the newest seal, or else the own one
abbrev pub newer : Option SealState → Option SealState → Option SealState
newer None own = own
newer (Some newest) own = Some newest

-- of each file of a lane the newest seal, or else the own one
abbrev pub AreMergedIn : List (Option SealState) → List (Option SealState) → List (Option SealState) → Type 0
AreMergedIn newest own new = (b : ℕ) → seal_at new b ≡ newer (seal_at newest b) (seal_at own b)

-- of each file of a table the newest seal, or else the own one
abbrev pub AreMerged : List (List (Option SealState)) → List (List (Option SealState)) → List (List (Option SealState)) → Type 0
AreMerged newest own new = (n b : ℕ) → seal_in new n b ≡ newer (seal_in newest n b) (seal_in own n b)
