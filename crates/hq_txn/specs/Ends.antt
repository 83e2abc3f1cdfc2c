-- Which fault a write answers, over what it left of the benches. `used` are the nodes that it uses, and `answered` holds of the
-- bench of one whose host was checked and did not fail.
--     AnswerBefore used old new answered n             so it is of the used nodes before n
--     StoreFailed used old new answered rose           `rose` holds of the bench of a used node, the first with a fault
--     HostFailed used old new answered rose node       so it does of this node's
--     AreWholeBefore marks lane node                   the files of the nodes before this one are not torn: no append of theirs failed
use Rattle.std.specs.Prelude.{◌≡◌, ℕ, ◌+◌, ◌<◌, Bool, false, List, length}
use Rattle.hq_detect.specs.Assign.{owner_of}
use Rattle.hq_lane.specs.Lanes.{LaneState, file_of}
use Rattle.hq_txn.specs.Each.{At}

-- the hosts of the used nodes before n were checked and did not fail
abbrev pub AnswerBefore : {B : Type 0} → (ℕ → Type 0) → List B → List B → (B → B → Type 0) → ℕ → Type 0
AnswerBefore used old new answered n = (k : ℕ) → k < n → used k → At k old new answered

-- the count of a used node's store rose, and no host up to there failed
pub record StoreFailed {B : Type 0} (used : ℕ → Type 0) (old new : List B) (answered rose : B → B → Type 0) : Type 0 where
  pub node : ℕ
  pub within : node < length old
  pub is_used : used node
  pub count_rose : At node old new rose
  pub lowest : AnswerBefore used old new answered (node + 1)

-- the count of this used node's host rose, and no host before it failed
pub record HostFailed {B : Type 0} (used : ℕ → Type 0) (old new : List B) (answered rose : B → B → Type 0) (node : ℕ) : Type 0 where
  pub within : node < length old
  pub is_used : used node
  pub count_rose : At node old new rose
  pub lowest : AnswerBefore used old new answered node

-- none of the files of the nodes before n is torn: no append of theirs failed
abbrev pub AreWholeBefore : List Bool → LaneState → ℕ → Type 0
AreWholeBefore marks lane n = (b : ℕ) → b < 16 → owner_of marks b < n → (file_of lane.files b).torn ≡ false
