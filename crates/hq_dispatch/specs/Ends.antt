-- How a query ends, over what it left of the benches. `used` says which nodes are in use, and `answered` holds of the bench
-- of one whose host was checked and did not fail.
--     IfRows end P, OnNumeric end P ..                  a fact for one end
--     IfMeant end P                                     a fact for what the plan means, where the query ended with that
--     HasAnswered checks faults old new                 a host was checked and did not fail
--     Fails used old new answered cause upto node       `cause` holds of the bench of this node, which is in use, and the
--                                                       hosts of the nodes in use below `upto` answered
use Rattle.std.specs.Prelude.{◌≡◌, ℕ, ◌<◌, Bool, true, List, length}
use Rattle.hq_value.specs.Causes.{Rose}
use Rattle.hq_value.specs.declared.value.Value.{Value}
use Rattle.hq_value.specs.declared.entry.FileId.{FileId}
use Rattle.hq_meaning.specs.Mean.{Answer}
use Rattle.hq_meaning.specs.Mean as answer
use Rattle.hq_dispatch.specs.Each.{At}
use Rattle.hq_dispatch.specs.declared.end.QueryEnd.{QueryEnd}
use Rattle.hq_dispatch.specs.declared.end.QueryEnd.TheVariants as end

-- a fact for rows
abbrev pub IfRows : QueryEnd → (List (List Value) → Type 0) → Type 0
IfRows (end.Rows rows) P = P rows.items
IfRows _ P = Unit {0}

-- a fact for an evaluation that faults
abbrev pub OnNumeric : QueryEnd → Type 0 → Type 0
OnNumeric end.Numeric P = P
OnNumeric _ P = Unit {0}

-- a fact for what the plan means, where the query ended with that
abbrev pub IfMeant : QueryEnd → (Answer → Type 0) → Type 0
IfMeant (end.Rows rows) P = P (answer.Rows rows.items)
IfMeant end.Numeric P = P answer.Numeric
IfMeant _ P = Unit {0}

-- a fact for a fault of a store
abbrev pub OnStore : QueryEnd → Type 0 → Type 0
OnStore end.Store P = P
OnStore _ P = Unit {0}

-- a fact for the fault of a node's host, or of its link
abbrev pub IfHost : QueryEnd → (ℕ → Type 0) → Type 0
IfHost (end.Host node) P = P node
IfHost _ P = Unit {0}

abbrev pub IfLinkLost : QueryEnd → (ℕ → Type 0) → Type 0
IfLinkLost (end.LinkLost node) P = P node
IfLinkLost _ P = Unit {0}

abbrev pub IfLinkFailed : QueryEnd → (ℕ → Type 0) → Type 0
IfLinkFailed (end.LinkFailed node) P = P node
IfLinkFailed _ P = Unit {0}

-- a fact for bytes that a node read and that begin no block
abbrev pub IfBadBlock : QueryEnd → (ℕ → FileId → ℕ → List ℕ → Type 0) → Type 0
IfBadBlock (end.BadBlock node file at bytes) P = P node file at bytes.items
IfBadBlock _ P = Unit {0}

-- the host was checked and did not fail
pub record HasAnswered {H : Type 0} (checks faults : H → ℕ) (old new : H) : Type 0 where
  pub checked : Rose (checks old) (checks new)
  pub held : faults new ≡ faults old

-- the cause holds of the bench of this node, which is in use, and the hosts of the nodes in use below that answered
pub record Fails {B : Type 0} (used : ℕ → Bool) (old new : List B) (answered cause : B → B → Type 0) (upto node : ℕ) : Type 0 where
  pub within : node < length old
  pub is_used : used node ≡ true
  pub caused : At node old new cause
  pub lowest : (k : ℕ) → k < upto → used k ≡ true → At k old new answered
