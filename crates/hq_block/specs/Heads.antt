-- What a block's head says before the rest is read.
--     IsHead head bytes          the bytes begin with this head
--     HeadLength bytes n         the bytes begin with a head; with its bounds it has n bytes
--     HeadIs kinds head bytes    the bytes are a head and bounds for these kinds, and say this
use Rattle.std.specs.Prelude.{◌≡◌, ℕ, ◌+◌, ◌^◌, ◌<◌, ◌≤◌, Bool, true, false, List, [], length, take, drop, ◌==◌}
use Rattle.hq_value.specs.declared.kind.Kind.{Kind}
use Rattle.hq_block.specs.declared.bounds.Bounds.{Bounds}
use Rattle.hq_block.specs.declared.head.Head.{Head}
use Rattle.hq_block.specs.declared.head.BlockHead.{BlockHead}
use Rattle.hq_block.specs.Block.{head_bytes, obeys}
use Rattle.hq_block.specs.Bounds.{AreBounds, bounds_bytes}

-- the bytes begin with this head, which obeys the rules
pub record IsHead (head : Head) (bytes : List ℕ) : Type 0 where
  pub rules : obeys head ≡ true
  pub row_count : head.rows < 2 ^ 32
  pub spelled : take 16 bytes ≡ head_bytes head

-- the bytes begin with a head; with its bounds it has n bytes
pub record HeadLength (bytes : List ℕ) (n : ℕ) : Type 0 where
  pub head : Head
  pub is : IsHead head bytes
  pub length_is : n ≡ 16 + head.bounds

-- a head that has bounds is followed by just these, which columns of the kinds may have; else there are none
abbrev pub BoundsFollow : Bool → List Kind → List Bounds → List ℕ → Type 0
BoundsFollow true kinds bounds bytes = AreBounds kinds bounds × (bytes ≡ bounds_bytes bounds)
BoundsFollow false kinds bounds bytes = bounds ≡ []

-- the bytes are a head and bounds for these kinds, and say this
pub record HeadIs (kinds : List Kind) (found : BlockHead) (bytes : List ℕ) : Type 0 where
  pub head : Head
  pub is : IsHead head bytes
  pub columns : found.columns ≡ head.columns
  pub within : head.columns ≤ length kinds
  pub length_is : found.length ≡ 16 + head.size
  pub bounds : BoundsFollow (head.version == 2) (take head.columns kinds) found.bounds (drop 16 bytes)
