-- A cursor over the blocks of a range of bytes.
--     CursorState                              where it stands, and the bytes that are left
--     IsCursor end cursor                      what holds of every cursor, where the bytes end at `end`
--     HasPassed old new head before after      it passed the block of this head, and added the rows of it that are read
--     by_range sealed own range                a fact of a range, by whether it lies under a seal
--     IfBad result P                           a fact for a bad block
use Rattle.std.specs.Prelude.{◌≡◌, ℕ, ◌+◌, ◌<◌, ◌≤◌, ◌++◌, Bool, true, List, [], All, IsTrue, Result, Ok, Err}
use Rattle.hq_value.specs.declared.value.Value.{Value}
use Rattle.hq_value.specs.declared.kind.Kind.{Kind}
use Rattle.hq_value.specs.Kinds.{Fits}
use Rattle.hq_block.specs.declared.head.BlockHead.{BlockHead}
use Rattle.hq_block.specs.declared.skip.ColumnTest.{ColumnTest}
use Rattle.hq_block.specs.Skipping.{skips, read_length}
use Rattle.hq_lane.specs.declared.range.Range.{Range}
use Rattle.hq_lane.specs.declared.range.Range.TheVariants as range
use Rattle.hq_lane.specs.declared.scan_end.ScanFault.{ScanFault}
use Rattle.hq_lane.specs.declared.scan_end.ScanFault.TheVariants as fault
use Rattle.hq_lane.specs.Scans.{IsFile}
use Rattle.hq_lane.specs.FileBlocks.{kept_rows, read_sum}

-- whether its bytes are told, where the next block begins and where the last one ends, the bytes that are left, and
-- the kinds of the columns and the tests by which blocks are skipped
pub record CursorState : Type 0 where
  pub told : Bool
  pub at : ℕ
  pub to : ℕ
  pub left : List ℕ
  pub kinds : List Kind
  pub tests : List ColumnTest

-- it stands before the end, and what is left is blocks
pub record IsCursor (end : ℕ) (cursor : CursorState) : Type 0 where
  pub order : cursor.at ≤ cursor.to
  pub within : cursor.to ≤ end
  pub file : IsTrue cursor.told → IsFile cursor.kinds cursor.left

-- it passed the block of this head, and added the rows that it found: none where the tests skip the block. What is
-- kept of the bytes, and what is read of them, is what it found and read now, and that of the bytes that are left
pub record HasPassed (old new : CursorState) (head : BlockHead) (before after : List (List Value)) : Type 0 where
  pub found : List (List Value)
  pub added : after ≡ before ++ found
  pub fit : All (Fits old.kinds) found
  pub skipped : skips old.tests head.bounds ≡ true → found ≡ []
  pub some : 0 < head.length
  pub on : new.at ≡ old.at + head.length
  pub within : new.at ≤ old.to
  pub rows : IsTrue old.told → kept_rows old.tests old.kinds old.left ≡ found ++ kept_rows old.tests old.kinds new.left
  pub reads : IsTrue old.told → read_sum old.tests old.kinds old.left ≡ read_length old.tests head + read_sum old.tests old.kinds new.left

-- a fact of a range, by whether it lies under a seal
abbrev pub by_range : {A B X : Type 0} → (A → X) → (B → X) → Range A B → X
by_range sealed own (range.Sealed seal) = sealed seal
by_range sealed own (range.Own file) = own file

-- a fact for a bad block
abbrev pub IfBad : {T : Type 0} → Result T ScanFault → (ℕ → List ℕ → Type 0) → Type 0
IfBad (Ok x) P = Unit {0}
IfBad (Err fault.Store) P = Unit {0}
IfBad (Err (fault.BadBlock at bytes)) P = P at bytes.items
IfBad (Err fault.NoMemory) P = Unit {0}
