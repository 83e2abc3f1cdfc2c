-- Blocks that no row of which can pass.
--     passes_test test row       the row's value in the test's column is compared with success
--     excludes bounds test       a test excludes each block of these bounds
--     skips tests bounds         some test does, and the block has bounds
--     read_length tests head     how many bytes a scan reads of a block
use Rattle.std.specs.Prelude.{ℕ, ◌+◌, Bool, true, false, not, ◌&&◌, ◌||◌, List, [], ◌∷◌, Option, Some, None, length, slice_get, if◌then◌else◌}
use Rattle.std.specs.List.{list_any}
use Rattle.std.specs.Ordering.{is_eq, is_lt, is_le, is_gt, is_ge}
use Rattle.hq_value.specs.declared.value.Value.{Value}
use Rattle.hq_value.specs.declared.operator.CompareKind.{CompareKind}
use Rattle.hq_value.specs.declared.operator.CompareKind.TheVariants as compare
use Rattle.hq_value.specs.Compare.{passes}
use Rattle.hq_value.specs.Order.{value_cmp}
use Rattle.hq_block.specs.declared.bounds.Bounds.{Bounds}
use Rattle.hq_block.specs.declared.bounds.Bounds.TheVariants as bound
use Rattle.hq_block.specs.declared.head.BlockHead.{BlockHead}
use Rattle.hq_block.specs.declared.skip.ColumnTest.{ColumnTest}
use Rattle.hq_block.specs.Bounds.{is_null, value_at, bounds_bytes}

-- the row's value in the test's column is not NULL, and the comparison with the test's value holds
abbrev pub passes_test : ColumnTest → List Value → Bool
passes_test test row = not (is_null (value_at row test.column)) && passes test.compare (value_cmp (value_at row test.column) test.value)

-- no value from least to greatest passes
abbrev pub is_outside : CompareKind → Value → Value → Value → Bool
is_outside compare.Equal least greatest value = is_lt (value_cmp value least) || is_gt (value_cmp value greatest)
is_outside compare.NotEqual least greatest value = is_eq (value_cmp least value) && is_eq (value_cmp greatest value)
is_outside compare.Less least greatest value = is_ge (value_cmp least value)
is_outside compare.AtMost least greatest value = is_gt (value_cmp least value)
is_outside compare.Greater least greatest value = is_le (value_cmp greatest value)
is_outside compare.AtLeast least greatest value = is_lt (value_cmp greatest value)

-- the same of a column with these bounds; one that is missing or has only NULLs passes nothing
abbrev pub bound_excludes : ColumnTest → Option Bounds → Bool
bound_excludes test None = true
bound_excludes test (Some bound.Text) = false
bound_excludes test (Some bound.Empty) = true
bound_excludes test (Some (bound.Range least greatest)) = is_outside test.compare least greatest test.value

-- the test excludes a block with bounds
abbrev pub excludes : List Bounds → ColumnTest → Bool
excludes bounds test = bound_excludes test (slice_get bounds test.column)

-- the block has bounds, and some test excludes it
abbrev pub skips : List ColumnTest → List Bounds → Bool
skips tests [] = false
skips tests (first ∷ bounds) = list_any (excludes (first ∷ bounds)) tests

-- how many bytes are read of a block: its head and bounds where it is skipped, else all
abbrev pub read_length : List ColumnTest → BlockHead → ℕ
read_length tests head = if skips tests head.bounds then 16 + length (bounds_bytes head.bounds) else head.length
