-- The keys of rows.
--     key_by by row, width_by by         the key of a row, and how many columns it has
--     has_null key                       some value of a key is NULL
use Rattle.std.specs.Prelude.{ℕ, Bool, length, take}
use Rattle.std.specs.List.{list_any}
use Rattle.hq_algebra.specs.Steps.{is_null}
use Rattle.hq_meaning.specs.Rows.{Row}
use Rattle.hq_meaning.specs.Groups.{key_of}
use Rattle.hq_ops.specs.declared.groups.GroupBy.{GroupBy}
use Rattle.hq_ops.specs.declared.groups.GroupBy.TheVariants as by

-- the key of a row: its values at these places, or its first values
abbrev pub key_by : GroupBy → Row → Row
key_by (by.Columns places) = key_of places.now
key_by (by.First count) = take count

-- how many columns it has
abbrev pub width_by : GroupBy → ℕ
width_by (by.Columns places) = length places.now
width_by (by.First count) = count

-- some value of a key is NULL
abbrev pub has_null : Row → Bool
has_null key = list_any is_null key
