-- The extent of a column of integers, as its bounds.
use Rattle.hq_value.specs.declared.value.Value.TheVariants as variant
use Rattle.hq_block.specs.declared.bounds.Bounds.{Bounds}
use Rattle.hq_block.specs.declared.bounds.Bounds.TheVariants as bound
use Rattle.hq_block.specs.declared.bounds.Extent.{Extent}
use Rattle.hq_block.specs.declared.bounds.Extent.TheVariants as extent

-- the bounds of integers from the least to the greatest
abbrev pub extent_bounds : Extent → Bounds
extent_bounds extent.Empty = bound.Empty
extent_bounds (extent.Ints least greatest) = bound.Range (variant.Int least) (variant.Int greatest)
