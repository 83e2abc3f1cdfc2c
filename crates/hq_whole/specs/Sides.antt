-- The two sides of a join, and the slices that come before it.
use Rattle.std.specs.Prelude.{◌≡◌, ℕ, List, ◌++◌, length}
use Rattle.hq_value.specs.declared.kind.Kind.{Kind}
use Rattle.hq_algebra.specs.declared.op.Op.{Op}
use Rattle.hq_algebra.specs.declared.plan.Slice.{Slice}
use Rattle.hq_laws.specs.Spread.{Way, added_slices, left_side, right_side}
use Rattle.hq_whole.specs.declared.step.Step.{Step}
use Rattle.hq_whole.specs.declared.spreading.Sides.{Sides}

-- the sides of a join and the slices that are there now, as the way says: the left side is the root of these kinds, the
-- right one the table's operator of those kinds
abbrev pub AreSides : List Slice → List Slice → Op → List Kind → Op → List Kind → Step → Way → Sides → Type 0
AreSides slices now root before source after s way sides =
    (now ≡ slices ++ added_slices way s.left_keys s.right_keys root source)
    × (sides.left ≡ left_side way (length slices) before root)
    × (sides.right ≡ right_side way (length slices) after source)
