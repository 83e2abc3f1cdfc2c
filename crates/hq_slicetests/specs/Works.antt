-- The plans of the slices, over a table of two INTs whose number is 0.
--     root_by work       the root of the slice
--     sent_by work       the kinds of its rows
--     plan_by work       the plan whose first slice it is, and whose last gives what it sent
use Rattle.std.specs.Prelude.{ℤ, List, [], ◌∷◌}
use Rattle.hq_value.specs.declared.kind.Kind.{Kind}
use Rattle.hq_value.specs.declared.kind.Kind.TheVariants as kind
use Rattle.hq_value.specs.declared.value.Value.TheVariants as value
use Rattle.hq_value.specs.declared.operator.ArithKind.TheVariants as arithmetic
use Rattle.hq_value.specs.declared.operator.CompareKind.TheVariants as compare
use Rattle.hq_algebra.specs.declared.expr.Expr.TheVariants as e
use Rattle.hq_algebra.specs.declared.aggregate.Aggregate.TheVariants as aggregate
use Rattle.hq_algebra.specs.declared.op.Op.{Op}
use Rattle.hq_algebra.specs.declared.op.Op.TheVariants as op
use Rattle.hq_algebra.specs.declared.plan.Motion.TheVariants as motion
use Rattle.hq_algebra.specs.declared.plan.Plan.{Plan}
use Rattle.hq_slicetests.specs.declared.plans.Work.{Work}
use Rattle.hq_slicetests.specs.declared.plans.Work.TheVariants as work

-- the kinds of the table's columns
abbrev pub two : List Kind
two = kind.Int ∷ kind.Int ∷ []

-- the rows of the table
abbrev pub all_rows : Op
all_rows = op.Scan 0 two

-- those whose key is below the number
abbrev pub rows_below : ℤ → Op
rows_below most = op.Filter (e.Compare compare.Less (e.Column 0) (e.Literal (value.Int most))) all_rows

-- the root of the slice
abbrev pub root_by : Work → Op
root_by work.Scan = all_rows
root_by (work.Filter most) = rows_below most
root_by (work.Group most) = op.Partial (0 ∷ []) (aggregate.CountAll ∷ aggregate.Sum (e.Column 1) ∷ []) (rows_below most)
root_by (work.Times factor) = op.Project (e.Arith arithmetic.Times (e.Column 1) (e.Literal (value.Int factor)) ∷ []) all_rows

-- the kinds of its rows
abbrev pub sent_by : Work → List Kind
sent_by work.Scan = two
sent_by (work.Filter most) = two
sent_by (work.Group most) = kind.Int ∷ kind.Int ∷ kind.Int ∷ kind.Int ∷ []
sent_by (work.Times factor) = kind.Int ∷ []

-- the plan whose first slice it is, and whose last gives what it sent
abbrev pub plan_by : Work → Plan
plan_by w = record { slices = record { out = motion.Gather; root = root_by w } ∷ record { out = motion.Result; root = op.Receive 0 (sent_by w) } ∷ [] }
