-- The plans of the queries, over two tables of two INTs, whose numbers are 0 and 1.
--     two                the kinds of a table's columns
--     plan_by work       the plan
--     AreThere tables    the two tables are there, each with these kinds
use Rattle.std.specs.Prelude.{List, [], ◌∷◌, None}
use Rattle.hq_value.specs.declared.kind.Kind.{Kind}
use Rattle.hq_value.specs.declared.kind.Kind.TheVariants as kind
use Rattle.hq_algebra.specs.declared.expr.Expr.TheVariants as e
use Rattle.hq_algebra.specs.declared.aggregate.Aggregate.TheVariants as aggregate
use Rattle.hq_algebra.specs.declared.op.Op.{Op}
use Rattle.hq_algebra.specs.declared.op.Op.TheVariants as op
use Rattle.hq_algebra.specs.declared.plan.Motion.TheVariants as motion
use Rattle.hq_algebra.specs.declared.plan.Plan.{Plan}
use Rattle.hq_snap.specs.Snaps.{TableSnapState}
use Rattle.hq_exec.specs.Slices.{IsThere}
use Rattle.hq_dispatch.specs.Basis.{all_held}
use Rattle.hq_querytests.specs.declared.plans.Work.{Work}
use Rattle.hq_querytests.specs.declared.plans.Work.TheVariants as work

-- the kinds of a table's columns, and of a group that is not whole yet
abbrev pub two : List Kind
two = kind.Int ∷ kind.Int ∷ []

abbrev pub four : List Kind
four = kind.Int ∷ kind.Int ∷ kind.Int ∷ kind.Int ∷ []

-- the groups by number on a node
abbrev pub partial_groups : Op
partial_groups = op.Partial (1 ∷ []) (aggregate.CountAll ∷ aggregate.Sum (e.Column 0) ∷ []) (op.Scan 0 two)

-- the groups that the nodes sent, made whole
abbrev pub whole_groups : Op
whole_groups = op.Final 1 (aggregate.CountAll ∷ aggregate.Sum (e.Column 2) ∷ []) (op.Receive 0 four)

-- the keys of the rows whose numbers are equal
abbrev pub met : Op
met = op.Project (e.Column 0 ∷ e.Column 2 ∷ []) (op.Join (1 ∷ []) (1 ∷ []) (op.Receive 0 two) (op.Receive 1 two))

abbrev pub sorted : Op → Op
sorted input = op.Sort [] None input

-- the plan
abbrev pub plan_by : Work → Plan
plan_by work.All = record { slices = record { out = motion.Gather; root = op.Scan 0 two } ∷ record { out = motion.Result; root = sorted (op.Receive 0 two) } ∷ [] }
plan_by work.Group = record { slices = record { out = motion.Gather; root = partial_groups } ∷ record { out = motion.Result; root = sorted whole_groups } ∷ [] }
plan_by work.Join = record {
  slices =
      record { out = motion.Redistribute (1 ∷ []); root = op.Scan 0 two }
      ∷ record { out = motion.Redistribute (1 ∷ []); root = op.Scan 1 two }
      ∷ record { out = motion.Gather; root = met }
      ∷ record { out = motion.Result; root = sorted (op.Receive 2 two) } ∷ [];
}

-- the two tables are there, each with these kinds
pub record AreThere (tables : List TableSnapState) : Type 0 where
  pub first : IsThere (all_held tables []) 0 two
  pub second : IsThere (all_held tables []) 1 two
