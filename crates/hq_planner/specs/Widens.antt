-- Operators and plans over tables, in place of such ones over the columns that are taken of them.
--     Widens kinds ts above op new     new is what stands in place of an operator under a condition, if there is one
--     WidensPlan kinds ts plan new     new is what stands in place of a plan
use Rattle.std.specs.Prelude.{◌≡◌, ℕ, List, Option, IsTrue}
use Rattle.std.specs.List.{list_all}
use Rattle.hq_value.specs.declared.kind.Kind.{Kind}
use Rattle.hq_algebra.specs.declared.expr.Expr.{Expr}
use Rattle.hq_algebra.specs.declared.op.Op.{Op}
use Rattle.hq_algebra.specs.declared.plan.Plan.{Plan}
use Rattle.hq_algebra.specs.declared.plan.Slice.{Slice}
use Rattle.hq_narrow.specs.declared.taken.Taken.{Taken}
use Rattle.hq_narrow.specs.Widened.{widened, widened_plan, scans_fit, are_few}

-- each Scan of it has the kinds of the columns that are taken
pub record Widens (kinds : ℕ → List Kind) (ts : List Taken) (above : Option Expr) (op new : Op) : Type 0 where
  pub same : new ≡ widened kinds ts above op
  pub fits : IsTrue (scans_fit kinds ts op)

-- so does each Scan of its slices, and these have few operators then
pub record WidensPlan (kinds : ℕ → List Kind) (ts : List Taken) (plan new : Plan) : Type 0 where
  pub same : new ≡ widened_plan kinds ts plan
  pub fit : IsTrue (list_all (λ (s : Slice). scans_fit kinds ts s.root) plan.slices)
  pub few : IsTrue (list_all (are_few kinds ts) plan.slices)
