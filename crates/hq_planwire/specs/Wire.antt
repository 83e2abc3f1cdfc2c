-- Bytes that are a plan.
--     IsPlan plan bytes      the plan is well formed, and the bytes spell it
--     Written HasRoom put before x after     x was written behind what stood there, and has room
use Rattle.std.specs.Prelude.{◌≡◌, ◌++◌, ℕ, List, IsTrue}
use Rattle.hq_algebra.specs.declared.plan.Plan.{Plan}
use Rattle.hq_algebra.specs.Plans.{is_well_formed}
use Rattle.hq_planwire.specs.Bytes.{plan_bytes}
use Rattle.hq_planwire.specs.Ranges.{PlanHasRoom}

-- the plan is well formed, and the bytes spell it
pub record IsPlan (plan : Plan) (bytes : List ℕ) : Type 0 where
  pub well_formed : IsTrue (is_well_formed plan)
  pub has_room : PlanHasRoom plan
  pub spelled : bytes ≡ plan_bytes plan

-- x was written behind what stood there, and has room
pub record Written {A : Type 0} (HasRoom : A → Type 0) (put : A → List ℕ) (before : List ℕ) (x : A) (after : List ℕ) : Type 0 where
  pub appended : after ≡ before ++ put x
  pub has_room : HasRoom x
