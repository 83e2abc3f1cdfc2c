use Rattle.std.proofs.Common.{◌≡◌, map, drop}
use Rattle.hq_doors.specs.Memory.{planned, plan_named}
use Rattle.hq_doors.proofs.make.find_plan.Given as goal

-- no plan so far has the name
abbrev pub invariant-loop-plan : goal.invariant-loop-plan
invariant-loop-plan l = plan_named (map planned l.files) l.name ≡ plan_named (map planned (drop l.plan-index l.files)) l.name
