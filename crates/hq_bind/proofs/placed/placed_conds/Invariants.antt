use Rattle.std.proofs.Common.{◌≡◌, map, take}
use Rattle.hq_bind.specs.Bound.{placed}
use Rattle.hq_bind.proofs.placed.placed_conds.Given as goal

abbrev pub invariant-loop-cond : goal.invariant-loop-cond
invariant-loop-cond l = l.new ≡ map (placed l.columns) (take l.cond-index l.conds)
