use Rattle.std.proofs.Common.{◌≡◌, ◌<◌, map, take, length}
use Rattle.hq_motion.specs.Lists.{listed}
use Rattle.hq_motion.proofs.split.to_each.Given as goal

abbrev pub invariant-loop-i : goal.invariant-loop-i
invariant-loop-i l = listed l.lists.items ≡ map (λ n. (n, l.rows.items)) (take l.i l.up)
