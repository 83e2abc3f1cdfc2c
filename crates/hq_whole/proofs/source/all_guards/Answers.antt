use Rattle.std.proofs.Common.{◌-◌, arith}
use Rattle.hq_whole.proofs.Conjoining.{guards-back}
use Rattle.hq_whole.proofs.source.all_guards.Goals as goal

pub loop-at-preserved : goal.loop-at-preserved
loop-at-preserved c = record {
  found = guards-back c.args.kinds.now c.args.width c.args.conds.now c.loop-at.at c.index-conds-place.result c.loop-at.found c.in_ok-more.more c.loop-at-test.true c.loop-at.invariant.within c.index-conds-place.is c.loop-at.invariant.found c.in_ok-more.ensures;
  within = omega (arith, c.loop-at.invariant.within);
}
