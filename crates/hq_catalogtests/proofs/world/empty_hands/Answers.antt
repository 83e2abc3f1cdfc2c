-- One empty hand more.
use Rattle.std.proofs.Common.{arith, subst, sym}
use Rattle.hq_catalogtests.specs.Turns.{AreEmpty}
use Rattle.hq_catalogtests.proofs.Worlds.{one_more}
use Rattle.hq_catalogtests.proofs.world.empty_hands.Goals as goal

pub loop-preserved : goal.loop-preserved
loop-preserved c = record {
  len = omega arith;
  room = omega arith;
  none = subst AreEmpty (sym c.push_reserved.ensures.items) (one_more c.loop.hands.items c.empty.result c.loop.invariant.none (c.empty.ensures.sealed, c.empty.ensures.held));
}
