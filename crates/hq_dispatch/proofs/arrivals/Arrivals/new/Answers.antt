-- Nothing came of any of 16 nodes.
use Rattle.hq_dispatch.proofs.arrivals.Arrivals.new.Goals as goal

pub invariant_of-result : goal.invariant_of-result
invariant_of-result c = record {
  some = c.requires;
  sixteen = c.in_ok-from.ensures.sixteen;
  storable = c.in_ok-from.ensures.storable c.args.kinds.now;
}
