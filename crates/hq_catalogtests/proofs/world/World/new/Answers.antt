-- Nobody has a lane of a catalogue that was just made.
use Rattle.hq_catalogtests.proofs.Worlds.{world_new}
use Rattle.hq_catalogtests.proofs.world.World.new.Goals as goal

pub invariant_of-result : goal.invariant_of-result
invariant_of-result c = world_new c.args.nodes c.in_ok-new.field-0 c.in_ok-empty_hands.field-0.items c.in_ok-new.ensures c.in_ok-empty_hands.ensures
