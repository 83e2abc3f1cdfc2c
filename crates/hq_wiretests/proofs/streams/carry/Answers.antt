use Rattle.hq_wiretests.proofs.Nodes.{down_below, down_few, down_alone}
use Rattle.hq_wiretests.proofs.streams.carry.Goals as goal

pub exchange-requires-clause-from_nodes : goal.exchange-requires-clause-from_nodes
exchange-requires-clause-from_nodes g c = down_below c.args.first c.args.streams.items c.requires.first c.requires.down

pub exchange-requires-clause-few : goal.exchange-requires-clause-few
exchange-requires-clause-few g c = down_few c.args.first c.args.streams.items c.requires.first c.requires.down

pub exchange-requires-clause-alone : goal.exchange-requires-clause-alone
exchange-requires-clause-alone g c = down_alone c.args.first c.args.streams.items c.requires.down
