-- What may not be asked changes nothing.
use Rattle.std.proofs.Common.{false}
use Rattle.hq_catalog.specs.History.{history}
use Rattle.hq_catalogtests.proofs.Kept.{turned_same}
use Rattle.hq_catalogtests.proofs.asks.ask.Goals as goal

pub returns-in-Mark-2-clause-turned : goal.returns-in-Mark-2-clause-turned
returns-in-Mark-2-clause-turned c = turned_same c.args.session (history false c.args.catalogue.now) c.args.hand c.requires.has
