-- At most one table is had, as it was at a place that the history has reached.
use Rattle.std.proofs.Common.{false}
use Rattle.hq_catalog.specs.History.{history}
use Rattle.hq_catalogtests.proofs.Looking.{may_look}
use Rattle.hq_catalogtests.proofs.Kept.{turned_same}
use Rattle.hq_catalogtests.proofs.asks.look.Goals as goal

pub still-requires-clause-may : goal.still-requires-clause-may
still-requires-clause-may c = may_look (history false c.args.catalogue.now) c.args.have c.in-Ok.have.items (c.is_reached.ensures c.if-not-is_reached.false) c.in-Ok.ensures

pub returns-then-not-is_reached-clause-turned : goal.returns-then-not-is_reached-clause-turned
returns-then-not-is_reached-clause-turned c = turned_same c.args.session (history false c.args.catalogue.now) c.args.hand c.requires.has

pub returns-in-Err-clause-turned : goal.returns-in-Err-clause-turned
returns-in-Err-clause-turned c = turned_same c.args.session (history false c.args.catalogue.now) c.args.hand c.requires.has
