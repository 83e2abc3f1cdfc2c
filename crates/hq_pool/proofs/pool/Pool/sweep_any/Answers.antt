use Rattle.hq_pool.proofs.Entries.{SweepsAny-entry, SweepsAny-none}
use Rattle.hq_pool.proofs.pool.Pool.sweep_any.Goals as goal

pub returns-clause-none : goal.returns-clause-none
returns-clause-none g c = SweepsAny-none c.args.k c.self.inside.slots.items c.args.self.now c.sweep_lowest.new.slots.items c.sweep_lowest.result c.self.view_is c.sweep_lowest.ensures.swept

pub returns-clause-entry : goal.returns-clause-entry
returns-clause-entry g c = SweepsAny-entry c.args.k c.self.inside.slots.items c.args.self.now c.sweep_lowest.new.slots.items c.sweep_lowest.result c.self.view_is c.sweep_lowest.ensures.swept
