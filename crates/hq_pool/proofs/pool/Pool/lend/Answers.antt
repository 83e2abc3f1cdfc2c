use Rattle.hq_pool.proofs.Entries.{LendsTo-entry, LendsTo-AllOut}
use Rattle.hq_pool.proofs.pool.Pool.lend.Goals as goal

pub returns-clause-entry : goal.returns-clause-entry
returns-clause-entry g c = λ t. LendsTo-entry c.args.k t c.self.inside.slots.items c.args.self.now c.lend_next.new.slots.items c.lend_next.result c.self.view_is c.lend_next.ensures.lent

pub returns-clause-all_out : goal.returns-clause-all_out
returns-clause-all_out g c = LendsTo-AllOut c.args.k c.self.inside.slots.items c.args.self.now c.lend_next.new.slots.items c.lend_next.result c.self.view_is c.lend_next.ensures.lent
