use Rattle.hq_pool.specs.declared.slot.Slot.TheVariants.{Out}
use Rattle.hq_pool.proofs.Entries.{places-set}
use Rattle.hq_pool.proofs.pool.Pool.adopt.Goals as goal

pub returns-clause-entry : goal.returns-clause-entry
returns-clause-entry g c = λ t. rw (c.put_home.ensures, c.self.view_is) (places-set c.args.self.now t c.args.n (Out c.args.k))
