use Rattle.hq_pool.specs.declared.slot.Slot.TheVariants.{Dirty}
use Rattle.hq_pool.proofs.Entries.{places-set}
use Rattle.hq_pool.proofs.pool.Pool.back_dirty.Goals as goal

pub returns-clause-entry : goal.returns-clause-entry
returns-clause-entry g c = λ t k. rw (c.put_home.ensures, c.self.view_is) (places-set c.args.self.now t c.args.n (Dirty c.args.value))
