use Rattle.std.proofs.Common.{sym}
use Rattle.hq_log.specs.Places.{is_dirty}
use Rattle.hq_log.proofs.Nexts.{IsLowest-position}
use Rattle.hq_pool.specs.Slots.{places}
use Rattle.hq_pool.proofs.lend.sweep_lowest.Goals as goal

pub take_dirty-requires : goal.take_dirty-requires
take_dirty-requires g c =
    let found = rw c.deref.ensures.value at c.in-Some.ensures in
    (IsLowest-position is_dirty (places c.args.slots.now.items) c.in-Some.n (sym found)).0
