use Rattle.std.proofs.Common.{sym}
use Rattle.hq_log.proofs.Nexts.{next_place-Clean, next_place-Dirty, next_place-Unborn}
use Rattle.hq_pool.specs.Slots.{places}
use Rattle.hq_pool.proofs.lend.lend_next.Goals as goal

pub take_clean-requires : goal.take_clean-requires
take_clean-requires g c =
    let next = rw c.deref.ensures.value at c.in-Clean.ensures in
    (next_place-Clean (places c.args.slots.now.items) c.in-Clean.n (sym next)).0

pub take_dirty-requires : goal.take_dirty-requires
take_dirty-requires g c =
    let next = rw c.deref.ensures.value at c.in-Dirty.ensures in
    (next_place-Dirty (places c.args.slots.now.items) c.in-Dirty.n (sym next)).0.0

pub take_unborn-requires : goal.take_unborn-requires
take_unborn-requires g c =
    let next = rw c.deref.ensures.value at c.in-Unborn.ensures in
    (next_place-Unborn (places c.args.slots.now.items) c.in-Unborn.n (sym next)).0.0
