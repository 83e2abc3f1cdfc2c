use Rattle.std.proofs.Common.{rules}
use Rattle.hq_histlock.proofs.Keeps.{wins}
use Rattle.hq_histlock.proofs.Closes.{slot_of}
use Rattle.hq_histlock.proofs.lock.HistLock.try_enter.Goals as goal

pub compare_exchange-requires : goal.compare_exchange-requires
compare_exchange-requires g c = (search rules, search rules, wins _ _ _ _ _ c.requires.live c.requires.done)

pub exchange-requires : goal.exchange-requires
exchange-requires g c = (search rules, slot_of _ _ _ _ _ c.compare_exchange.ensures.2 (search rules))
