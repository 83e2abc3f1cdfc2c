use Rattle.std.proofs.Common.{rules, ap, length}
use Rattle.hq_histlock.proofs.Opens.{takes_empty}
use Rattle.hq_histlock.proofs.Closes.{as_long, start_allowed, open_freed}
use Rattle.hq_histlock.proofs.lock.HistLock.begin.Goals as goal

pub load-requires : goal.load-requires
load-requires g c = (search rules, search rules, takes_empty _ _ _ _ c.args.first _ c.requires.raw)

pub swap-requires : goal.swap-requires
swap-requires g c = (
  search rules,
  search rules,
  start_allowed _ _ _ _ c.args.first _ _ _ c.args.value _ c.requires.raw c.load.ensures.2 c.exchange-old.ensures.3 c.requires.some c.requires.above (as_long _ _ (ap length c.entries.ensures)),
)

pub swap-requires-2 : goal.swap-requires-2
swap-requires-2 g c = (search rules, search rules, open_freed _ _ _ _ c.args.first _ _ _ _ c.args.value c.requires.raw c.load.ensures.2 c.exchange-old.ensures.3 c.swap.ensures.2)
