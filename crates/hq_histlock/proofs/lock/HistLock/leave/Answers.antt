use Rattle.std.proofs.Common.{rules, ap, length}
use Rattle.hq_histlock.proofs.Closes.{as_long, noted, freed}
use Rattle.hq_histlock.proofs.lock.HistLock.leave.Goals as goal

pub swap-requires : goal.swap-requires
swap-requires g c = (
  search rules,
  search rules,
  noted _ _ _ _ _ _ c.args.held.value _ c.exchange-old.ensures.3 c.requires.turn.1 c.requires.turn.5 c.requires.turn.4 c.requires.turn.6 c.requires.grown (as_long _ _ (ap length c.entries.ensures)),
)

pub swap-requires-2 : goal.swap-requires-2
swap-requires-2 g c = (search rules, search rules, freed _ _ _ _ _ _ _ c.args.held.value c.exchange-old.ensures.3 c.requires.turn.1 c.requires.turn.5 c.requires.turn.4 c.requires.turn.6 c.requires.fixed c.swap.ensures.2)
