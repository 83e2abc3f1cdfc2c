use Rattle.hq_histlock.specs.Passes.{IsPassOf}
use Rattle.hq_locktests.proofs.sessions.Session.serve.Given as goal

abbrev pub invariant-loop-turn : goal.invariant-loop-turn
invariant-loop-turn g l = IsPassOf l.lock (l.self).pass
