use Rattle.std.proofs.Common.{◌≡◌, ◌+◌, vec_len}
use Rattle.std.specs.List.{All}
use Rattle.hq_histlock.specs.Passes.{IsPassOf}
use Rattle.hq_locktests.specs.declared.sessions.Session.{Session}
use Rattle.hq_locktests.specs.Home.{IsHome}
use Rattle.hq_locktests.proofs.sessions.take_all.Given as goal

abbrev pub invariant-loop : goal.invariant-loop
invariant-loop l =
    IsHome l.lock l.first (vec_len l.sessions) × All (λ (session : Session). IsPassOf l.lock session.pass) l.sessions.items
    × (vec_len l.sessions + l.counter ≡ l.end)
