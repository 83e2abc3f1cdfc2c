use Rattle.std.proofs.Common.{◌≡◌, ◌-◌}
use Rattle.hq_sql.specs.Reading.{repeat, repeat_from}
use Rattle.hq_sql.proofs.lists.repeated.Given as goal

abbrev pub invariant-loop-turn : goal.invariant-loop-turn
invariant-loop-turn g l = repeat g.T.Following.starts g.T.Member.parser l.fn.cursor ≡ repeat_from g.T.Following.starts g.T.Member.parser (l._turn-end - l._turn) l.found l.cursor
