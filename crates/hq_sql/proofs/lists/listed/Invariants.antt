use Rattle.std.proofs.Common.{◌≡◌, ◌-◌}
use Rattle.hq_expr.specs.Lists.{list, list_from}
use Rattle.hq_sql.proofs.lists.listed.Given as goal

abbrev pub invariant-loop-turn : goal.invariant-loop-turn
invariant-loop-turn g l = list g.T.Member.parser l.fn.cursor ≡ list_from g.T.Member.parser (l._turn-end - l._turn) l.found l.cursor
