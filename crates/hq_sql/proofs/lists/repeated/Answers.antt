use Rattle.std.proofs.Common.{sym, ap, ◌∙◌}
use Rattle.hq_expr.proofs.Turns.{reads_ok}
use Rattle.hq_sql.proofs.Turns.{one_repeat}
use Rattle.hq_sql.proofs.lists.repeated.Goals as goal

pub loop-turn-preserved : goal.loop-turn-preserved
loop-turn-preserved g c =
    one_repeat g.T.Following.starts g.T.Member.parser c.count-turn-end.result c.loop-turn._turn c.loop-turn.found c.push.new.self c.in_ok-member.member c.loop-turn.cursor c.read.new.cursor _
    c.loop-turn-test.true (ap g.T.Following.starts (sym c.peek.ensures) ∙ sym c.starts_with.ensures ∙ c.if-not-starts_with.false) (reads_ok _ _ _ _ c.read.ensures c.in_ok-member.was) c.in_ok-push.ensures.ok c.loop-turn.invariant
