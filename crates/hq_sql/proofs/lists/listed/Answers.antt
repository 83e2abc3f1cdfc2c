use Rattle.std.proofs.Common.{sym, ◌∙◌}
use Rattle.hq_expr.proofs.ListLemmas.{one_member}
use Rattle.hq_expr.proofs.Turns.{reads_ok}
use Rattle.hq_sql.proofs.lists.listed.Goals as goal

pub loop-turn-preserved : goal.loop-turn-preserved
loop-turn-preserved g c =
    one_member g.T.Member.parser c.count-turn-end.result c.loop-turn._turn c.loop-turn.found c.push.new.self c.in_ok-member.member c.loop-turn.cursor c.read.new.cursor c.skip.new.self _
    c.loop-turn-test.true (reads_ok _ _ _ _ c.read.ensures c.in_ok-member.was) (sym c.sees.ensures ∙ c.if-not-sees.false) c.in_ok-push.ensures.ok c.skip.ensures c.loop-turn.invariant
