use Rattle.std.proofs.Common.{rules, arith, ap, sym, subst, ◌∙◌}
use Rattle.hq_expr.specs.Words.{Cond, Both}
use Rattle.hq_expr.specs.Reader.{Reads, spend, start_of, sees}
use Rattle.hq_expr.specs.Reading.{both, neg}
use Rattle.hq_expr.specs.declared.tree.SqlExpr.TheVariants.{And, Or}
use Rattle.hq_expr.specs.declared.mark.Mark.TheVariants as m
use Rattle.hq_expr.proofs.Complete.{chain_stop}
use Rattle.hq_expr.proofs.Turns.{reads_ok, one_turn, joined_and, joined_no_and, joined_or, joined_no_or, neg_other}
use Rattle.hq_expr.proofs.conds.+conds.Goals as goal

pub both-loop-turn-preserved : goal.both-loop-turn-preserved
both-loop-turn-preserved t c =
    one_turn Both (neg c.args.depth c.args.aggs) c.left-turn-end.result c.loop-turn._turn c.loop-turn.left c.in_ok-right.right c.in_ok-left-2.left
    And c.loop-turn.cursor c.spend.new.self c.neg-in-loop-turn.new.cursor _ c.loop-turn-test.true
    (joined_and _ (sym c.sees.ensures ∙ c.if-not-sees.false)) (ap spend (sym c.skip.ensures) ∙ reads_ok _ _ _ _ c.spend.ensures c.in_ok-spend.was)
    (reads_ok _ _ _ _ c.neg-in-loop-turn.ensures c.in_ok-right.was) c.in_ok-left-2.ensures c.loop-turn.invariant

pub cond-loop-turn-preserved : goal.cond-loop-turn-preserved
cond-loop-turn-preserved t c =
    one_turn Cond (both (neg c.args.depth c.args.aggs)) c.left-turn-end.result c.loop-turn._turn c.loop-turn.left c.in_ok-right.right c.in_ok-left-2.left
    Or c.loop-turn.cursor c.spend.new.self c.both-in-loop-turn.new.cursor _ c.loop-turn-test.true
    (joined_or _ (sym c.sees.ensures ∙ c.if-not-sees.false)) (ap spend (sym c.skip.ensures) ∙ reads_ok _ _ _ _ c.spend.ensures c.in_ok-spend.was)
    (reads_ok _ _ _ _ c.both-in-loop-turn.ensures c.in_ok-right.was) c.in_ok-left-2.ensures c.loop-turn.invariant

pub both-returns-then-not-sees : goal.both-returns-then-not-sees
both-returns-then-not-sees t c =
    c.loop-turn.invariant ∙ chain_stop Both (neg c.args.depth c.args.aggs) _ c.loop-turn.left c.loop-turn.cursor (joined_no_and _ (sym c.sees.ensures ∙ c.if-not-sees.true))

pub cond-returns-then-not-sees : goal.cond-returns-then-not-sees
cond-returns-then-not-sees t c =
    c.loop-turn.invariant ∙ chain_stop Cond (both (neg c.args.depth c.args.aggs)) _ c.loop-turn.left c.loop-turn.cursor (joined_no_or _ (sym c.sees.ensures ∙ c.if-not-sees.true))

pub neg-returns-in_default : goal.neg-returns-in_default
neg-returns-in_default t c =
    let same = c.start_of.ensures ∙ ap start_of c.peek.ensures in
    let e = neg_other c.args.depth c.args.aggs c.args.cursor.now (omega arith) (λ h. c.in_default.not-Open (same ∙ h)) (λ h. c.in_default.not-Not (same ∙ h)) in
    subst (λ read. Reads read c.test.result c.test.new.cursor) (sym e) c.test.ensures
