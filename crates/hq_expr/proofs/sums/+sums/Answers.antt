use Rattle.std.proofs.Common.{rules, arith, ap, sym, subst, ◌∙◌}
use Rattle.std.proofs.lemmas.Grind.{common_steps}
use Rattle.hq_expr.specs.Words.{Sum, Term}
use Rattle.hq_expr.specs.Reading.{adds_at, multiplies_at, term, factor}
use Rattle.hq_expr.specs.declared.tree.SqlExpr.TheVariants.{Arith}
use Rattle.hq_expr.proofs.Turns.{reads_ok, one_turn, joined_adds, joined_times, factor_other}
use Rattle.hq_expr.specs.Reader.{Reads, spend, start_of}
use Rattle.hq_expr.proofs.sums.+sums.Goals as goal

pub sum-loop-turn-preserved : goal.sum-loop-turn-preserved
sum-loop-turn-preserved t c =
    one_turn Sum (term (factor c.args.depth c.args.aggs)) c.left-turn-end.result c.loop-turn._turn c.loop-turn.left c.in_ok-right.right c.in_ok-left-2.left
    (Arith c.in-Some.kind) c.loop-turn.cursor c.spend.new.self c.term-in-loop-turn.new.cursor _ c.loop-turn-test.true
    (joined_adds _ c.in-Some.kind (c.in-Some.ensures ∙ ap adds_at c.peek.ensures)) (ap spend (sym c.skip.ensures) ∙ reads_ok _ _ _ _ c.spend.ensures c.in_ok-spend.was)
    (reads_ok _ _ _ _ c.term-in-loop-turn.ensures c.in_ok-right.was) c.in_ok-left-2.ensures c.loop-turn.invariant

pub term-loop-turn-preserved : goal.term-loop-turn-preserved
term-loop-turn-preserved t c =
    one_turn Term (factor c.args.depth c.args.aggs) c.left-turn-end.result c.loop-turn._turn c.loop-turn.left c.in_ok-right.right c.in_ok-left-2.left
    (Arith c.in-Some.kind) c.loop-turn.cursor c.spend.new.self c.factor-in-loop-turn.new.cursor _ c.loop-turn-test.true
    (joined_times _ c.in-Some.kind (c.in-Some.ensures ∙ ap multiplies_at c.peek.ensures)) (ap spend (sym c.skip.ensures) ∙ reads_ok _ _ _ _ c.spend.ensures c.in_ok-spend.was)
    (reads_ok _ _ _ _ c.factor-in-loop-turn.ensures c.in_ok-right.was) c.in_ok-left-2.ensures c.loop-turn.invariant

pub factor-returns-in_default : goal.factor-returns-in_default
factor-returns-in_default t c =
    let same = c.start_of.ensures ∙ ap start_of c.peek.ensures in
    let e = factor_other c.args.depth c.args.aggs c.args.cursor.now (omega arith) (λ h. c.in_default.not-Open (same ∙ h)) (λ h. c.in_default.not-Minus (same ∙ h)) in
    subst (λ read. Reads read c.operand.result c.operand.new.cursor) (sym e) c.operand.ensures
