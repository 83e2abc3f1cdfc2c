use Rattle.std.proofs.Common.{sym}
use Rattle.hq_lex.proofs.TokenLaws.{gap_rest, step_end, step_token, step_fault}
use Rattle.hq_lex.proofs.step.next_step.Goals as goal

pub returns-then-start-text-clause-value : goal.returns-then-start-text-clause-value
returns-then-start-text-clause-value c =
    sym (step_end c.args.text.now c.args.at c.gap.result (gap_rest c.args.at c.args.text.now c.gap.result c.gap.ensures.value) c.requires c.if-start-text.true)

pub returns-in-Some-clause-value : goal.returns-in-Some-clause-value
returns-in-Some-clause-value c =
    step_token c.args.text.now c.args.at c.gap.result (gap_rest c.args.at c.args.text.now c.gap.result c.gap.ensures.value) c.requires
    c.in-Some.kind c.in-Some.len c.if-start-text.false c.in-Some.ensures.value

pub returns-in-None-clause-value : goal.returns-in-None-clause-value
returns-in-None-clause-value c =
    step_fault c.args.text.now c.args.at c.gap.result (gap_rest c.args.at c.args.text.now c.gap.result c.gap.ensures.value) c.requires
    c.if-start-text.false c.in-None.ensures.value
