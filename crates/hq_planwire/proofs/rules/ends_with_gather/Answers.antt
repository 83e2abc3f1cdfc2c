use Rattle.std.proofs.Common.{◌∙◌, sym}
use Rattle.hq_planwire.proofs.Walks.{ends_part}
use Rattle.hq_planwire.proofs.rules.ends_with_gather.Goals as goal

pub returns-in-Some : goal.returns-in-Some
returns-in-Some c = c.part_receives_a_gather.ensures ∙ sym (ends_part c.args.parts.now c.in-Some.before.now c.in-Some.last.now c.in-Some.ensures.cases.0)
