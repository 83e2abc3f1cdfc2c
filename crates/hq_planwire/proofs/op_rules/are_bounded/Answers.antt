use Rattle.std.proofs.Common.{◌∙◌}
use Rattle.hq_planwire.proofs.OpLists.{bounded-Partial, bounded-Final}
use Rattle.hq_planwire.proofs.op_rules.are_bounded.Goals as goal

pub returns-in-Partial : goal.returns-in-Partial
returns-in-Partial c = rw c.in-Partial.is ((rw c.as_slice-in-Partial.ensures at c.are_bounded_arguments.ensures) ∙ bounded-Partial c.in-Partial.keys c.in-Partial.aggregates c.in-Partial.input)

pub returns-in-Final : goal.returns-in-Final
returns-in-Final c = rw c.in-Final.is ((rw c.as_slice-in-Final.ensures at c.are_bounded_arguments-in-Final.ensures) ∙ bounded-Final c.in-Final.keys c.in-Final.aggregates c.in-Final.input)
