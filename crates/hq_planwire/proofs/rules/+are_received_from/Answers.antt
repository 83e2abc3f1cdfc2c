use Rattle.std.proofs.Common.{ℕ, Bool, arith}
use Rattle.std.specs.Prelude.{◌==◌}
use Rattle.hq_algebra.specs.Plans.{all_operators}
use Rattle.hq_planwire.specs.Rules.{slices_of}
use Rattle.hq_planwire.proofs.Walks.{times, all_true, all_false}
use Rattle.hq_planwire.proofs.rules.+are_received_from.Goals as goal

pub returns-then-is_received_once : goal.returns-then-is_received_once
returns-then-is_received_once t c = all_true (λ (i : ℕ). times i (all_operators (slices_of c.args.parts.now)) == 1) c.args.slice c.args.end c.is_received_once.result c.are_received_from.result (omega arith) c.is_received_once.ensures c.if-is_received_once.true c.are_received_from.ensures

pub returns-else-is_received_once : goal.returns-else-is_received_once
returns-else-is_received_once t c = all_false (λ (i : ℕ). times i (all_operators (slices_of c.args.parts.now)) == 1) c.args.slice c.args.end c.is_received_once.result (omega arith) c.is_received_once.ensures c.if-is_received_once.false
