use Rattle.std.proofs.Common.{◌∙◌, ap, ℕ}
use Rattle.std.specs.Prelude.{◌==◌}
use Rattle.hq_planwire.specs.Rules.{slices_of}
use Rattle.hq_algebra.specs.Plans.{all_operators}
use Rattle.hq_planwire.proofs.Walks.{times, once}
use Rattle.hq_planwire.proofs.rules.is_received_once.Goals as goal

pub returns : goal.returns
returns c = ap (λ (n : ℕ). n == 1) c.times_received.ensures ∙ once (times c.args.slice (all_operators (slices_of c.args.parts.now)))
