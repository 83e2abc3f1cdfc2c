use Rattle.std.proofs.Common.{◌∙◌, sym}
use Rattle.hq_algebra.specs.Plans as spec
use Rattle.hq_planwire.proofs.Refs.{any-operators}
use Rattle.hq_planwire.proofs.rules.some_join.Goals as goal

pub returns : goal.returns
returns c = c.any_joins.ensures ∙ sym (any-operators spec.is_join c.args.parts.now)
