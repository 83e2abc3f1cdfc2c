use Rattle.std.proofs.Common.{◌∙◌, sym}
use Rattle.hq_algebra.specs.Plans as spec
use Rattle.hq_planwire.proofs.Refs.{all-operators}
use Rattle.hq_planwire.proofs.rules.all_stand_over_pairs.Goals as goal

pub returns : goal.returns
returns c = c.each_stands_over_pairs.ensures ∙ sym (all-operators spec.stands_over_pairs c.args.parts.now)
