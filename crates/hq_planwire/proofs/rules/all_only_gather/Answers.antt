use Rattle.std.proofs.Common.{◌∙◌, sym}
use Rattle.std.specs.Borrow.{Bor}
use Rattle.hq_algebra.specs.declared.op.Op.{Op}
use Rattle.hq_algebra.specs.Plans as spec
use Rattle.hq_planwire.specs.declared.slice_part.Part.{Part}
use Rattle.hq_planwire.specs.Rules.{slices_of}
use Rattle.hq_planwire.proofs.Refs.{all-map}
use Rattle.hq_planwire.proofs.rules.all_only_gather.Goals as goal

pub returns : goal.returns
returns c = c.each_only_gathers.ensures ∙ sym (all-map (spec.only_gathers (slices_of c.args.before.now)) (λ (r : Bor Op). r.now) c.args.ops.now)
