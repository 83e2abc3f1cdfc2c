use Rattle.std.proofs.Common.{◌∙◌, sym}
use Rattle.std.specs.Borrow.{Bor}
use Rattle.hq_algebra.specs.declared.op.Op.{Op}
use Rattle.hq_algebra.specs.Plans as spec
use Rattle.hq_planwire.specs.declared.slice_part.Part.{Part}
use Rattle.hq_planwire.specs.Rules.{slices_of}
use Rattle.hq_planwire.proofs.Refs.{any-map}
use Rattle.hq_planwire.proofs.rules.some_receives_a_gather.Goals as goal

pub returns : goal.returns
returns c = c.any_receives_a_gather.ensures ∙ sym (any-map (spec.receives_a_gather (slices_of c.args.before.now)) (λ (r : Bor Op). r.now) c.args.ops.now)
