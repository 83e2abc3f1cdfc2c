use Rattle.std.proofs.Common.{◌∙◌, sym}
use Rattle.std.specs.Borrow.{Bor}
use Rattle.hq_algebra.specs.declared.op.Op.{Op}
use Rattle.hq_algebra.specs.Plans as spec
use Rattle.hq_planwire.specs.declared.slice_part.Part.{Part}
use Rattle.hq_planwire.specs.Rules.{slices_of}
use Rattle.hq_planwire.proofs.Refs.{all-map}
use Rattle.hq_planwire.proofs.rules.ops_are_fine.Goals as goal

pub returns : goal.returns
returns c = c.each_op_is_fine.ensures ∙ sym (all-map spec.op_is_fine (λ (r : Bor Op). r.now) c.args.ops.now)
