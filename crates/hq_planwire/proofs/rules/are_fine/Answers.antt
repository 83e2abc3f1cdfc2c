use Rattle.std.proofs.Common.{◌∙◌, sym}
use Rattle.std.specs.Borrow.{Bor}
use Rattle.hq_algebra.specs.declared.op.Op.{Op}
use Rattle.hq_algebra.specs.Plans as spec
use Rattle.hq_planwire.specs.declared.slice_part.Part.{Part}
use Rattle.hq_planwire.specs.Rules.{slices_of}
use Rattle.hq_planwire.proofs.Refs.{all-map}
use Rattle.hq_planwire.proofs.rules.are_fine.Goals as goal

pub returns : goal.returns
returns c = c.each_is_fine.ensures ∙ sym (all-map spec.slice_is_fine (λ (p : Part). p.slice.now) c.args.parts.now)
