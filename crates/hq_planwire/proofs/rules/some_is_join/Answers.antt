use Rattle.std.proofs.Common.{◌∙◌, sym}
use Rattle.std.specs.Borrow.{Bor}
use Rattle.hq_algebra.specs.declared.op.Op.{Op}
use Rattle.hq_algebra.specs.Plans as spec
use Rattle.hq_planwire.specs.declared.slice_part.Part.{Part}
use Rattle.hq_planwire.specs.Rules.{slices_of}
use Rattle.hq_planwire.proofs.Refs.{any-map}
use Rattle.hq_planwire.proofs.rules.some_is_join.Goals as goal

pub returns : goal.returns
returns c = c.any_is_join.ensures ∙ sym (any-map spec.is_join (λ (r : Bor Op). r.now) c.args.ops.now)
