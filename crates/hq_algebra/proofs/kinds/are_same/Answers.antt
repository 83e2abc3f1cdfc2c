use Rattle.std.proofs.Common.{◌∙◌}
use Rattle.hq_algebra.proofs.Typed.{same_kinds-derived}
use Rattle.hq_algebra.proofs.kinds.are_same.Goals as goal

pub returns : goal.returns
returns c = c.eq.ensures ∙ same_kinds-derived c.args.a.now c.args.b.now
