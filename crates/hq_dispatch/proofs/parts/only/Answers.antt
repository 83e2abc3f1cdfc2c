-- The one that has it.
use Rattle.hq_dispatch.proofs.Flags.{one-flagged}
use Rattle.hq_dispatch.proofs.parts.only.Goals as goal

pub returns : goal.returns
returns c = one-flagged c.args.node c.requires
