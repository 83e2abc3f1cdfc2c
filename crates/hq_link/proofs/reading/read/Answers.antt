use Rattle.std.proofs.Common.{arith}
use Rattle.hq_link.proofs.GramLaws.{spelled_of}
use Rattle.hq_link.proofs.reading.read.Goals as goal

pub returns-clause-spelled : goal.returns-clause-spelled
returns-clause-spelled c = spelled_of _ c.args.bytes.now (λ i. omega (arith, c.type_inv.bytes i)) c.gram_at.ensures.gives
