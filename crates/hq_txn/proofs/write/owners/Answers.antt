-- An owner is a node that there is.
use Rattle.std.proofs.Common.{arith}
use Rattle.hq_txn.proofs.Counting.{owner-below}
use Rattle.hq_txn.proofs.write.owners.Goals as goal

pub returns-clause-there : goal.returns-clause-there
returns-clause-there c = λ b within. omega (arith, c.assign.ensures b within, owner-below c.args.marks.now b c.requires)
