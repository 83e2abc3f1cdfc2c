use Rattle.std.proofs.Common.{arith, ℕ}
use Rattle.std.proofs.lemmas.List.{length-take}
use Rattle.hq_io.proofs.Gathering.{Gathered-fits, Gathered-passes}
use Rattle.hq_io.proofs.held.keep.Goals as goal

pub returns-then-bytes-room-clause-gathered : goal.returns-then-bytes-room-clause-gathered
returns-then-bytes-room-clause-gathered c = λ seen from to g p. rw c.append.ensures.items (Gathered-fits seen from to _ _ _ p (omega arith) g)

pub returns-clause-gathered : goal.returns-clause-gathered
returns-clause-gathered c = λ seen from to g p. rw c.append-2.ensures.items (Gathered-passes seen from to _ _ _ _ p (omega arith) (omega (arith, length-take {A = ℕ})) g)
