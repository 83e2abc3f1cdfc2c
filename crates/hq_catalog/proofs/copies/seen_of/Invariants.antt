-- The tables so far are copied, if they are wanted.
use Rattle.hq_catalog.proofs.Looks.{AreCopies}
use Rattle.hq_catalog.proofs.copies.seen_of.Given as goal

abbrev pub invariant-loop-t : goal.invariant-loop-t
invariant-loop-t g l = AreCopies l.scope l.have.items l.tables.items l.t l.snaps.items
