-- The motion and the owners that were passed.
use Rattle.hq_dispatch.proofs.flow.flow.Given as goal

abbrev pub ghosts-flow_as : goal.ghosts-flow_as
ghosts-flow_as g a = record { out = a.out.now; owner = a.basis.now.owner }
