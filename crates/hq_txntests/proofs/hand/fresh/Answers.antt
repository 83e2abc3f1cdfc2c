-- A lane without files is clean and has no seal.
use Rattle.std.proofs.Common.{ap, subst, sym}
use Rattle.hq_lane.specs.Lanes.{LaneState, AreClean, HaveNoSeal}
use Rattle.hq_txntests.proofs.Fresh.{fresh-clean, fresh-unsealed}
use Rattle.hq_txntests.proofs.hand.fresh.Goals as goal

pub returns-clause-clean : goal.returns-clause-clean
returns-clause-clean c = subst (λ (l : LaneState). AreClean l.files) (sym c.in_ok-lane.ensures.lane) (fresh-clean c.args.table 0)

pub returns-clause-no_seal : goal.returns-clause-no_seal
returns-clause-no_seal c = subst (λ (l : LaneState). HaveNoSeal l.files) (sym c.in_ok-lane.ensures.lane) (fresh-unsealed c.args.table 0)
