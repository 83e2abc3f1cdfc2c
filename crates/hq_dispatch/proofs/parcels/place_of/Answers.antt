-- The row has the keys.
use Rattle.std.proofs.Common.{subst}
use Rattle.hq_algebra.specs.declared.plan.Motion.{Motion}
use Rattle.hq_dispatch.specs.Parcels.{CanGo}
use Rattle.hq_dispatch.proofs.parcels.place_of.Goals as goal

pub bucket_of_places-requires-clause-within : goal.bucket_of_places-requires-clause-within
bucket_of_places-requires-clause-within c = (subst (λ (o : Motion). CanGo o c.args.row.now) c.in-Redistribute.is c.requires.goes).1
