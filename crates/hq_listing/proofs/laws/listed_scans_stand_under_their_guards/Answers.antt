use Rattle.hq_listing.proofs.Guarded.{listing-guards}
use Rattle.hq_listing.proofs.laws.listed_scans_stand_under_their_guards.Goals as goal

pub returns : goal.returns
returns c = λ kinds out q s js plain. listing-guards q plain kinds out s js
