use Rattle.hq_listing.proofs.Form.{listing-well_formed}
use Rattle.hq_listing.proofs.laws.listing_plans_are_well_formed.Goals as goal

pub returns : goal.returns
returns c = listing-well_formed
