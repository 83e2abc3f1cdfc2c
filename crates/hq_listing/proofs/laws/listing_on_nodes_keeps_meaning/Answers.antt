use Rattle.hq_listing.proofs.Means.{listing-plan-means}
use Rattle.hq_listing.proofs.laws.listing_on_nodes_keeps_meaning.Goals as goal

pub returns : goal.returns
returns c = listing-plan-means
