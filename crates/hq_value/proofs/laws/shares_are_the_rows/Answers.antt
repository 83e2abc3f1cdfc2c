use Rattle.hq_value.proofs.Bags.{bucket-below, shares-same}
use Rattle.hq_value.proofs.laws.shares_are_the_rows.Goals as goal

pub returns : goal.returns
returns c = record { below = bucket-below; shared = shares-same }
