use Rattle.hq_narrow.proofs.Widening.{widened-means}
use Rattle.hq_narrow.proofs.laws.widened_plans_mean_the_same.Goals as goal

pub returns : goal.returns
returns c = widened-means
