use Rattle.hq_meaning.proofs.MeanLaw.{mean-SameBag}
use Rattle.hq_meaning.proofs.laws.tables_are_bags.Goals as goal

pub returns : goal.returns
returns c = mean-SameBag
