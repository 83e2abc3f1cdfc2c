use Rattle.hq_narrow.proofs.Binding.{kinds-taken, bound-taken}
use Rattle.hq_narrow.proofs.laws.taken_queries_are_bound.Goals as goal

pub returns-clause-kinds : goal.returns-clause-kinds
returns-clause-kinds c = λ kinds found q r ts. kinds-taken kinds found ts q r

pub returns-clause-bound : goal.returns-clause-bound
returns-clause-bound c = λ kinds found q r ts. bound-taken kinds found ts q r
