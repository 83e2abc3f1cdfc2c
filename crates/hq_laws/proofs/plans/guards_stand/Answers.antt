use Rattle.hq_laws.proofs.Guarding.{guards-imply, guards-fit, guarded-tables}
use Rattle.hq_laws.proofs.plans.guards_stand.Goals as goal

pub returns-clause-implied : goal.returns-clause-implied
returns-clause-implied c = guards-imply

pub returns-clause-fit : goal.returns-clause-fit
returns-clause-fit c = guards-fit

pub returns-clause-tables : goal.returns-clause-tables
returns-clause-tables c kinds q = guarded-tables kinds q.conds 0 q.sources
