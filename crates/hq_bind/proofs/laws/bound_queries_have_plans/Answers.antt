use Rattle.std.proofs.Common.{refl}
use Rattle.hq_bind.specs.Reading.{read_columns, read_items, read_groups}
use Rattle.hq_bind.specs.Targets.{targets}
use Rattle.hq_bind.specs.Faults.{query_faults, select_kinds}
use Rattle.hq_bind.proofs.Faultless.{allowed_within}
use Rattle.hq_bind.proofs.Bounded.{bounded}
use Rattle.hq_bind.proofs.laws.bound_queries_have_plans.Goals as goal

pub returns-clause-selects : goal.returns-clause-selects
returns-clause-selects c = λ kinds defs s q fits none tables is. bounded kinds defs s q fits none tables is

pub returns-clause-inserts : goal.returns-clause-inserts
returns-clause-inserts c = λ kinds defs table names s q fits none tables is.
    bounded kinds defs s q fits (allowed_within table.1.columns names (targets table.1.columns names) (select_kinds defs s) (query_faults defs s) refl none) tables is
