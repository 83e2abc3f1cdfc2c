use Rattle.std.proofs.Common.{refl}
use Rattle.hq_bind.specs.Targets.{targets}
use Rattle.hq_bind.specs.Faults.{query_faults, select_kinds}
use Rattle.hq_bind.proofs.Faultless.{allowed_within}
use Rattle.hq_bind.proofs.insert.insert_query.Goals as goal

pub bound_query-requires-clause-allowed : goal.bound_query-requires-clause-allowed
bound_query-requires-clause-allowed c =
    let columns = c.args.table.now.1.columns in
    allowed_within columns c.args.names.now (targets columns c.args.names.now) (select_kinds c.args.defs.now c.args.select.now) (query_faults c.args.defs.now c.args.select.now) refl c.requires.allowed
