use Rattle.hq_bench.proofs.Nodes.{in_use, some_up, owners}
use Rattle.hq_bench.proofs.motions.over_four.Goals as goal

pub split_rows-requires-clause-some : goal.split_rows-requires-clause-some
split_rows-requires-clause-some c = some_up _ c.all_up.ensures

pub split_rows-requires-clause-owners : goal.split_rows-requires-clause-owners
split_rows-requires-clause-owners c = owners

pub split_rows-requires-clause-in_use : goal.split_rows-requires-clause-in_use
split_rows-requires-clause-in_use c = in_use _ c.all_up.ensures
