use Rattle.hq_exec.proofs.Running.{can-begin, was-begun}
use Rattle.hq_exec.proofs.line.push_all.Goals as goal

pub push_from-requires-clause-can : goal.push_from-requires-clause-can
push_from-requires-clause-can g c = can-begin c.args.pipes.now.items c.args.rows.items (g.O.RowOut.state c.args.out.now).kinds c.requires

pub returns-clause-pushed : goal.returns-clause-pushed
returns-clause-pushed g c = was-begun c.push_from.result c.args.pipes.now.items c.push_from.new.pipes.items c.args.rows.items (g.O.RowOut.state c.args.out.now) (g.O.RowOut.state c.push_from.new.out) c.push_from.ensures.passed
