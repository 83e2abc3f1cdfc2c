use Rattle.hq_exec.specs.Lines.{line_state}
use Rattle.hq_exec.proofs.Running.{takes-again, takes-pushed}
use Rattle.hq_exec.proofs.line.take.Goals as goal

pub returns-in-Ok-clause-can : goal.returns-in-Ok-clause-can
returns-in-Ok-clause-can g c kinds fit can =
    takes-again kinds c.args.rows.items (line_state c.args.line.now (g.O.RowOut.state c.args.out.now)) (record { failed = c.args.line.now.failed; pipes = c.push_all.new.pipes.items; out = g.O.RowOut.state c.push_all.new.out })
    (λ e. e) c.push_all.ensures.kinds
    (takes-pushed kinds c.args.rows.items c.args.line.now.failed c.args.line.now.pipes.items c.push_all.new.pipes.items (g.O.RowOut.state c.args.out.now) (g.O.RowOut.state c.push_all.new.out) c.if-line.false fit c.in-Ok.ensures.pushed) can
