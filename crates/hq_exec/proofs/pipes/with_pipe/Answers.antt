use Rattle.std.proofs.Common.{List, [], sym, subst}
use Rattle.hq_ops.specs.declared.pipe.Pipe.{Pipe}
use Rattle.hq_exec.specs.Lines.{HasFlowed}
use Rattle.hq_exec.specs.Stages.{behind}
use Rattle.hq_exec.proofs.Running.{more-flow}
use Rattle.hq_exec.proofs.pipes.with_pipe.Goals as goal

pub returns : goal.returns
returns c stages h =
    subst (λ (ps : List Pipe). HasFlowed (behind stages c.args.op.now c.args.build.now) ps [] []) (sym c.in_ok-push.ensures.items)
    (more-flow stages c.args.pipes.items c.args.op.now c.args.build.now [] c.in_ok-pipe.pipe h c.in_ok-pipe.ensures)
