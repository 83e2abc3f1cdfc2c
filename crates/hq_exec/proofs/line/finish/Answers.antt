use Rattle.std.proofs.Common.{Err, subst}
use Rattle.hq_exec.specs.declared.end.Halt.{Halt}
use Rattle.hq_exec.specs.declared.end.Halt.TheVariants as halt
use Rattle.hq_exec.specs.Lines.{Drained}
use Rattle.hq_exec.proofs.Running.{finishes-failed, drained-by}
use Rattle.hq_exec.proofs.line.finish.Goals as goal

pub returns-then-failed-clause-ends : goal.returns-then-failed-clause-ends
returns-then-failed-clause-ends g c kinds found stages pushed put run =
    finishes-failed kinds found stages pushed put c.args.line.failed c.args.line.pipes.items (g.O.RowOut.state c.args.out.now) (g.O.RowOut.state c.args.out.now) c.if-failed.true run

pub returns-in-Err-Numeric-clause-ends : goal.returns-in-Err-Numeric-clause-ends
returns-in-Err-Numeric-clause-ends g c kinds found stages pushed put run =
    drained-by (Err halt.Numeric) kinds found stages pushed put c.args.line.failed c.args.line.pipes.items (g.O.RowOut.state c.args.out.now) (g.O.RowOut.state c.finish_all.new.out) c.if-failed.false run
    (subst (λ (e : Halt). Drained (Err e) c.args.line.pipes.items (g.O.RowOut.state c.args.out.now) (g.O.RowOut.state c.finish_all.new.out)) c.in-Err-Numeric.field-0-is c.in-Err-Numeric.ensures.drained)
