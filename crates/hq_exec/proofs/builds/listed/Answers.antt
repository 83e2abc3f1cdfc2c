use Rattle.hq_exec.specs.Builds.{lists_of}
use Rattle.hq_exec.proofs.Flows.{listed-of}
use Rattle.hq_exec.proofs.builds.listed.Goals as goal

pub run-requires-clause-accepts : goal.run-requires-clause-accepts
run-requires-clause-accepts g c = (c.requires.typed.0, c.requires.typed.1, tt)

pub returns-clause-ran : goal.returns-clause-ran
returns-clause-ran g c =
    listed-of g.S.Store.faults g.S.Store.given g.S.Store.sound _ c.args.held.now c.args.op.now (lists_of c.args.builds.now) c.args.failed c.in_ok-fault.fault c.args.store.now c.run.new.store _ _ c.into_rows.result.items c.in_ok-fault.ensures.ran c.new-list.ensures.none c.into_rows.ensures
