use Rattle.hq_value.proofs.Counting.{steady_more}
use Rattle.hq_exec.proofs.Flows.{all-fit, flow-so}
use Rattle.hq_exec.proofs.builds.flow.Goals as goal

pub run-requires-clause-builds : goal.run-requires-clause-builds
run-requires-clause-builds g c = all-fit _ c.args.held.now c.args.op.now c.in_ok-failed.failed _ c.add_builds.new.builds.items c.deref.result.now c.new-builds.ensures.items c.deref.ensures.value c.in_ok-failed.ensures.built.built

pub returns-clause-flowed : goal.returns-clause-flowed
returns-clause-flowed g c =
    flow-so g.S.Store.faults g.S.Store.given g.S.Store.sound _ c.args.held.now c.args.op.now c.requires.inputs (λ t. (c.requires.seals t.0, c.requires.own t.1)) c.requires.fine c.run.result c.in_ok-failed.failed _ c.add_builds.new.builds.items c.deref.result.now
    c.args.store.now c.add_builds.new.store c.run.new.store _ _ c.new-builds.ensures.items c.deref.ensures.value c.in_ok-failed.ensures.built c.run.ensures.ran

pub returns-clause-store : goal.returns-clause-store
returns-clause-store g c = steady_more g.S.Store.faults g.S.Store.sound c.args.store.now c.add_builds.new.store c.run.new.store c.in_ok-failed.ensures.store c.run.ensures.store
