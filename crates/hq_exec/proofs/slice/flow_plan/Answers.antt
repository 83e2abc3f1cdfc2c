use Rattle.hq_exec.specs.Slices.{IsSliceOf}
use Rattle.hq_exec.proofs.Roots.{slice-within, root-typed, root-fine, root-flowed, root-bad}
use Rattle.hq_exec.proofs.slice.flow_plan.Goals as goal

pub root_of-root-requires : goal.root_of-root-requires
root_of-root-requires g c = slice-within c.in-Ok.found c.args.plan.now c.args.slice c.in-Ok.ensures.found c.requires.slice

pub flow-requires-clause-inputs : goal.flow-requires-clause-inputs
flow-requires-clause-inputs g c = c.requires.inputs c.root_of-root.result.now (record { plan = c.in-Ok.found; is_plan = c.in-Ok.ensures.found; there = c.root_of-root.ensures })

pub flow-requires-clause-seals : goal.flow-requires-clause-seals
flow-requires-clause-seals g c = λ t. c.requires.seals t c.root_of-root.result.now (record { plan = c.in-Ok.found; is_plan = c.in-Ok.ensures.found; there = c.root_of-root.ensures })

pub flow-requires-clause-own : goal.flow-requires-clause-own
flow-requires-clause-own g c = λ t. c.requires.own t c.root_of-root.result.now (record { plan = c.in-Ok.found; is_plan = c.in-Ok.ensures.found; there = c.root_of-root.ensures })

pub flow-requires-clause-accepts : goal.flow-requires-clause-accepts
flow-requires-clause-accepts g c =
    let mine : IsSliceOf c.args.plan.now c.args.slice c.root_of-root.result.now = record { plan = c.in-Ok.found; is_plan = c.in-Ok.ensures.found; there = c.root_of-root.ensures } in
    let typed = root-typed c.args.plan.now c.args.slice c.root_of-root.result.now mine in
    (typed.0, typed.1, c.requires.accepts c.root_of-root.result.now typed.0 mine typed.1)

pub flow-requires-clause-fine : goal.flow-requires-clause-fine
flow-requires-clause-fine g c = root-fine c.args.plan.now c.args.slice c.root_of-root.result.now (record { plan = c.in-Ok.found; is_plan = c.in-Ok.ensures.found; there = c.root_of-root.ensures })

pub returns-in-Ok-clause-flowed : goal.returns-in-Ok-clause-flowed
returns-in-Ok-clause-flowed g c =
    root-flowed c.args.plan.now c.args.slice c.root_of-root.result.now (record { plan = c.in-Ok.found; is_plan = c.in-Ok.ensures.found; there = c.root_of-root.ensures }) g.S.Store.faults g.S.Store.given g.S.Store.sound _ c.args.node.now c.flow.result
    c.args.store.now c.flow.new.store (g.O.RowOut.state c.args.out.now) (g.O.RowOut.state c.flow.new.out) c.flow.ensures.flowed

pub returns-in-Ok-clause-bad : goal.returns-in-Ok-clause-bad
returns-in-Ok-clause-bad g c =
    root-bad c.args.plan.now c.args.slice c.root_of-root.result.now (record { plan = c.in-Ok.found; is_plan = c.in-Ok.ensures.found; there = c.root_of-root.ensures }) c.flow.result c.args.node.now.buckets c.flow.ensures.bad
