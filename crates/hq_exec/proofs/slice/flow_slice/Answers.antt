use Rattle.std.proofs.Common.{arith}
use Rattle.hq_exec.specs.Ends.{IsBadIn}
use Rattle.hq_exec.specs.Files.{held}
use Rattle.hq_exec.proofs.Roots.{slice-put, slice-numeric, slice-read, slice-bad, slice-store, slice-off, slice-no-host}
use Rattle.hq_exec.proofs.slice.flow_slice.Goals as goal

pub returns-in-Ok-clause-rows : goal.returns-in-Ok-clause-rows
returns-in-Ok-clause-rows g c = λ root is.
    slice-put c.flow_plan.result c.flow_end.result c.flow_end.ensures g.S.Store.faults g.S.Store.given g.S.Store.sound _ (held c.args.tables.now c.args.own.now c.args.buckets.now c.args.incoming.now) root c.args.store.now c.flow_plan.new.store
    (g.O.RowOut.state c.args.out.now) (g.O.RowOut.state c.flow_plan.new.out) (c.flow_plan.ensures.flowed root is)

pub returns-in-Ok-clause-numeric : goal.returns-in-Ok-clause-numeric
returns-in-Ok-clause-numeric g c = λ seals own root is.
    slice-numeric c.flow_plan.result c.flow_end.result c.flow_end.ensures g.S.Store.faults g.S.Store.given g.S.Store.sound _ (held c.args.tables.now c.args.own.now c.args.buckets.now c.args.incoming.now) root c.args.store.now c.flow_plan.new.store
    (g.O.RowOut.state c.args.out.now) (g.O.RowOut.state c.flow_plan.new.out) (c.flow_plan.ensures.flowed root is) (seals, own)

pub returns-in-Ok-clause-gave : goal.returns-in-Ok-clause-gave
returns-in-Ok-clause-gave g c = λ seals own root is.
    slice-read c.flow_plan.result c.flow_end.result c.flow_end.ensures g.S.Store.faults g.S.Store.given g.S.Store.sound _ (held c.args.tables.now c.args.own.now c.args.buckets.now c.args.incoming.now) root c.args.store.now c.flow_plan.new.store
    (g.O.RowOut.state c.args.out.now) (g.O.RowOut.state c.flow_plan.new.out) (c.flow_plan.ensures.flowed root is) (omega (arith, c.given-given.ensures)) (seals, own)

pub returns-in-Ok-clause-bad : goal.returns-in-Ok-clause-bad
returns-in-Ok-clause-bad g c = λ root is. slice-bad c.flow_plan.result c.flow_end.result c.flow_end.ensures (IsBadIn root c.args.buckets.now) (c.flow_plan.ensures.bad root is)

pub returns-in-Ok-clause-never_bad : goal.returns-in-Ok-clause-never_bad
returns-in-Ok-clause-never_bad g c = λ seals own. slice-bad c.flow_plan.result c.flow_end.result c.flow_end.ensures (λ _ _ _. ⊥) (c.flow_plan.ensures.never_bad seals own)

pub returns-in-Ok-clause-cause : goal.returns-in-Ok-clause-cause
returns-in-Ok-clause-cause g c = slice-store c.flow_plan.result c.flow_end.result c.flow_end.ensures _ c.flow_plan.ensures.cause

pub returns-in-Ok-clause-host_cause : goal.returns-in-Ok-clause-host_cause
returns-in-Ok-clause-host_cause g c = slice-no-host c.flow_plan.result c.flow_end.result c.flow_end.ensures _

pub returns-in-Ok-clause-host_sure : goal.returns-in-Ok-clause-host_sure
returns-in-Ok-clause-host_sure g c = slice-no-host c.flow_plan.result c.flow_end.result c.flow_end.ensures _

pub returns-in-Ok-clause-host_held : goal.returns-in-Ok-clause-host_held
returns-in-Ok-clause-host_held g c = slice-off c.flow_plan.result c.flow_end.result c.flow_end.ensures _ c.in-Ok.ensures.held
