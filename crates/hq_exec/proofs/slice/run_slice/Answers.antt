use Rattle.std.proofs.Common.{◌≡◌, sym, subst, arith}
use Rattle.hq_value.specs.Causes.{Rose, GoesOnGiving}
use Rattle.hq_exec.specs.declared.end.FlowEnd.{FlowEnd}
use Rattle.hq_exec.specs.Ends.{OnRead, IsNumericAt, OnStore, OnHost, OffHost, IfBad, IsBadIn}
use Rattle.hq_exec.specs.Files.{held}
use Rattle.hq_exec.specs.Slices.{slice_fault, slice_reads}
use Rattle.hq_exec.proofs.Roots.{list-rows, list-fit}
use Rattle.hq_exec.proofs.slice.run_slice.Goals as goal

pub flow_slice-end-requires : goal.flow_slice-end-requires
flow_slice-end-requires g c = (omega arith, (c.requires.slice, (c.requires.inputs, (c.requires.seals, (c.requires.own, λ root kinds is typed. tt)))))

pub returns-clause-rows : goal.returns-clause-rows
returns-clause-rows g c = λ seals own root is.
    list-rows _ root _ c.into_rows.result.items _ _ c.slice_end.result c.flow_slice-end.result c.slice_end.ensures.as_flow c.slice_end.ensures.rows (c.flow_slice-end.ensures.rows root is) c.new-list.ensures.none c.into_rows.ensures (seals, own)

pub returns-clause-fit : goal.returns-clause-fit
returns-clause-fit g c = λ root kinds is typed.
    list-fit _ root _ c.into_rows.result.items _ _ c.slice_end.result c.flow_slice-end.result c.slice_end.ensures.as_flow c.slice_end.ensures.rows (c.flow_slice-end.ensures.rows root is) c.new-list.ensures.none c.into_rows.ensures kinds typed

pub returns-clause-numeric : goal.returns-clause-numeric
returns-clause-numeric g c = λ seals own root is. subst (λ (e : FlowEnd). IsNumericAt e (slice_fault (held c.args.tables.now c.args.own.now c.args.buckets.now c.args.incoming.now) root)) (sym c.slice_end.ensures.as_flow) (c.flow_slice-end.ensures.numeric seals own root is)

pub returns-clause-gave : goal.returns-clause-gave
returns-clause-gave g c = λ seals own root is. subst (λ (e : FlowEnd). OnRead e (GoesOnGiving g.S.Store.faults g.S.Store.given g.S.Store.sound (slice_reads (held c.args.tables.now c.args.own.now c.args.buckets.now c.args.incoming.now) root) c.args.store.now c.flow_slice-end.new.store)) (sym c.slice_end.ensures.as_flow) (c.flow_slice-end.ensures.gave seals own root is)

pub returns-clause-bad : goal.returns-clause-bad
returns-clause-bad g c = λ root is. subst (λ (e : FlowEnd). IfBad e (IsBadIn root c.args.buckets.now)) (sym c.slice_end.ensures.as_flow) (c.flow_slice-end.ensures.bad root is)

pub returns-clause-never_bad : goal.returns-clause-never_bad
returns-clause-never_bad g c = λ seals own. subst (λ (e : FlowEnd). IfBad e (λ _ _ _. ⊥)) (sym c.slice_end.ensures.as_flow) (c.flow_slice-end.ensures.never_bad seals own)

pub returns-clause-cause : goal.returns-clause-cause
returns-clause-cause g c = subst (λ (e : FlowEnd). OnStore e (Rose (g.S.Store.faults c.args.store.now) (g.S.Store.faults c.flow_slice-end.new.store))) (sym c.slice_end.ensures.as_flow) c.flow_slice-end.ensures.cause

pub returns-clause-host_cause : goal.returns-clause-host_cause
returns-clause-host_cause g c = subst (λ (e : FlowEnd). OnHost e (Rose (g.H.Host.faults c.args.host.now) (g.H.Host.faults c.flow_slice-end.new.host))) (sym c.slice_end.ensures.as_flow) c.flow_slice-end.ensures.host_cause

pub returns-clause-host_held : goal.returns-clause-host_held
returns-clause-host_held g c = subst (λ (e : FlowEnd). OffHost e (g.H.Host.faults c.flow_slice-end.new.host ≡ g.H.Host.faults c.args.host.now)) (sym c.slice_end.ensures.as_flow) c.flow_slice-end.ensures.host_held

pub returns-clause-host_sure : goal.returns-clause-host_sure
returns-clause-host_sure g c = subst (λ (e : FlowEnd). OnHost e (g.H.Host.sound c.args.host.now → ⊥)) (sym c.slice_end.ensures.as_flow) c.flow_slice-end.ensures.host_sure
