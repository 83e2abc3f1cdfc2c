-- The slice over what the node works from.
use Rattle.std.proofs.Common.{◌≡◌, ◌∙◌, ℕ, List, Some, take, lit<, ap, subst}
use Rattle.hq_exec.specs.Slices.{IsSliceOf}
use Rattle.hq_dispatch.specs.Basis.{buckets_at}
use Rattle.hq_dispatch.specs.Outside.{outside}
use Rattle.hq_dispatch.specs.declared.parcels.Parcels.{Parcels}
use Rattle.hq_dispatch.proofs.Flowing.{has-slice, has-inputs, has-seals, has-own, flowed-so, sent-so, packed-so}
use Rattle.hq_dispatch.proofs.Parceling.{no-rows}
use Rattle.hq_dispatch.proofs.flow.flow_as.Goals as goal

pub flow_slice-end-requires : goal.flow_slice-end-requires
flow_slice-end-requires g c =
    let buckets : List ℕ = take c.buckets_of-count.result.1 c.buckets_of-count.result.0 in
    let are : buckets ≡ buckets_at c.args.basis.now.owner c.args.node = c.buckets_of-count.ensures.are ∙ ap (λ (l : List ℕ). buckets_at l c.args.node) c.owner.ensures in
    let can = c.requires.can in (
      lit< tt,
      (
        has-slice c.args.basis.now c.args.slice c.args.node c.args.incoming.now c.plan.result.now c.tables.result.now c.own.result.now buckets c.plan.ensures c.tables.ensures c.own.ensures are g.S.Seal.SealCopy.tells g.S.File.StoredFile.tells can.reads,
        (
          has-inputs c.args.basis.now c.args.slice c.args.node c.args.incoming.now c.plan.result.now c.tables.result.now c.own.result.now buckets c.plan.ensures c.tables.ensures c.own.ensures are g.S.Seal.SealCopy.tells g.S.File.StoredFile.tells can.reads,
          (
            has-seals c.args.basis.now c.args.slice c.args.node c.args.incoming.now c.plan.result.now c.tables.result.now c.own.result.now buckets c.plan.ensures c.tables.ensures c.own.ensures are g.S.Seal.SealCopy.tells g.S.File.StoredFile.tells can.reads,
            (
              has-own c.args.basis.now c.args.slice c.args.node c.args.incoming.now c.plan.result.now c.tables.result.now c.own.result.now buckets c.plan.ensures c.tables.ensures c.own.ensures are g.S.Seal.SealCopy.tells g.S.File.StoredFile.tells can.reads,
              λ root kinds is typed. c.new-packing.ensures.kinds ∙ can.kinds_are root kinds (subst (λ (p : List ℕ). IsSliceOf p c.args.slice root) c.plan.ensures is) typed,
            ),
          ),
        ),
      ),
    )

pub returns-clause-flowed : goal.returns-clause-flowed
returns-clause-flowed g c = λ root is.
    let buckets : List ℕ = take c.buckets_of-count.result.1 c.buckets_of-count.result.0 in
    let are : buckets ≡ buckets_at c.args.basis.now.owner c.args.node = c.buckets_of-count.ensures.are ∙ ap (λ (l : List ℕ). buckets_at l c.args.node) c.owner.ensures in
    let e = c.flow_slice-end.ensures in
    flowed-so c.args.basis.now c.args.slice c.args.node c.args.incoming.now c.plan.result.now c.tables.result.now c.own.result.now buckets c.plan.ensures c.tables.ensures c.own.ensures are
    (outside g.S.Store.faults g.S.Store.given g.S.Store.sound g.H.Host.checks g.H.Host.faults g.H.Host.sound g.L.Link.state) g.S.Seal.SealCopy.tells g.S.File.StoredFile.tells c.args.bench.now.store c.flow_slice-end.new.store c.args.bench.now.host c.flow_slice-end.new.host
    c.flow_slice-end.result root is e.numeric e.gave e.bad e.never_bad e.cause e.store e.checked e.host_cause e.host_held e.host_sure e.host_later e.host_sound

pub returns-clause-sent : goal.returns-clause-sent
returns-clause-sent g c = λ root is.
    let buckets : List ℕ = take c.buckets_of-count.result.1 c.buckets_of-count.result.0 in
    let are : buckets ≡ buckets_at c.args.basis.now.owner c.args.node = c.buckets_of-count.ensures.are ∙ ap (λ (l : List ℕ). buckets_at l c.args.node) c.owner.ensures in
    sent-so c.args.basis.now c.args.slice c.args.node c.args.incoming.now c.plan.result.now c.tables.result.now c.own.result.now buckets c.plan.ensures c.tables.ensures c.own.ensures are
    _ root is c.args.out.now c.args.basis.now.owner c.args.kinds.now _ _ c.into_parcels.result.lists.items c.flow_slice-end.result c.flow_slice-end.ensures.rows
    (no-rows g.W.Course.out g.W.Course.owner c.new-packing.result.parcels.lists.items c.new-packing.ensures.none, tt)
    (packed-so c.args.out.now g.W.Course.out c.args.basis.now.owner g.W.Course.owner c.args.kinds.now c.flow_slice-end.new.out.kinds.now c.into_parcels.result.lists.items c.flow_slice-end.new.out.parcels.lists.items c.requires.out_is c.requires.owner_is
    (c.flow_slice-end.ensures.kinds ∙ ap Some c.new-packing.ensures.kinds) (ap (λ (p : Parcels). p.lists.items) c.into_parcels.ensures))
