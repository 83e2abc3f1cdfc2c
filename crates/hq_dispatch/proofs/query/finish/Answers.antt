-- The slice over what its node works from.
use Rattle.std.proofs.Common.{◌≡◌, ◌∙◌, ℕ, List, take, lit<, refl, ap}
use Rattle.hq_exec.specs.Ends.{as_flow}
use Rattle.hq_dispatch.specs.Basis.{buckets_at}
use Rattle.hq_dispatch.specs.Outside.{outside}
use Rattle.hq_dispatch.proofs.Flowing.{has-slice, has-inputs, has-seals, has-own, flowed-so, rows-so, end-is}
use Rattle.hq_dispatch.proofs.query.finish.Goals as goal

pub run_slice-end-requires : goal.run_slice-end-requires
run_slice-end-requires g c =
    let buckets : List ℕ = take c.buckets_of-count.result.1 c.buckets_of-count.result.0 in
    let are : buckets ≡ buckets_at c.args.basis.now.owner c.args.node = c.buckets_of-count.ensures.are ∙ ap (λ (l : List ℕ). buckets_at l c.args.node) c.owner.ensures in
    rw c.as_slice.ensures.value (
      lit< tt,
      (
        has-slice c.args.basis.now c.args.slice c.args.node c.args.task.now.incoming.items c.plan.result.now c.tables.result.now c.own.result.now buckets c.plan.ensures c.tables.ensures c.own.ensures are g.S.Seal.SealCopy.tells g.S.File.StoredFile.tells c.requires,
        (
          has-inputs c.args.basis.now c.args.slice c.args.node c.args.task.now.incoming.items c.plan.result.now c.tables.result.now c.own.result.now buckets c.plan.ensures c.tables.ensures c.own.ensures are g.S.Seal.SealCopy.tells g.S.File.StoredFile.tells c.requires,
          (
            has-seals c.args.basis.now c.args.slice c.args.node c.args.task.now.incoming.items c.plan.result.now c.tables.result.now c.own.result.now buckets c.plan.ensures c.tables.ensures c.own.ensures are g.S.Seal.SealCopy.tells g.S.File.StoredFile.tells c.requires,
            has-own c.args.basis.now c.args.slice c.args.node c.args.task.now.incoming.items c.plan.result.now c.tables.result.now c.own.result.now buckets c.plan.ensures c.tables.ensures c.own.ensures are g.S.Seal.SealCopy.tells g.S.File.StoredFile.tells c.requires,
          ),
        ),
      ),
    )

pub returns : goal.returns
returns g c = λ root is.
    let buckets : List ℕ = take c.buckets_of-count.result.1 c.buckets_of-count.result.0 in
    let are : buckets ≡ buckets_at c.args.basis.now.owner c.args.node = c.buckets_of-count.ensures.are ∙ ap (λ (l : List ℕ). buckets_at l c.args.node) c.owner.ensures in
    let e = rw c.as_slice.ensures.value at c.run_slice-end.ensures in
    record {
      how = as_flow c.run_slice-end.result;
      link = refl;
      flowed = flowed-so c.args.basis.now c.args.slice c.args.node c.args.task.now.incoming.items c.plan.result.now c.tables.result.now c.own.result.now buckets c.plan.ensures c.tables.ensures c.own.ensures are
          (outside g.S.Store.faults g.S.Store.given g.S.Store.sound g.H.Host.checks g.H.Host.faults g.H.Host.sound g.L.Link.state) g.S.Seal.SealCopy.tells g.S.File.StoredFile.tells c.args.task.now.bench.store c.run_slice-end.new.store c.args.task.now.bench.host c.run_slice-end.new.host
          (as_flow c.run_slice-end.result) root is e.numeric e.gave e.bad e.never_bad e.cause e.store e.checked e.host_cause e.host_held e.host_sure e.host_later e.host_sound;
      is_end = end-is c.args.node c.run_slice-end.result c.end_at.result c.end_at.ensures;
      rows = rows-so c.args.basis.now c.args.slice c.args.node c.args.task.now.incoming.items c.plan.result.now c.tables.result.now c.own.result.now buckets c.plan.ensures c.tables.ensures c.own.ensures are
          g.S.Seal.SealCopy.tells g.S.File.StoredFile.tells root is c.run_slice-end.result c.end_at.result c.end_at.ensures e.rows;
    }
