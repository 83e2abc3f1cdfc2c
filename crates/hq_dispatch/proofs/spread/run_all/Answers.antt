-- Each task runs.
use Rattle.std.proofs.Common.{false, slice_index_or, IsTrue}
use Rattle.hq_dispatch.specs.Outside.{outside}
use Rattle.hq_dispatch.specs.Running.{CanFlow, HasRun}
use Rattle.hq_dispatch.specs.declared.task.Task.{Task}
use Rattle.hq_dispatch.proofs.Taking.{accepts-so, ran-so}
use Rattle.hq_dispatch.proofs.spread.run_all.Goals as goal

pub for_each_mut-requires-clause-accepts : goal.for_each_mut-requires-clause-accepts
for_each_mut-requires-clause-accepts g c = λ κs κp i p within is.
    accepts-so (λ n (t : Task g.row.S.Denot g.row.H.Denot g.row.L.Denot). CanFlow g.S.Seal.SealCopy.tells g.S.File.StoredFile.tells c.args.basis.now c.args.slice n t.incoming.items c.args.out.now c.args.kinds.now) c.args.tasks.now.items
    c.as_mut_slice.result.now c.args.tasks.now.len c.as_mut_slice.ensures.value c.args.tasks.now.ok.0 c.requires.few c.requires.can i p.now within is

pub returns-clause-ran : goal.returns-clause-ran
returns-clause-ran g c = λ root is.
    ran-so (λ n (a b : Task g.row.S.Denot g.row.H.Denot g.row.L.Denot).
    HasRun (outside g.S.Store.faults g.S.Store.given g.S.Store.sound g.H.Host.checks g.H.Host.faults g.H.Host.sound g.L.Link.state) (IsTrue g.S.Seal.SealCopy.tells × IsTrue g.S.File.StoredFile.tells) c.args.basis.now root c.args.out.now c.args.kinds.now n
    (slice_index_or c.args.runs.now n false) a b) c.as_mut_slice.result.now c.args.tasks.now.items c.for_each_mut.new.s c.args.tasks.now.len c.as_mut_slice.ensures.value c.args.tasks.now.ok.0 c.for_each_mut.auto.s
    (λ n d within. let k = (c.for_each_mut.ensures n d within).1 in record { before = k.argument.now; after = k.after_call.now; left = k.call root is; before_is = k.argument_is; after_is = k.left })
