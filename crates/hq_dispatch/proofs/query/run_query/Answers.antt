-- All of it.
use Rattle.std.proofs.Common.{◌≡◌, ◌∙◌, ◌++◌, List, [], length, refl, sym, ap, subst, rules, append-nil}
use Rattle.hq_detect.specs.declared.bench.Bench.{Bench}
use Rattle.hq_dispatch.specs.Basis.{asked}
use Rattle.hq_dispatch.specs.Ended.{benches_of, HasEnded}
use Rattle.hq_dispatch.specs.Outside.{outside}
use Rattle.hq_dispatch.specs.Owners.{owners}
use Rattle.hq_planwire.specs.Wire.{IsPlan}
use Rattle.hq_dispatch.specs.declared.end.QueryEnd.TheVariants as end
use Rattle.hq_dispatch.proofs.Advancing.{begins}
use Rattle.hq_dispatch.proofs.Querying.{basis_of, is-asked, ended-over, ended-still, earlier-so}
use Rattle.hq_dispatch.proofs.query.run_query.Goals as goal

pub returns-in_default : goal.returns-in_default
returns-in_default g c = let e : HasEnded (outside g.S.Store.faults g.S.Store.given g.S.Store.sound g.H.Host.checks g.H.Host.faults g.H.Host.sound g.L.Link.state) (asked c.args.plan.now (basis_of [] (owners c.args.marks.now) c.args.tables.now c.args.own.now) c.args.marks.now c.args.query g.S.Seal.SealCopy.tells g.S.File.StoredFile.tells) c.args.benches.now.items c.args.benches.now.items end.NoMemory = ended-still (outside g.S.Store.faults g.S.Store.given g.S.Store.sound g.H.Host.checks g.H.Host.faults g.H.Host.sound g.L.Link.state) (asked c.args.plan.now (basis_of [] (owners c.args.marks.now) c.args.tables.now c.args.own.now) c.args.marks.now c.args.query g.S.Seal.SealCopy.tells g.S.File.StoredFile.tells) c.args.benches.now.items c.args.benches.now.items refl in record {
  count = e.many;
  means = λ s f l. e.means (record { seals = s; files = f; links = l });
  gave = e.gave;
  received = λ s f l. e.received (record { seals = s; files = f; links = l });
  answered = e.answered;
  store_cause = e.store_cause;
  host_cause = e.host_cause;
  host_sure = e.host_sure;
  lost_cause = e.lost_cause;
  lost_sure = e.lost_sure;
  failed_cause = e.failed_cause;
  failed_sure = e.failed_sure;
  bad = e.bad;
  never_bad = e.never_bad;
  unused = λ n w off d. (e.each n w d).unused off;
  stores = λ n w d. (e.each n w d).store;
  hosts = λ n w d. (e.each n w d).host;
  links = λ n w d. (e.each n w d).link;
}

pub returns-in_default-tasks_of : goal.returns-in_default-tasks_of
returns-in_default-tasks_of g c = let e : HasEnded (outside g.S.Store.faults g.S.Store.given g.S.Store.sound g.H.Host.checks g.H.Host.faults g.H.Host.sound g.L.Link.state) (asked c.args.plan.now (basis_of [] (owners c.args.marks.now) c.args.tables.now c.args.own.now) c.args.marks.now c.args.query g.S.Seal.SealCopy.tells g.S.File.StoredFile.tells) c.args.benches.now.items c.tasks_of.new.benches.items end.NoMemory = ended-still (outside g.S.Store.faults g.S.Store.given g.S.Store.sound g.H.Host.checks g.H.Host.faults g.H.Host.sound g.L.Link.state) (asked c.args.plan.now (basis_of [] (owners c.args.marks.now) c.args.tables.now c.args.own.now) c.args.marks.now c.args.query g.S.Seal.SealCopy.tells g.S.File.StoredFile.tells) c.args.benches.now.items c.tasks_of.new.benches.items c.in_default-tasks_of.ensures.same in record {
  count = e.many;
  means = λ s f l. e.means (record { seals = s; files = f; links = l });
  gave = e.gave;
  received = λ s f l. e.received (record { seals = s; files = f; links = l });
  answered = e.answered;
  store_cause = e.store_cause;
  host_cause = e.host_cause;
  host_sure = e.host_sure;
  lost_cause = e.lost_cause;
  lost_sure = e.lost_sure;
  failed_cause = e.failed_cause;
  failed_sure = e.failed_sure;
  bad = e.bad;
  never_bad = e.never_bad;
  unused = λ n w off d. (e.each n w d).unused off;
  stores = λ n w d. (e.each n w d).store;
  hosts = λ n w d. (e.each n w d).host;
  links = λ n w d. (e.each n w d).link;
}

pub run_slices-end-requires-clause-asked : goal.run_slices-end-requires-clause-asked
run_slices-end-requires-clause-asked g c = λ κs κp. let sixteen : length c.owners-owner.result ≡ 16 = search rules in is-asked c.args.plan.now c.new-basis.result c.as_slice-given.result.now c.owners-owner.result c.args.tables.now c.args.own.now c.args.marks.now c.args.query g.S.Seal.SealCopy.tells g.S.File.StoredFile.tells c.new-basis.ensures c.owners-owner.ensures.owner (subst (IsPlan c.args.plan.now) (sym c.as_slice-given.ensures.value) c.in-Ok.ensures.is_plan) sixteen c.owners-owner.ensures.in_use c.owners-owner.ensures.first c.owners-owner.ensures.below c.owners-owner.ensures.some c.owners-owner.ensures.few c.requires.tables c.requires.seals c.requires.own

pub run_slices-end-requires-clause-stands : goal.run_slices-end-requires-clause-stands
run_slices-end-requires-clause-stands g c = λ κs κp. begins (outside g.S.Store.faults g.S.Store.given g.S.Store.sound g.H.Host.checks g.H.Host.faults g.H.Host.sound g.L.Link.state) (asked c.args.plan.now c.new-basis.result c.args.marks.now c.args.query g.S.Seal.SealCopy.tells g.S.File.StoredFile.tells) c.in-Ok-tasks_of.tasks.items c.in-Ok-tasks_of.ensures.none (earlier-so (outside g.S.Store.faults g.S.Store.given g.S.Store.sound g.H.Host.checks g.H.Host.faults g.H.Host.sound g.L.Link.state) c.args.query c.in-Ok-tasks_of.tasks.items c.args.benches.now.items c.in-Ok-tasks_of.ensures.benches c.requires.earlier)

pub returns : goal.returns
returns g c = let e : HasEnded (outside g.S.Store.faults g.S.Store.given g.S.Store.sound g.H.Host.checks g.H.Host.faults g.H.Host.sound g.L.Link.state) (asked c.args.plan.now (basis_of c.as_slice-given.result.now (owners c.args.marks.now) c.args.tables.now c.args.own.now) c.args.marks.now c.args.query g.S.Seal.SealCopy.tells g.S.File.StoredFile.tells) c.args.benches.now.items c.from_tasks.new.benches.items c.run_slices-end.result = ended-over c.args.plan.now c.new-basis.result c.as_slice-given.result.now c.owners-owner.result c.args.tables.now c.args.own.now c.args.marks.now c.args.query g.S.Seal.SealCopy.tells g.S.File.StoredFile.tells c.new-basis.ensures c.owners-owner.ensures.owner (outside g.S.Store.faults g.S.Store.given g.S.Store.sound g.H.Host.checks g.H.Host.faults g.H.Host.sound g.L.Link.state) (benches_of c.in-Ok-tasks_of.tasks.items) c.args.benches.now.items (benches_of c.run_slices-end.new.tasks.items) c.from_tasks.new.benches.items c.run_slices-end.result c.in-Ok-tasks_of.ensures.benches (c.from_tasks.ensures ∙ ap (λ (l : List (Bench g.row.S.Denot g.row.H.Denot g.row.L.Denot)). benches_of c.run_slices-end.new.tasks.items ++ l) c.in-Ok-tasks_of.ensures.no_benches ∙ append-nil (benches_of c.run_slices-end.new.tasks.items)) c.run_slices-end.ensures.ended in record {
  count = e.many;
  means = λ s f l. e.means (record { seals = s; files = f; links = l });
  gave = e.gave;
  received = λ s f l. e.received (record { seals = s; files = f; links = l });
  answered = e.answered;
  store_cause = e.store_cause;
  host_cause = e.host_cause;
  host_sure = e.host_sure;
  lost_cause = e.lost_cause;
  lost_sure = e.lost_sure;
  failed_cause = e.failed_cause;
  failed_sure = e.failed_sure;
  bad = e.bad;
  never_bad = e.never_bad;
  unused = λ n w off d. (e.each n w d).unused off;
  stores = λ n w d. (e.each n w d).store;
  hosts = λ n w d. (e.each n w d).host;
  links = λ n w d. (e.each n w d).link;
}
