-- The slice on all nodes, and then its motion.
use Rattle.std.proofs.Common.{◌≡◌, ◌∙◌, ℕ, ◌<◌, List, length, slice_index, slice_index_or, Ok, sym, ap, subst, rules}
use Rattle.std.proofs.lemmas.Result.{on_ok_weaker, err_from_is_err_and}
use Rattle.hq_meaning.specs.Nodes.{nodes_of, lowest}
use Rattle.hq_motion.specs.Split.{nodes_up}
use Rattle.hq_dispatch.specs.Basis.{asked}
use Rattle.hq_dispatch.specs.Ended.{benches_of, HasEnded}
use Rattle.hq_dispatch.specs.Outside.{outside}
use Rattle.hq_dispatch.specs.Settled.{AreSameHeads, AreTaken, AreDone, Lacks, HasLost}
use Rattle.hq_dispatch.specs.declared.end.QueryEnd.{QueryEnd}
use Rattle.hq_dispatch.specs.declared.parcels.Parcels.{Parcels}
use Rattle.hq_dispatch.specs.declared.task.Task.{Task}
use Rattle.hq_dispatch.proofs.Advancing.{stands-next}
use Rattle.hq_dispatch.proofs.Forming.{rules-of, moves, no-result, sends-some}
use Rattle.hq_dispatch.proofs.Holding.{slice-of}
use Rattle.hq_dispatch.proofs.Losing.{lost-so}
use Rattle.hq_dispatch.proofs.Settling.{typed-so, can-all, few-so, first-below, fine-so, runs-so, takes-so, memory-so, fault-so, lack-so, back-earlier, parcels-there, on-err}
use Rattle.hq_dispatch.proofs.spread.spread.Goals as goal

pub kinds_of-requires : goal.kinds_of-requires
kinds_of-requires g c = typed-so c.args.plan.now.slices c.args.slice c.slice_at-part.result.now (rules-of c.args.plan.now c.requires.asked.is_plan.well_formed) c.slice_at-part.ensures

pub returns-in_default-clause-ends : goal.returns-in_default-clause-ends
returns-in_default-clause-ends g c = λ first stands. memory-so (outside g.S.Store.faults g.S.Store.given g.S.Store.sound g.H.Host.checks g.H.Host.faults g.H.Host.sound g.L.Link.state) (asked c.args.plan.now c.args.basis.now c.args.marks.now c.args.query g.S.Seal.SealCopy.tells g.S.File.StoredFile.tells) first c.args.slice c.args.tasks.now.items stands

pub runners-runs-requires-clause-first : goal.runners-runs-requires-clause-first
runners-runs-requires-clause-first g c = subst (λ (l : List ℕ). slice_index l 0 ≡ lowest l) (sym c.owner-owner.ensures) c.requires.asked.first

pub runners-runs-requires-clause-below : goal.runners-runs-requires-clause-below
runners-runs-requires-clause-below g c = subst (λ (l : List ℕ). slice_index l 0 < 16) (sym c.owner-owner.ensures) (first-below (asked c.args.plan.now c.args.basis.now c.args.marks.now c.args.query g.S.Seal.SealCopy.tells g.S.File.StoredFile.tells) c.requires.asked)

pub runners-runs-requires-clause-in_use : goal.runners-runs-requires-clause-in_use
runners-runs-requires-clause-in_use g c = subst (λ (l : List ℕ). nodes_of l ≡ nodes_up c.args.marks.now) (sym c.owner-owner.ensures) c.requires.asked.in_use

pub run_all-requires-clause-few : goal.run_all-requires-clause-few
run_all-requires-clause-few g c = λ κs κp. few-so c.args.tasks.now.len (length c.args.marks.now) c.requires.many c.requires.asked.few

pub run_all-requires-clause-can : goal.run_all-requires-clause-can
run_all-requires-clause-can g c = λ κs κp. λ n t within. can-all (outside g.S.Store.faults g.S.Store.given g.S.Store.sound g.H.Host.checks g.H.Host.faults g.H.Host.sound g.L.Link.state) (asked c.args.plan.now c.args.basis.now c.args.marks.now c.args.query g.S.Seal.SealCopy.tells g.S.File.StoredFile.tells) c.requires.asked c.requires.stands.0 c.args.slice c.args.tasks.now.items c.requires.stands.1 c.slice_at-part.result.now c.slice_at-part.ensures c.in-Ok.kinds c.in-Ok.ensures n t (subst (λ (m : ℕ). n < m) c.args.tasks.now.ok.0 within)

pub first_fault-requires : goal.first_fault-requires
first_fault-requires g c = few-so c.run_all.new.tasks.len (length c.args.marks.now) (c.run_all.ensures.len ∙ c.requires.many) c.requires.asked.few

pub returns-in_err-first_fault-clause-ends : goal.returns-in_err-first_fault-clause-ends
returns-in_err-first_fault-clause-ends g c = λ first stands. let p = err_from_is_err_and c.from_residual.result c.from_residual.ensures.1 in rw (p.1, p.2) (fault-so (outside g.S.Store.faults g.S.Store.given g.S.Store.sound g.H.Host.checks g.H.Host.faults g.H.Host.sound g.L.Link.state) (asked c.args.plan.now c.args.basis.now c.args.marks.now c.args.query g.S.Seal.SealCopy.tells g.S.File.StoredFile.tells) c.requires.asked first c.args.slice c.slice_at-part.result.now c.slice_at-part.ensures c.runners-runs.result (runs-so (asked c.args.plan.now c.args.basis.now c.args.marks.now c.args.query g.S.Seal.SealCopy.tells g.S.File.StoredFile.tells) c.args.slice c.slice_at-part.result.now.root c.slices_before-before.result.now c.owner-owner.result.now c.receives_gather-gathered.result c.runners-runs.result c.slices_before-before.ensures c.owner-owner.ensures c.receives_gather-gathered.ensures c.runners-runs.ensures) c.args.tasks.now.items stands (sym c.args.tasks.now.ok.0 ∙ c.requires.many) c.in-Ok.kinds c.run_all.new.tasks.items (λ n t within. c.run_all.ensures.ran c.slice_at-part.result.now.root (slice-of c.args.plan.now c.args.basis.now.plan c.args.slice c.slice_at-part.result.now c.requires.asked.is_plan c.slice_at-part.ensures) n t (subst (λ (m : ℕ). n < m) (sym c.args.tasks.now.ok.0) within)) (sym c.run_all.new.tasks.ok.0 ∙ c.run_all.ensures.len ∙ c.args.tasks.now.ok.0) c.first_fault.new.tasks.items c.first_fault.ensures.heads c.in_err-first_fault.field-0.0 c.in_err-first_fault.ensures.fault)

pub take_parcels-requires : goal.take_parcels-requires
take_parcels-requires g c = fine-so c.run_all.new.tasks.items c.first_fault.new.tasks.items c.in_ok-first_fault.ensures.same c.in_ok-first_fault.ensures.fine

pub returns-in_err-parcels-clause-ends : goal.returns-in_err-parcels-clause-ends
returns-in_err-parcels-clause-ends g c = λ first stands. let p = err_from_is_err_and c.from_residual-in_err-parcels.result c.from_residual-in_err-parcels.ensures.1 in rw (p.1, p.2) (lack-so (outside g.S.Store.faults g.S.Store.given g.S.Store.sound g.H.Host.checks g.H.Host.faults g.H.Host.sound g.L.Link.state) (asked c.args.plan.now c.args.basis.now c.args.marks.now c.args.query g.S.Seal.SealCopy.tells g.S.File.StoredFile.tells) c.requires.asked first c.args.slice c.slice_at-part.result.now c.slice_at-part.ensures c.runners-runs.result (runs-so (asked c.args.plan.now c.args.basis.now c.args.marks.now c.args.query g.S.Seal.SealCopy.tells g.S.File.StoredFile.tells) c.args.slice c.slice_at-part.result.now.root c.slices_before-before.result.now c.owner-owner.result.now c.receives_gather-gathered.result c.runners-runs.result c.slices_before-before.ensures c.owner-owner.ensures c.receives_gather-gathered.ensures c.runners-runs.ensures) c.args.tasks.now.items stands (sym c.args.tasks.now.ok.0 ∙ c.requires.many) c.in-Ok.kinds c.run_all.new.tasks.items (λ n t within. c.run_all.ensures.ran c.slice_at-part.result.now.root (slice-of c.args.plan.now c.args.basis.now.plan c.args.slice c.slice_at-part.result.now c.requires.asked.is_plan c.slice_at-part.ensures) n t (subst (λ (m : ℕ). n < m) (sym c.args.tasks.now.ok.0) within)) (sym c.run_all.new.tasks.ok.0 ∙ c.run_all.ensures.len ∙ c.args.tasks.now.ok.0) c.take_parcels.new.tasks.items (subst (λ (l : List (Task g.row.S.Denot g.row.H.Denot g.row.L.Denot)). AreSameHeads l c.take_parcels.new.tasks.items) c.in_ok-first_fault.ensures.same c.take_parcels.ensures.heads) c.in_err-parcels.field-0.0 (subst (λ (l : List (Task g.row.S.Denot g.row.H.Denot g.row.L.Denot)). Lacks l c.in_err-parcels.field-0.0) c.in_ok-first_fault.ensures.same c.in_err-parcels.ensures.lack))

pub takers-takes-requires-clause-first : goal.takers-takes-requires-clause-first
takers-takes-requires-clause-first g c = subst (λ (l : List ℕ). slice_index l 0 ≡ lowest l) (sym c.owner-owner.ensures) c.requires.asked.first

pub takers-takes-requires-clause-below : goal.takers-takes-requires-clause-below
takers-takes-requires-clause-below g c = subst (λ (l : List ℕ). slice_index l 0 < 16) (sym c.owner-owner.ensures) (first-below (asked c.args.plan.now c.args.basis.now c.args.marks.now c.args.query g.S.Seal.SealCopy.tells g.S.File.StoredFile.tells) c.requires.asked)

pub takers-takes-requires-clause-in_use : goal.takers-takes-requires-clause-in_use
takers-takes-requires-clause-in_use g c = subst (λ (l : List ℕ). nodes_of l ≡ nodes_up c.args.marks.now) (sym c.owner-owner.ensures) c.requires.asked.in_use

pub takers-takes-requires-clause-moves : goal.takers-takes-requires-clause-moves
takers-takes-requires-clause-moves g c = no-result c.slice_at-part.result.now.out (moves c.args.plan.now.slices c.args.slice c.slice_at-part.result.now (rules-of c.args.plan.now c.requires.asked.is_plan.well_formed).result c.slice_at-part.ensures c.requires.within)

pub take_all-requires-clause-few : goal.take_all-requires-clause-few
take_all-requires-clause-few g c = λ κs κp. few-so c.take_parcels.new.tasks.len (length c.run_all.new.tasks.items) (c.take_parcels.new.tasks.ok.0 ∙ (subst (λ (l : List (Task g.row.S.Denot g.row.H.Denot g.row.L.Denot)). AreSameHeads l c.take_parcels.new.tasks.items) c.in_ok-first_fault.ensures.same c.take_parcels.ensures.heads).count) (few-so (length c.run_all.new.tasks.items) (length c.args.marks.now) (sym c.run_all.new.tasks.ok.0 ∙ c.run_all.ensures.len ∙ c.requires.many) c.requires.asked.few)

pub take_all-requires-clause-some : goal.take_all-requires-clause-some
take_all-requires-clause-some g c = λ κs κp. sends-some c.args.plan.now.slices c.args.slice c.slice_at-part.result.now c.in-Ok.kinds (rules-of c.args.plan.now c.requires.asked.is_plan.well_formed) c.slice_at-part.ensures c.requires.within c.in-Ok.ensures

pub take_all-requires-clause-there : goal.take_all-requires-clause-there
take_all-requires-clause-there g c = λ κs κp. let sixteen : length c.runners-runs.result ≡ 16 = search rules in parcels-there (outside g.S.Store.faults g.S.Store.given g.S.Store.sound g.H.Host.checks g.H.Host.faults g.H.Host.sound g.L.Link.state) (asked c.args.plan.now c.args.basis.now c.args.marks.now c.args.query g.S.Seal.SealCopy.tells g.S.File.StoredFile.tells) c.requires.asked c.requires.stands.0 c.args.slice c.slice_at-part.result.now c.slice_at-part.ensures c.runners-runs.result (runs-so (asked c.args.plan.now c.args.basis.now c.args.marks.now c.args.query g.S.Seal.SealCopy.tells g.S.File.StoredFile.tells) c.args.slice c.slice_at-part.result.now.root c.slices_before-before.result.now c.owner-owner.result.now c.receives_gather-gathered.result c.runners-runs.result c.slices_before-before.ensures c.owner-owner.ensures c.receives_gather-gathered.ensures c.runners-runs.ensures) c.args.tasks.now.items c.requires.stands.1 (sym c.args.tasks.now.ok.0 ∙ c.requires.many) c.in-Ok.kinds c.run_all.new.tasks.items (λ n t within. c.run_all.ensures.ran c.slice_at-part.result.now.root (slice-of c.args.plan.now c.args.basis.now.plan c.args.slice c.slice_at-part.result.now c.requires.asked.is_plan c.slice_at-part.ensures) n t (subst (λ (m : ℕ). n < m) (sym c.args.tasks.now.ok.0) within)) (sym c.run_all.new.tasks.ok.0 ∙ c.run_all.ensures.len ∙ c.args.tasks.now.ok.0) c.as_slice-lists.result.now (subst (λ (l : List Parcels). AreTaken c.run_all.new.tasks.items l) (sym c.as_slice-lists.ensures.value) (subst (λ (l : List (Task g.row.S.Denot g.row.H.Denot g.row.L.Denot)). AreTaken l c.in_ok-parcels.parcels.items) c.in_ok-first_fault.ensures.same c.in_ok-parcels.ensures.taken)) sixteen

pub take_all-requires-clause-earlier : goal.take_all-requires-clause-earlier
take_all-requires-clause-earlier g c = λ κs κp. λ n t within. back-earlier (outside g.S.Store.faults g.S.Store.given g.S.Store.sound g.H.Host.checks g.H.Host.faults g.H.Host.sound g.L.Link.state) (asked c.args.plan.now c.args.basis.now c.args.marks.now c.args.query g.S.Seal.SealCopy.tells g.S.File.StoredFile.tells) c.requires.asked c.requires.stands.0 c.args.slice c.slice_at-part.result.now c.slice_at-part.ensures c.runners-runs.result (runs-so (asked c.args.plan.now c.args.basis.now c.args.marks.now c.args.query g.S.Seal.SealCopy.tells g.S.File.StoredFile.tells) c.args.slice c.slice_at-part.result.now.root c.slices_before-before.result.now c.owner-owner.result.now c.receives_gather-gathered.result c.runners-runs.result c.slices_before-before.ensures c.owner-owner.ensures c.receives_gather-gathered.ensures c.runners-runs.ensures) c.args.tasks.now.items c.requires.stands.1 (sym c.args.tasks.now.ok.0 ∙ c.requires.many) c.in-Ok.kinds c.run_all.new.tasks.items (λ n t within. c.run_all.ensures.ran c.slice_at-part.result.now.root (slice-of c.args.plan.now c.args.basis.now.plan c.args.slice c.slice_at-part.result.now c.requires.asked.is_plan c.slice_at-part.ensures) n t (subst (λ (m : ℕ). n < m) (sym c.args.tasks.now.ok.0) within)) (sym c.run_all.new.tasks.ok.0 ∙ c.run_all.ensures.len ∙ c.args.tasks.now.ok.0) c.take_parcels.new.tasks.items (subst (λ (l : List (Task g.row.S.Denot g.row.H.Denot g.row.L.Denot)). AreSameHeads l c.take_parcels.new.tasks.items) c.in_ok-first_fault.ensures.same c.take_parcels.ensures.heads) n t (subst (λ (m : ℕ). n < m) c.take_parcels.new.tasks.ok.0 within)

pub first_lost-requires : goal.first_lost-requires
first_lost-requires g c = few-so (length c.as_slice-taken.result.now) (length c.run_all.new.tasks.items) (ap (λ (l : List (Task g.row.S.Denot g.row.H.Denot g.row.L.Denot)). length l) c.as_slice-taken.ensures.value ∙ (sym c.take_all.new.tasks.ok.0 ∙ c.take_all.ensures.len ∙ c.take_parcels.new.tasks.ok.0) ∙ (subst (λ (l : List (Task g.row.S.Denot g.row.H.Denot g.row.L.Denot)). AreSameHeads l c.take_parcels.new.tasks.items) c.in_ok-first_fault.ensures.same c.take_parcels.ensures.heads).count) (few-so (length c.run_all.new.tasks.items) (length c.args.marks.now) (sym c.run_all.new.tasks.ok.0 ∙ c.run_all.ensures.len ∙ c.requires.many) c.requires.asked.few)

pub returns-clause-stands : goal.returns-clause-stands
returns-clause-stands g c = λ first stands. on_ok_weaker c.first_lost.result (λ (well : (n : ℕ) (d : Task g.row.S.Denot g.row.H.Denot g.row.L.Denot) → n < length c.as_slice-taken.result.now → (slice_index_or c.as_slice-taken.result.now n d).got ≡ Ok tt). stands-next (outside g.S.Store.faults g.S.Store.given g.S.Store.sound g.H.Host.checks g.H.Host.faults g.H.Host.sound g.L.Link.state) (asked c.args.plan.now c.args.basis.now c.args.marks.now c.args.query g.S.Seal.SealCopy.tells g.S.File.StoredFile.tells) c.requires.asked first c.args.slice c.slice_at-part.result.now c.slice_at-part.ensures c.runners-runs.result (runs-so (asked c.args.plan.now c.args.basis.now c.args.marks.now c.args.query g.S.Seal.SealCopy.tells g.S.File.StoredFile.tells) c.args.slice c.slice_at-part.result.now.root c.slices_before-before.result.now c.owner-owner.result.now c.receives_gather-gathered.result c.runners-runs.result c.slices_before-before.ensures c.owner-owner.ensures c.receives_gather-gathered.ensures c.runners-runs.ensures) c.args.tasks.now.items stands (sym c.args.tasks.now.ok.0 ∙ c.requires.many) c.in-Ok.kinds c.in-Ok.ensures c.run_all.new.tasks.items (λ n t within. c.run_all.ensures.ran c.slice_at-part.result.now.root (slice-of c.args.plan.now c.args.basis.now.plan c.args.slice c.slice_at-part.result.now c.requires.asked.is_plan c.slice_at-part.ensures) n t (subst (λ (m : ℕ). n < m) (sym c.args.tasks.now.ok.0) within)) (sym c.run_all.new.tasks.ok.0 ∙ c.run_all.ensures.len ∙ c.args.tasks.now.ok.0) c.as_slice-lists.result.now (subst (λ (l : List Parcels). AreTaken c.run_all.new.tasks.items l) (sym c.as_slice-lists.ensures.value) (subst (λ (l : List (Task g.row.S.Denot g.row.H.Denot g.row.L.Denot)). AreTaken l c.in_ok-parcels.parcels.items) c.in_ok-first_fault.ensures.same c.in_ok-parcels.ensures.taken)) (subst (λ (l : List (Task g.row.S.Denot g.row.H.Denot g.row.L.Denot)). AreDone l) c.in_ok-first_fault.ensures.same c.in_ok-parcels.ensures.done) c.take_parcels.new.tasks.items (subst (λ (l : List (Task g.row.S.Denot g.row.H.Denot g.row.L.Denot)). AreSameHeads l c.take_parcels.new.tasks.items) c.in_ok-first_fault.ensures.same c.take_parcels.ensures.heads) c.takers-takes.result (takes-so c.owner-owner.result.now c.args.basis.now.owner c.slice_at-part.result.now.out c.takers-takes.result c.owner-owner.ensures c.takers-takes.ensures) c.take_all.new.tasks.items (λ n t within. c.take_all.ensures.got n t (subst (λ (m : ℕ). n < m) (sym c.take_parcels.new.tasks.ok.0) within)) (sym c.take_all.new.tasks.ok.0 ∙ c.take_all.ensures.len ∙ c.take_parcels.new.tasks.ok.0) (subst (λ (l : List (Task g.row.S.Denot g.row.H.Denot g.row.L.Denot)). (n : ℕ) (d : Task g.row.S.Denot g.row.H.Denot g.row.L.Denot) → n < length l → (slice_index_or l n d).got ≡ Ok tt) c.as_slice-taken.ensures.value well)) c.first_lost.ensures.fine

pub returns-clause-ends : goal.returns-clause-ends
returns-clause-ends g c = λ first stands. on-err c.first_lost.result (λ (f : QueryEnd). HasLost c.as_slice-taken.result.now f) (λ (f : QueryEnd). HasEnded (outside g.S.Store.faults g.S.Store.given g.S.Store.sound g.H.Host.checks g.H.Host.faults g.H.Host.sound g.L.Link.state) (asked c.args.plan.now c.args.basis.now c.args.marks.now c.args.query g.S.Seal.SealCopy.tells g.S.File.StoredFile.tells) first (benches_of c.take_all.new.tasks.items) f) (λ f h. lost-so (outside g.S.Store.faults g.S.Store.given g.S.Store.sound g.H.Host.checks g.H.Host.faults g.H.Host.sound g.L.Link.state) (asked c.args.plan.now c.args.basis.now c.args.marks.now c.args.query g.S.Seal.SealCopy.tells g.S.File.StoredFile.tells) c.requires.asked first c.args.slice c.slice_at-part.result.now c.slice_at-part.ensures c.runners-runs.result (runs-so (asked c.args.plan.now c.args.basis.now c.args.marks.now c.args.query g.S.Seal.SealCopy.tells g.S.File.StoredFile.tells) c.args.slice c.slice_at-part.result.now.root c.slices_before-before.result.now c.owner-owner.result.now c.receives_gather-gathered.result c.runners-runs.result c.slices_before-before.ensures c.owner-owner.ensures c.receives_gather-gathered.ensures c.runners-runs.ensures) c.args.tasks.now.items stands (sym c.args.tasks.now.ok.0 ∙ c.requires.many) c.in-Ok.kinds c.in-Ok.ensures c.run_all.new.tasks.items (λ n t within. c.run_all.ensures.ran c.slice_at-part.result.now.root (slice-of c.args.plan.now c.args.basis.now.plan c.args.slice c.slice_at-part.result.now c.requires.asked.is_plan c.slice_at-part.ensures) n t (subst (λ (m : ℕ). n < m) (sym c.args.tasks.now.ok.0) within)) (sym c.run_all.new.tasks.ok.0 ∙ c.run_all.ensures.len ∙ c.args.tasks.now.ok.0) c.as_slice-lists.result.now (subst (λ (l : List Parcels). AreTaken c.run_all.new.tasks.items l) (sym c.as_slice-lists.ensures.value) (subst (λ (l : List (Task g.row.S.Denot g.row.H.Denot g.row.L.Denot)). AreTaken l c.in_ok-parcels.parcels.items) c.in_ok-first_fault.ensures.same c.in_ok-parcels.ensures.taken)) (subst (λ (l : List (Task g.row.S.Denot g.row.H.Denot g.row.L.Denot)). AreDone l) c.in_ok-first_fault.ensures.same c.in_ok-parcels.ensures.done) c.take_parcels.new.tasks.items (subst (λ (l : List (Task g.row.S.Denot g.row.H.Denot g.row.L.Denot)). AreSameHeads l c.take_parcels.new.tasks.items) c.in_ok-first_fault.ensures.same c.take_parcels.ensures.heads) c.takers-takes.result (takes-so c.owner-owner.result.now c.args.basis.now.owner c.slice_at-part.result.now.out c.takers-takes.result c.owner-owner.ensures c.takers-takes.ensures) c.take_all.new.tasks.items (λ n t within. c.take_all.ensures.got n t (subst (λ (m : ℕ). n < m) (sym c.take_parcels.new.tasks.ok.0) within)) (sym c.take_all.new.tasks.ok.0 ∙ c.take_all.ensures.len ∙ c.take_parcels.new.tasks.ok.0) f (subst (λ (l : List (Task g.row.S.Denot g.row.H.Denot g.row.L.Denot)). HasLost l f) c.as_slice-taken.ensures.value h)) c.first_lost.ensures.lost
