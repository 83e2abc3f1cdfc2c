-- The last slice behind the others.
use Rattle.std.proofs.Common.{◌∙◌, ℕ, ◌-◌, ◌<◌, List, length, slice_index_or, sym, ap, subst}
use Rattle.hq_dispatch.specs.Basis.{asked}
use Rattle.hq_dispatch.specs.Ended.{benches_of}
use Rattle.hq_dispatch.specs.Outside.{outside}
use Rattle.hq_dispatch.proofs.Querying.{last-below, lowest-within, stands-to-read, ended-last}
use Rattle.hq_dispatch.proofs.query.run_slices.Goals as goal

pub spread_all-requires-clause-asked : goal.spread_all-requires-clause-asked
spread_all-requires-clause-asked g c = λ κs κp. c.requires.asked

pub spread_all-requires-clause-stands : goal.spread_all-requires-clause-stands
spread_all-requires-clause-stands g c = λ κs κp. c.requires.stands

pub last_slice-last-requires : goal.last_slice-last-requires
last_slice-last-requires g c = c.requires.asked.is_plan.well_formed

pub index_mut-requires : goal.index_mut-requires
index_mut-requires g c = subst (λ (m : ℕ). (slice_index_or c.owner-owner.result.now 0 0) < m) (sym c.spread_all.new.tasks.ok.0) (lowest-within (asked c.args.plan.now c.args.basis.now c.args.marks.now c.args.query g.S.Seal.SealCopy.tells g.S.File.StoredFile.tells) c.requires.asked c.spread_all.new.tasks.items (sym c.spread_all.new.tasks.ok.0 ∙ c.in-Ok.ensures.len ∙ c.requires.many) (slice_index_or c.owner-owner.result.now 0 0) (ap (λ (l : List ℕ). slice_index_or l 0 0) c.owner-owner.ensures ∙ c.requires.asked.first))

pub finish-requires : goal.finish-requires
finish-requires g c = stands-to-read (outside g.S.Store.faults g.S.Store.given g.S.Store.sound g.H.Host.checks g.H.Host.faults g.H.Host.sound g.L.Link.state) (asked c.args.plan.now c.args.basis.now c.args.marks.now c.args.query g.S.Seal.SealCopy.tells g.S.File.StoredFile.tells) c.requires.asked (benches_of c.args.tasks.now.items) (length c.args.plan.now.slices - 1) c.spread_all.new.tasks.items c.in-Ok.ensures.stands c.last_slice-last.result (slice_index_or c.owner-owner.result.now 0 0) c.index_mut.result.now (lowest-within (asked c.args.plan.now c.args.basis.now c.args.marks.now c.args.query g.S.Seal.SealCopy.tells g.S.File.StoredFile.tells) c.requires.asked c.spread_all.new.tasks.items (sym c.spread_all.new.tasks.ok.0 ∙ c.in-Ok.ensures.len ∙ c.requires.many) (slice_index_or c.owner-owner.result.now 0 0) (ap (λ (l : List ℕ). slice_index_or l 0 0) c.owner-owner.ensures ∙ c.requires.asked.first)) c.index_mut.ensures.value (last-below c.last_slice-last.result (length c.args.plan.now.slices) c.last_slice-last.ensures)

pub returns-in-Ok-clause-ended : goal.returns-in-Ok-clause-ended
returns-in-Ok-clause-ended g c = ended-last (outside g.S.Store.faults g.S.Store.given g.S.Store.sound g.H.Host.checks g.H.Host.faults g.H.Host.sound g.L.Link.state) (asked c.args.plan.now c.args.basis.now c.args.marks.now c.args.query g.S.Seal.SealCopy.tells g.S.File.StoredFile.tells) c.requires.asked (benches_of c.args.tasks.now.items) c.last_slice-last.result c.spread_all.new.tasks.items c.last_slice-last.ensures c.in-Ok.ensures.stands (sym c.spread_all.new.tasks.ok.0 ∙ c.in-Ok.ensures.len ∙ c.requires.many) (slice_index_or c.owner-owner.result.now 0 0) (ap (λ (l : List ℕ). slice_index_or l 0 0) c.owner-owner.ensures ∙ c.requires.asked.first) c.index_mut.result.now c.finish.new.task c.index_mut.ensures.value c.finish.result c.finish.ensures

pub returns-in-Err-clause-ended : goal.returns-in-Err-clause-ended
returns-in-Err-clause-ended g c = c.in-Err.ensures.ends
