-- One slice after another.
use Rattle.std.proofs.Common.{◌∙◌, ℕ, length, refl, subst}
use Rattle.std.proofs.lemmas.Result.{err_from_is_err_and}
use Rattle.hq_dispatch.specs.Basis.{asked}
use Rattle.hq_dispatch.specs.Ended.{benches_of}
use Rattle.hq_dispatch.specs.Outside.{outside}
use Rattle.hq_dispatch.specs.Standing.{Stands}
use Rattle.hq_dispatch.proofs.Querying.{within-last, last-is}
use Rattle.hq_dispatch.proofs.query.spread_all.Goals as goal

pub last_slice-last-requires : goal.last_slice-last-requires
last_slice-last-requires g c = c.requires.asked.is_plan.well_formed

pub loop-slice-init : goal.loop-slice-init
loop-slice-init g c = record { len = refl; stands = c.requires.stands }

pub spread-requires-clause-asked : goal.spread-requires-clause-asked
spread-requires-clause-asked g c = λ κs κp. c.requires.asked

pub spread-requires-clause-within : goal.spread-requires-clause-within
spread-requires-clause-within g c = λ κs κp. within-last c.loop-slice.slice c.last_slice-last.result (length c.args.plan.now.slices) c.loop-slice-test.true c.last_slice-last.ensures

pub spread-requires-clause-many : goal.spread-requires-clause-many
spread-requires-clause-many g c = λ κs κp. c.loop-slice.invariant.len ∙ c.requires.many

pub spread-requires-clause-stands : goal.spread-requires-clause-stands
spread-requires-clause-stands g c = λ κs κp. ((benches_of c.args.tasks.now.items), c.loop-slice.invariant.stands)

pub loop-slice-preserved : goal.loop-slice-preserved
loop-slice-preserved g c = record { len = c.in_ok-spread.ensures.len ∙ c.loop-slice.invariant.len; stands = c.in_ok-spread.ensures.stands (benches_of c.args.tasks.now.items) c.loop-slice.invariant.stands }

pub returns-in_err-spread-clause-len : goal.returns-in_err-spread-clause-len
returns-in_err-spread-clause-len g c = c.in_err-spread.ensures.len ∙ c.loop-slice.invariant.len

pub returns-in_err-spread-clause-ends : goal.returns-in_err-spread-clause-ends
returns-in_err-spread-clause-ends g c = let p = err_from_is_err_and c.from_residual.result c.from_residual.ensures.1 in rw (p.1, p.2) (c.in_err-spread.ensures.ends (benches_of c.args.tasks.now.items) c.loop-slice.invariant.stands)

pub returns-clause-len : goal.returns-clause-len
returns-clause-len g c = c.loop-slice.invariant.len

pub returns-clause-stands : goal.returns-clause-stands
returns-clause-stands g c = subst (λ (m : ℕ). Stands (outside g.S.Store.faults g.S.Store.given g.S.Store.sound g.H.Host.checks g.H.Host.faults g.H.Host.sound g.L.Link.state) (asked c.args.plan.now c.args.basis.now c.args.marks.now c.args.query g.S.Seal.SealCopy.tells g.S.File.StoredFile.tells) (benches_of c.args.tasks.now.items) m c.loop-slice.tasks.items) (last-is c.loop-slice.slice c.last_slice-last.result (length c.args.plan.now.slices) c.loop-slice-test.false c.loop-slice.auto.slice-end c.last_slice-last.ensures) c.loop-slice.invariant.stands
