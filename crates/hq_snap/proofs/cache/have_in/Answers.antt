-- One table more is told.
use Rattle.std.proofs.Common.{◌≡◌, suc, ◌+◌, ◌<◌, ◌++◌, List, length, take, slice_index_or, arith, ap, sym, ◌∙◌}
use Rattle.std.proofs.lemmas.Grind.{common_steps}
use Rattle.std.proofs.lemmas.List.{get_or_default}
use Rattle.hq_snap.specs.declared.scope.Have.{Have}
use Rattle.hq_snap.specs.Snaps.{TableSnapState}
use Rattle.hq_snap.specs.Caches.{have_of, have_one, no_snap}
use Rattle.hq_snap.proofs.Cached.{have_more}
use Rattle.hq_snap.proofs.cache.have_in.Goals as goal

pub loop-i-preserved : goal.loop-i-preserved
loop-i-preserved g c =
    let ts = c.args.tables.now in
    let ps = c.args.places.now in
    let i = c.loop-i.i in
    let lt : i < length ts = (let t = c.loop-i-test.true in let z = c.loop-i.auto.i-end in grind (arith, common_steps)) in
    let read : c.index-tables-i.result ≡ slice_index_or ts i no_snap = c.index-tables-i.is ∙ get_or_default ts i c.index-tables-i.result no_snap lt in
    let more : have_of c.args.scope.now (take (i + 1) ts) (take (i + 1) ps) ≡ have_of c.args.scope.now (take i ts) (take i ps) ++ have_one c.args.scope.now (slice_index_or ts i no_snap) (slice_index_or ps i 0) =
    ap (λ k. have_of c.args.scope.now (take k ts) (take k ps)) (let one : i + 1 ≡ suc i = omega arith in one) ∙ have_more c.args.scope.now ts ps i lt c.requires in
    c.in_ok-add_have.ensures ∙ ap (λ (xs : List Have). xs ++ have_one c.args.scope.now c.index-tables-i.result (slice_index_or ps i 0)) c.loop-i.invariant
    ∙ ap (λ (x : TableSnapState). have_of c.args.scope.now (take i ts) (take i ps) ++ have_one c.args.scope.now x (slice_index_or ps i 0)) read ∙ sym more
