-- One table more has no lane with a tail.
use Rattle.std.proofs.Common.{◌<◌, List, length, ap, arith}
use Rattle.hq_catalog.specs.State.{TableState}
use Rattle.hq_catalog.proofs.Parts.{swept_all}
use Rattle.hq_catalog.proofs.books.sweep_first.Goals as goal

pub loop-t-preserved : goal.loop-t-preserved
loop-t-preserved g c =
    let ts = c.loop-t.tables.items in
    let lt : c.loop-t.t < length ts = omega (arith, c.loop-t.tables.ok.0, c.args.tables.now.ok.0, ap (λ (l : List TableState). length l) c.loop-t.invariant.same) in
    let r = swept_all c.args.k c.loop-t.t ts c.args.tables.now.items c.index_mut.result.now c.sweep_any.new.self c.sweep_any.result c.loop-t.invariant.same c.index_mut.ensures.value lt
    c.sweep_any.ensures.swept c.sweep_any.ensures.same c.in-None.is c.loop-t.invariant.none in
    record { same = r.0; none = r.1 }
