-- One table more is copied, if it is wanted.
use Rattle.std.proofs.Common.{◌≡◌, ◌<◌, length, refl, subst, arith}
use Rattle.hq_catalog.specs.State.{TableState, table_in}
use Rattle.hq_catalog.specs.Copies.{AddsIf, is_marked}
use Rattle.hq_catalog.proofs.Looks.{wanted_more}
use Rattle.hq_catalog.proofs.Parts.{read_table}
use Rattle.hq_catalog.proofs.copies.seen_of.Goals as goal

pub loop-t-preserved : goal.loop-t-preserved
loop-t-preserved g c =
    let ts = c.args.tables.now.items in
    let t = c.loop-t.t in
    let lt : t < length ts = omega (arith, c.args.tables.now.ok.0) in
    let read : c.index.result.now ≡ table_in ts t = read_table ts t t c.index.result.now c.index.ensures refl lt in
    wanted_more c.args.scope.now c.args.have.now.items ts c.args.names.now.keys c.wanted_of-wanted.result t c.loop-t.snaps.items c.add_seen.new.snaps.items lt c.requires.tables c.requires.names c.wanted_of-wanted.ensures c.loop-t.invariant
    (subst (λ (x : TableState). AddsIf (is_marked c.wanted_of-wanted.result t) c.args.have.now.items x c.loop-t.snaps.items c.add_seen.new.snaps.items) read c.in_ok-add_seen.ensures)
