use Rattle.std.proofs.Common.{◌∙◌, sym, subst, refl}
use Rattle.hq_bind.specs.Reading.{items_read}
use Rattle.hq_bind.specs.Ready.{IsReady}
use Rattle.hq_bind.proofs.Joined.{joined}
use Rattle.hq_bind.proofs.Ready.{ready}
use Rattle.hq_bind.proofs.query.bound_query.Goals as goal

pub query_of-requires : goal.query_of-requires
query_of-requires c =
    let same = joined c.args.defs.now c.args.select.now c.args.reading.columns c.args.reading.written (items_read c.args.reading.written c.args.select.now) c.args.reading.groups c.args.reading.of_items c.query_grouped-grouped.result
    c.in_ok-sources.sources c.in_ok-conds.conds c.in_ok-outputs.outputs c.in_ok-order.order c.in_ok-sources.ensures c.in_ok-conds.ensures c.in_ok-outputs.ensures c.in_ok-order.ensures c.query_grouped-grouped.ensures
    c.requires.read.of_items refl c.requires.read.groups c.requires.read.written c.requires.read.columns in
    subst IsReady (sym same) (ready c.args.defs.now c.args.select.now c.requires.fits c.requires.allowed c.first_has_columns.ensures)

pub returns : goal.returns
returns c =
    let same = joined c.args.defs.now c.args.select.now c.args.reading.columns c.args.reading.written (items_read c.args.reading.written c.args.select.now) c.args.reading.groups c.args.reading.of_items c.query_grouped-grouped.result
    c.in_ok-sources.sources c.in_ok-conds.conds c.in_ok-outputs.outputs c.in_ok-order.order c.in_ok-sources.ensures c.in_ok-conds.ensures c.in_ok-outputs.ensures c.in_ok-order.ensures c.query_grouped-grouped.ensures
    c.requires.read.of_items refl c.requires.read.groups c.requires.read.written c.requires.read.columns in
    c.query_of.ensures ∙ same
