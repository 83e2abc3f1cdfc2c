use Rattle.std.proofs.Common.{◌≡◌, length, ap, ◌∙◌, rules}
use Rattle.hq_laws.specs.Turned.{columns_in}
use Rattle.hq_whole.specs.Tables.{kinds_by}
use Rattle.hq_planner.proofs.Narrowed.{numbers-many, query-narrowed}
use Rattle.hq_planner.proofs.planning.query_over.Goals as goal

pub narrow_query-requires : goal.narrow_query-requires
narrow_query-requires c =
    let count : c.len-2.result ≡ length c.args.taking.now.sources.items = search rules in
    numbers-many c.args.taking.now.sources.items c.args.query.now c.in_ok-sources.sources c.len-2.result c.requires.sources count c.in_ok-sources.ensures

pub returns : goal.returns
returns c =
    let count : c.len-2.result ≡ length c.args.taking.now.sources.items = search rules in
    query-narrowed c.args.defs.now c.args.taking.now.tables.items c.args.query.now c.in_ok-new.new c.args.taking.now.sources.items c.as_slice-2.result.now c.as_slice-3.result.now c.in_ok-sources.sources c.width_of_all-width.result c.len-2.result
    c.requires.parts c.requires.sources c.as_slice-2.ensures.value (c.as_slice-3.ensures ∙ c.in_ok-columns.ensures) (c.width_of_all-width.ensures.width ∙ ap (columns_in (kinds_by c.args.defs.now)) c.as_slice.ensures) count c.in_ok-sources.ensures
    c.in_ok-new.ensures.sources c.in_ok-new.ensures.turned
