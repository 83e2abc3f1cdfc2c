use Rattle.hq_narrow.specs.declared.taken.Taken.{Taken}
use Rattle.hq_planner.proofs.Taken.{parts-put, part-found, few-some}
use Rattle.hq_planner.proofs.taking.take_source.Goals as goal

pub returns-clause-parts : goal.returns-clause-parts
returns-clause-parts c =
    let t : Taken = record { table = c.args.table; columns = c.in_ok-part.part.columns } in
    parts-put c.args.defs.now c.args.taking.now.sources.items c.put.new.taking.sources.items c.args.taking.now.tables.items c.put.new.taking.tables.items t c.in_ok-part.part.def c.requires.parts
    (part-found c.args.defs.now c.args.table c.in-Some.whole.now c.in_ok-part.part.columns c.in_ok-part.part.def c.in-Some.ensures c.in_ok-part.ensures.part)
    (few-some t c.in_ok-part.ensures.some c.in_ok-part.ensures.few) c.in_ok-put.ensures.sources c.in_ok-put.ensures.tables
