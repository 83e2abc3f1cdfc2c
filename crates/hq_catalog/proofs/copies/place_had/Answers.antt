-- The table is found, or the session has it not.
use Rattle.std.proofs.Common.{position, sym, ◌∙◌, ap}
use Rattle.hq_catalog.specs.Copies.{is_had}
use Rattle.hq_catalog.proofs.Parts.{had_some, had_none}
use Rattle.hq_catalog.proofs.copies.place_had.Goals as goal

pub returns-in-None : goal.returns-in-None
returns-in-None c = had_none c.args.have.now.items c.args.table (ap (position (is_had c.args.table)) (sym c.as_slice.ensures.value) ∙ sym c.in-None.ensures)

pub returns-in-Some : goal.returns-in-Some
returns-in-Some c = had_some c.args.have.now.items c.args.table c.in-Some.i c.index.result.now (ap (position (is_had c.args.table)) (sym c.as_slice.ensures.value) ∙ sym c.in-Some.ensures) c.index.ensures
