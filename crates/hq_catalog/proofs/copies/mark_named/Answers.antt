-- The name leads to its table alone, or to none.
use Rattle.std.proofs.Common.{sym}
use Rattle.hq_catalog.proofs.Looks.{mark_one, mark_none}
use Rattle.hq_catalog.proofs.copies.mark_named.Goals as goal

pub returns-in-Some : goal.returns-in-Some
returns-in-Some c = mark_one c.args.names.now.keys c.args.named.now c.args.name.now c.in-Some.t c.len.ensures.unique (sym c.in-Some.ensures.index) c.requires

pub returns-in_default : goal.returns-in_default
returns-in_default c = mark_none c.args.names.now.keys c.args.named.now c.args.name.now (sym c.in_default.ensures.found)
