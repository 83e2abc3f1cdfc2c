use Rattle.std.proofs.lemmas.List.Elements.{recursion_from_All}
use Rattle.hq_value.specs.Kinds.{Fits}
use Rattle.hq_block.proofs.Written.{fitting-is}
use Rattle.hq_block.proofs.encode.fitting_in_list.Goals as goal

pub returns-clause-count : goal.returns-clause-count
returns-clause-count c =
    fitting-is c.args.kinds.now c.args.rows.now c.fitting.result (recursion_from_All (Fits c.args.kinds.now) c.args.rows.now c.requires.fit)
    c.fitting.ensures.within c.fitting.ensures.some (rw c.as_slice.ensures at c.fitting.ensures.room) (rw c.as_slice.ensures at c.fitting.ensures.more)
