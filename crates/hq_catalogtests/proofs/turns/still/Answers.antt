-- What the session has stays too.
use Rattle.std.proofs.Common.{false, length}
use Rattle.hq_catalog.specs.History.{history}
use Rattle.hq_catalogtests.proofs.Kept.{has_still, still_keeps}
use Rattle.hq_catalogtests.proofs.turns.still.Goals as goal

pub returns-clause-turned : goal.returns-clause-turned
returns-clause-turned c =
    let old = history false c.args.catalogue.now in
    let new = history false c.answered-answer.new.catalogue in
    let keeps = still_keeps (length c.args.catalogue.now.marks) c.args.session c.args.statement old new c.args.ask c.answered-answer.result c.requires.still c.answered-answer.ensures.step in
    record { keep = c.answered-answer.ensures.keep; has = has_still c.args.session old new c.args.hand keeps c.requires.has }

pub returns-clause-made : goal.returns-clause-made
returns-clause-made c = c.take-none.ensures.made (history false c.answered-answer.new.catalogue) c.answered-answer.ensures.made
