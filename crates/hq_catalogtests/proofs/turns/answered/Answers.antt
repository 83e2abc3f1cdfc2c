-- What the other sessions have stays, and a table that was made is there.
use Rattle.std.proofs.Common.{false, length}
use Rattle.hq_catalog.specs.History.{history}
use Rattle.hq_catalogtests.proofs.Kept.{others_keep, has_made}
use Rattle.hq_catalogtests.proofs.turns.answered.Goals as goal

pub returns-clause-keep : goal.returns-clause-keep
returns-clause-keep c = others_keep c.args.session c.args.statement (history false c.args.catalogue.now) c.answer-answer.new.self c.answer-answer.result c.stands.ensures c.answer-answer.ensures.one

pub returns-clause-made : goal.returns-clause-made
returns-clause-made c =
    let old = history false c.args.catalogue.now in
    let new = history false c.answer-answer.new.self in
    has_made (length c.args.catalogue.now.marks) c.args.session c.args.statement old new c.args.ask c.answer-answer.result c.answer-answer.ensures.step
