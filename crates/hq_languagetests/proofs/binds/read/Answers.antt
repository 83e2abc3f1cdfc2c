use Rattle.hq_languagetests.proofs.binds.read.Goals as goal

pub returns-in-Ok : goal.returns-in-Ok
returns-in-Ok c = c.parsed_statements_fit.ensures c.args.text.now c.in-Ok.statement c.in-Ok.ensures.found
