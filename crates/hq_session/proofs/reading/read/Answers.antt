use Rattle.std.proofs.lemmas.Result.{IfOk-weaker}
use Rattle.hq_sql.proofs.Fits.{parsed_fits}
use Rattle.hq_sql.proofs.Texts.{parses-from, parses-to, no_statement}
use Rattle.hq_session.proofs.reading.read.Goals as goal

pub returns-in-Some-clause-found : goal.returns-in-Some-clause-found
returns-in-Some-clause-found c = parses-to c.args.text.now c.in-Some.statement c.in-Some.ensures.found

pub returns-in-Some-clause-grammar : goal.returns-in-Some-clause-grammar
returns-in-Some-clause-grammar c = parsed_fits c.args.text.now c.in-Some.statement c.in-Some.ensures.found

pub returns-in-None-clause-found : goal.returns-in-None-clause-found
returns-in-None-clause-found c = IfOk-weaker c.parse.result _ _ (λ s h. parses-to c.args.text.now s h) c.parse.ensures.found

pub returns-in-None-clause-grammar : goal.returns-in-None-clause-grammar
returns-in-None-clause-grammar c = IfOk-weaker c.parse.result _ _ (λ s h. parsed_fits c.args.text.now s h) c.parse.ensures.found

pub returns-in-None-clause-none : goal.returns-in-None-clause-none
returns-in-None-clause-none c = λ e. no_statement c.args.text.now (c.parse.ensures.refused e)

pub returns-in-None-clause-short : goal.returns-in-None-clause-short
returns-in-None-clause-short c = λ e s is control. c.in-None.ensures.refused s control (parses-from c.args.text.now s is)
