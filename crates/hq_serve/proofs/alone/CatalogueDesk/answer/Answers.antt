use Rattle.hq_serve.proofs.Lonely.{grew-one, answered-alone}
use Rattle.hq_serve.proofs.alone.CatalogueDesk.answer.Goals as goal

pub returns-clause-alone : goal.returns-clause-alone
returns-clause-alone g c = λ _. grew-one _ _ _ _ c.answer.result c.answer.ensures.one

pub returns-clause-answered : goal.returns-clause-answered
returns-clause-answered g c = answered-alone _ _ _ _ _ _ c.answer.result c.stands.ensures c.answer.ensures.step
