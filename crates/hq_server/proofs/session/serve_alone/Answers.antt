use Rattle.hq_server.proofs.Serving.{serve-new}
use Rattle.hq_server.proofs.session.serve_alone.Goals as goal

pub returns-in-Ok-clause-served : goal.returns-in-Ok-clause-served
returns-in-Ok-clause-served g c = c.serve_all.ensures.served _ _ (serve-new _ _ _ c.in-Ok.reader c.new-database.ensures c.in-Ok.ensures)
