use Rattle.hq_session.proofs.Expecting.{can-hear}
use Rattle.hq_session.proofs.laws.answers_can_be_heard.Goals as goal

pub returns : goal.returns
returns g c = λ told file_rows nodes k now after a x t counts awaiting w h. can-hear told file_rows nodes k now after a x t counts awaiting w h
