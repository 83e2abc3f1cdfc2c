use Rattle.std.proofs.Common.{◌≡◌, ap}
use Rattle.hq_sim.specs.Acting.{SimState}
use Rattle.hq_wiretests.proofs.Nodes.{earlier_new}
use Rattle.hq_wiretests.proofs.exchanges.Case.link.Goals as goal

pub returns-in-Dropping : goal.returns-in-Dropping
returns-in-Dropping c = λ query motion. earlier_new query motion c.dropping.result (ap (λ (s : SimState). s.sent) c.dropping.ensures)

pub returns-in_ok-acts-in-Scripted : goal.returns-in_ok-acts-in-Scripted
returns-in_ok-acts-in-Scripted c = λ query motion. earlier_new query motion c.scripted.result (ap (λ (s : SimState). s.sent) c.scripted.ensures)

pub returns-in-Drawn : goal.returns-in-Drawn
returns-in-Drawn c = λ query motion. earlier_new query motion c.drawn.result (ap (λ (s : SimState). s.sent) c.drawn.ensures)
