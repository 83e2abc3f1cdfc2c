use Rattle.std.proofs.Common.{suc, if◌then◌else◌}
use Rattle.hq_session.specs.Keeps.{asks_left, is_ask}
use Rattle.hq_serve.proofs.settle.+settle.Given as goal

abbrev pub decreases-settle : goal.decreases-settle
decreases-settle g l = if is_ask l.turn then suc (asks_left l.session.now) else 0
