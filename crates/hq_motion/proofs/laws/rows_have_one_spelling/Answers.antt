use Rattle.std.proofs.Common.{◌∙◌, sym}
use Rattle.hq_motion.proofs.Reading.{one-reading, rows-joined}
use Rattle.hq_motion.proofs.laws.rows_have_one_spelling.Goals as goal

pub returns-clause-rows : goal.returns-clause-rows
returns-clause-rows c = one-reading

pub returns-clause-bytes : goal.returns-clause-bytes
returns-clause-bytes c kinds rows a b h g = h.spelled ∙ sym g.spelled

pub returns-clause-joined : goal.returns-clause-joined
returns-clause-joined c = rows-joined
