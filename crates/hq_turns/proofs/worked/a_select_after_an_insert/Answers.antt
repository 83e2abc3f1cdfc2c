use Rattle.hq_turns.proofs.WorkedStatements.{shows-own-row, own-left-out, own-twice, no-look}
use Rattle.hq_turns.proofs.worked.a_select_after_an_insert.Goals as goal

pub returns : goal.returns
returns c = record { rows = shows-own-row; left_out = own-left-out; counted_twice = own-twice; no_look = no-look }
