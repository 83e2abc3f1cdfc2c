use Rattle.hq_transcript.proofs.Folds.{up-replay, up-history, tables-history}
use Rattle.hq_transcript.proofs.laws.replays_have_the_marks_and_tables.Goals as goal

pub returns : goal.returns
returns c = record { marks = up-replay; history_marks = up-history; history_tables = tables-history }
