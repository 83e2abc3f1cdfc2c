use Rattle.hq_transcript.proofs.ExamplesOfQueries.{shows_alter}
use Rattle.hq_transcript.proofs.scripts.an_added_column.Goals as goal

pub returns : goal.returns
returns c = shows_alter
