use Rattle.hq_transcript.proofs.ExamplesOfTexts.{read_filled}
use Rattle.hq_transcript.proofs.ExamplesOfStatements.{shows_filled}
use Rattle.hq_transcript.proofs.NoAnswers.{no_other_number}
use Rattle.hq_transcript.proofs.scripts.a_filled_table.Goals as goal

pub returns : goal.returns
returns c = record { read = read_filled; replies = shows_filled; no_other = no_other_number }
