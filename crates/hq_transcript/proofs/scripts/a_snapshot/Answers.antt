use Rattle.hq_transcript.proofs.ExamplesOfSessions.{shows_snapshot}
use Rattle.hq_transcript.proofs.scripts.a_snapshot.Goals as goal

pub returns : goal.returns
returns c = shows_snapshot
