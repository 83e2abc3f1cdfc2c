use Rattle.hq_transcript.proofs.Standing.{stands-by-history}
use Rattle.hq_transcript.proofs.histories.histories_stand.Goals as goal

pub returns : goal.returns
returns c = stands-by-history
