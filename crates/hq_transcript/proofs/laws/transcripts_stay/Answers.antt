use Rattle.hq_transcript.proofs.Answered.{transcript-others}
use Rattle.hq_transcript.proofs.laws.transcripts_stay.Goals as goal

pub returns : goal.returns
returns c binds told k nodes inputs log more pieces bytes = transcript-others binds told k nodes inputs log more pieces bytes
