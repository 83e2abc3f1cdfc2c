use Rattle.hq_transcript.proofs.Errors.{none-step}
use Rattle.hq_transcript.proofs.entries.errors_publish_nothing.Goals as goal

pub returns : goal.returns
returns c = none-step
