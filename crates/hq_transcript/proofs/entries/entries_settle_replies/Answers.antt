use Rattle.hq_transcript.proofs.Settled.{settled-step}
use Rattle.hq_transcript.proofs.entries.entries_settle_replies.Goals as goal

pub returns : goal.returns
returns c = settled-step
