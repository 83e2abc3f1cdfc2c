use Rattle.hq_transcript.proofs.Bridge.{step_same}
use Rattle.hq_transcript.proofs.entries.the_same_found_does_the_same.Goals as goal

pub returns : goal.returns
returns c = step_same
