use Rattle.hq_transcript.proofs.Answered.{replied-starts}
use Rattle.hq_transcript.proofs.laws.answers_begin.Goals as goal

pub returns : goal.returns
returns c = replied-starts
