use Rattle.hq_transcript.proofs.Answered.{replied-other, replied-own}
use Rattle.hq_transcript.proofs.laws.answers_stay.Goals as goal

pub returns : goal.returns
returns c = record { others = replied-other; own = replied-own }
