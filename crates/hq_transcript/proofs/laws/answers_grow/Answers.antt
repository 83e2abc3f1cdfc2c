use Rattle.hq_transcript.proofs.Answered.{replied-piece, step-pieces}
use Rattle.hq_transcript.proofs.laws.answers_grow.Goals as goal

pub returns : goal.returns
returns c = record { piece = replied-piece; before = step-pieces }
