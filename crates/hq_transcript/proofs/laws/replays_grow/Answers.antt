use Rattle.hq_transcript.proofs.Growth.{replay-push, history-push}
use Rattle.hq_transcript.proofs.laws.replays_grow.Goals as goal

pub returns : goal.returns
returns c = record { log = replay-push; history = history-push }
