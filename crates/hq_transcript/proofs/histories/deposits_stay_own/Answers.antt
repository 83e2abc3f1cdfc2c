use Rattle.hq_transcript.proofs.Deposits.{are-own-push, are-own-more}
use Rattle.hq_transcript.proofs.histories.deposits_stay_own.Goals as goal

pub returns : goal.returns
returns c = record { entry = are-own-push; input = are-own-more }
