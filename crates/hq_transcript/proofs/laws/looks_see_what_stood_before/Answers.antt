use Rattle.hq_transcript.proofs.Growth.{looks_are_by_place}
use Rattle.hq_transcript.proofs.laws.looks_see_what_stood_before.Goals as goal

pub returns : goal.returns
returns c = looks_are_by_place
