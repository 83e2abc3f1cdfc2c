use Rattle.hq_transcript.specs.Reading.{pieces_in}
use Rattle.hq_history.specs.History.{entries_of}
use Rattle.hq_transcript.specs.History.{replay_history}
use Rattle.hq_transcript.specs.Serves.{RepliedBy, RepliedOver}
use Rattle.hq_transcript.proofs.Maps.{serves-map}
use Rattle.hq_transcript.proofs.Bridge.{ended_from_history}
use Rattle.hq_transcript.proofs.histories.histories_decide.Goals as goal

pub returns : goal.returns
returns c binds told file_rows inputs nodes history own k why left bytes =
    serves-map (RepliedBy binds told k (replay_history file_rows nodes history) (entries_of history) (inputs k)) (RepliedOver binds told nodes inputs (entries_of history) k)
    (λ j replies h. (h.0, h.1, h.2, h.3, ended_from_history binds told file_rows (λ i. pieces_in (inputs i)) nodes history own k h.0 replies h.4)) why (inputs k) left bytes
