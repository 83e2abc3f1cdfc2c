use Rattle.std.proofs.Common.{◌++◌}
use Rattle.hq_transcript.specs.Serves.{RepliedOver}
use Rattle.hq_transcript.proofs.Maps.{serves-map, replied-others}
use Rattle.hq_transcript.proofs.laws.servings_stay.Goals as goal

pub returns : goal.returns
returns c binds told nodes inputs log more k none why left bytes =
    serves-map (RepliedOver binds told nodes inputs log k) (RepliedOver binds told nodes inputs (log ++ more) k) (replied-others binds told nodes inputs log more k none) why (inputs k) left bytes
