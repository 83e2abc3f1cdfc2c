use Rattle.hq_io.proofs.Quoting.{blank-commented}
use Rattle.hq_io.proofs.laws.comments_are_blank.Goals as goal

pub returns : goal.returns
returns c = blank-commented
