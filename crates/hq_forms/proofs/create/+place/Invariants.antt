use Rattle.std.proofs.Common.{length}
use Rattle.hq_forms.proofs.create.+place.Given as goal

abbrev pub decreases-place : goal.decreases-place
decreases-place l = length l.columns.now
