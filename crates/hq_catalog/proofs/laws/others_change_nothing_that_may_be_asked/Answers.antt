use Rattle.hq_catalog.proofs.Others.{goes_on, may_still}
use Rattle.hq_catalog.proofs.laws.others_change_nothing_that_may_be_asked.Goals as goal

pub returns : goal.returns
returns g c =
    λ told k nodes seen history ask grew legal own may.
    may_still {F = g.row.F.Denot} {Z = g.row.Z.Denot} g.F.StoredFile.tells g.Z.SealCopy.tells k nodes seen history (goes_on told nodes k seen history grew legal own) ask may
