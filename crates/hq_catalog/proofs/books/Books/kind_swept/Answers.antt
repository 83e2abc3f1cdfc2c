-- What the tables sweep is what the history sweeps.
use Rattle.std.proofs.Common.{◌&&◌, Bool}
use Rattle.hq_catalog.specs.Kept.{cat_of}
use Rattle.hq_catalog.proofs.LeftKinds.{sweep_is}
use Rattle.hq_catalog.proofs.books.Books.kind_swept.Goals as goal

pub kind_of_sweep-requires-clause-lanes : goal.kind_of_sweep-requires-clause-lanes
kind_of_sweep-requires-clause-lanes g c = λ t h. (c.requires.cat.tables t h).slots

pub returns : goal.returns
returns g c =
    let told : Bool = g.F.StoredFile.tells && g.Z.SealCopy.tells in
    sweep_is told (cat_of c.args.self.now) c.kind_of_sweep.result c.requires.cat c.kind_of_sweep.ensures
