use Rattle.std.proofs.Common.{◌&&◌, Bool, subst}
use Rattle.hq_catalog.specs.State.{CatState}
use Rattle.hq_catalog.specs.Stands.{Stands}
use Rattle.hq_catalog.specs.Kept.{cat_of}
use Rattle.hq_catalog.proofs.Standing.{stands}
use Rattle.hq_catalog.proofs.catalogue.Catalogue.stands.Goals as goal

pub returns : goal.returns
returns g c =
    let told : Bool = g.F.StoredFile.tells && g.Z.SealCopy.tells in
    subst (λ (x : CatState). Stands told x) c.self.view_is (stands told (cat_of c.self.inside.books) c.self.invariant.cat)
