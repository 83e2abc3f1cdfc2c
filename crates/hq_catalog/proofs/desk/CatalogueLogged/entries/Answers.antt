-- The log is that of the history.
use Rattle.std.proofs.Common.{◌&&◌, Bool, sym, ◌∙◌}
use Rattle.hq_catalog.proofs.History.{history-entries}
use Rattle.hq_catalog.proofs.desk.CatalogueLogged.entries.Goals as goal

pub returns : goal.returns
returns g c =
    let told : Bool = g.F.StoredFile.tells && g.Z.SealCopy.tells in
    c.log.ensures ∙ sym (history-entries told c.args.self.now)
