-- An answer leaves at most one entry, of the session that asked.
use Rattle.std.proofs.Common.{◌&&◌, Bool}
use Rattle.hq_catalog.specs.History.{history}
use Rattle.hq_catalog.proofs.Leaving.{left}
use Rattle.hq_catalog.proofs.desk.CatalogueAnswering.answer.Goals as goal

pub returns-clause-one : goal.returns-clause-one
returns-clause-one g c =
    let told : Bool = g.F.StoredFile.tells && g.Z.SealCopy.tells in
    left {F = g.row.F.Denot} {Z = g.row.Z.Denot} c.args.session c.args.statement (history told c.args.self.now) (history told c.answer.new.self) c.answer.result c.answer.ensures.one
