use Rattle.std.proofs.Common.{◌≡◌, ◌&&◌, length, List, sym, subst}
use Rattle.hq_value.specs.declared.entry.Entry.{Entry}
use Rattle.hq_log.specs.Legal.{IsLegal}
use Rattle.hq_catalog.specs.History.{history}
use Rattle.hq_serve.proofs.Homing.{hand-none}
use Rattle.hq_serve.proofs.serve.serve_alone.Goals as goal

pub serve_at-requires-clause-home : goal.serve_at-requires-clause-home
serve_at-requires-clause-home g c κs within =
    hand-none g.S.File.StoredFile.tells g.S.Seal.SealCopy.tells (g.S.File.StoredFile.tells && g.S.Seal.SealCopy.tells) (length c.args.catalogue.now.marks) c.args.number _ c.requires.fresh
    (subst (λ (log : List Entry). IsLegal (length c.args.catalogue.now.marks) log) (sym c.stands.ensures.log) c.stands.ensures.legal) c.stands.ensures.own
