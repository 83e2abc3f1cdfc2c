-- The look sees the tables that were copied.
use Rattle.std.proofs.Common.{◌&&◌, Bool, length, sym, ◌∙◌, ap}
use Rattle.hq_log.specs.Marks.{marks}
use Rattle.hq_catalog.specs.Kept.{cat_of}
use Rattle.hq_catalog.proofs.History.{history-entries, length-history}
use Rattle.hq_catalog.proofs.books.Books.look.Goals as goal

pub returns-clause-step : goal.returns-clause-step
returns-clause-step g c =
    let told : Bool = g.F.StoredFile.tells && g.Z.SealCopy.tells in
    let b = c.args.self.now in
    λ scope have seen. (
      c.note.ensures.noted,
      c.place-at.ensures ∙ sym (length-history told (cat_of b)),
      c.copy-marks.ensures ∙ c.requires.books.cat.marks ∙ ap (marks (length b.marks)) (sym (history-entries told (cat_of b))),
      seen,
    )
