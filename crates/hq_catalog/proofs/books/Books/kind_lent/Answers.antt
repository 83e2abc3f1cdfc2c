-- The pool says which lane is next.
use Rattle.std.proofs.Common.{◌&&◌, Bool, refl, sym, ◌∙◌, ap}
use Rattle.hq_log.specs.Places.{next_place}
use Rattle.hq_log.specs.Pools.{pool}
use Rattle.hq_pool.specs.Slots as slots
use Rattle.hq_catalog.specs.State.{TableState}
use Rattle.hq_catalog.specs.Kept.{cat_of}
use Rattle.hq_catalog.specs.Plans.{kind_next}
use Rattle.hq_catalog.proofs.History.{history-entries}
use Rattle.hq_catalog.proofs.Parts.{read_table}
use Rattle.hq_catalog.proofs.books.Books.kind_lent.Goals as goal

pub returns : goal.returns
returns g c =
    let told : Bool = g.F.StoredFile.tells && g.Z.SealCopy.tells in
    let b = c.args.self.now in
    let t = c.args.table in
    let read = read_table b.tables.items t t c.index.result.now c.index.ensures refl c.requires.made in
    c.kind_of_next.ensures ∙ ap (kind_next t) (c.next.ensures ∙ ap (λ (z : TableState). next_place (slots.places z.slots)) read
    ∙ ap next_place (c.requires.books.cat.places t ∙ ap (λ es. pool es t) (sym (history-entries told (cat_of b)))))
