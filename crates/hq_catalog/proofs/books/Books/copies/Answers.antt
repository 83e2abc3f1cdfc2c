-- The copies are what a look sees.
use Rattle.std.proofs.Common.{◌&&◌, Bool}
use Rattle.hq_catalog.specs.Kept.{cat_of}
use Rattle.hq_catalog.proofs.Looks.{has_tables, seen_all}
use Rattle.hq_catalog.proofs.books.Books.copies.Goals as goal

pub seen_of-requires-clause-tables : goal.seen_of-requires-clause-tables
seen_of-requires-clause-tables g c =
    let told : Bool = g.F.StoredFile.tells && g.Z.SealCopy.tells in
    has_tables told (cat_of c.args.self.now) c.requires.cat

pub returns-clause-seen : goal.returns-clause-seen
returns-clause-seen g c =
    let told : Bool = g.F.StoredFile.tells && g.Z.SealCopy.tells in
    seen_all told (cat_of c.args.self.now) c.args.scope.now c.args.have.now.items c.in_ok-tables.tables.items c.requires.cat c.in_ok-tables.ensures.tables c.in_ok-tables.ensures.each
