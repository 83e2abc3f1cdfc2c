-- The log has one entry more, and nothing else changes.
use Rattle.std.proofs.Common.{◌&&◌, Bool, subst, sym, ◌∙◌, ap, arith}
use Rattle.hq_catalog.specs.History.{history}
use Rattle.hq_catalog.specs.Kept.{IsCatalogue, cat_of}
use Rattle.hq_catalog.proofs.Moves.{with_parts}
use Rattle.hq_catalog.proofs.Rooms.{owed_few}
use Rattle.hq_catalog.proofs.Sweeps.{noted_still}
use Rattle.hq_catalog.proofs.books.Books.note.Goals as goal

pub returns-clause-kept : goal.returns-clause-kept
returns-clause-kept g c =
    let told : Bool = g.F.StoredFile.tells && g.Z.SealCopy.tells in
    let b = c.args.self.now in
    let one = noted_still told (cat_of b) c.args.session c.args.statement c.args.kind c.requires.books.cat c.requires.still in
    record {
      cat = subst (λ es. IsCatalogue told (with_parts b.marks b.tables.items es b.changes.items b.grown.items)) (sym c.push_reserved.ensures.items) one.0;
      names = c.requires.books.names;
      room = omega (arith, owed_few told (cat_of b) c.requires.books.cat, c.requires.room.entries, c.push_reserved.ensures.len, c.push_reserved.ensures.capacity);
      grown_room = c.requires.books.grown_room;
    }

pub returns-clause-noted : goal.returns-clause-noted
returns-clause-noted g c =
    let told : Bool = g.F.StoredFile.tells && g.Z.SealCopy.tells in
    let b = c.args.self.now in
    let one = noted_still told (cat_of b) c.args.session c.args.statement c.args.kind c.requires.books.cat c.requires.still in
    ap (λ es. history told (with_parts b.marks b.tables.items es b.changes.items b.grown.items)) c.push_reserved.ensures.items ∙ one.1
