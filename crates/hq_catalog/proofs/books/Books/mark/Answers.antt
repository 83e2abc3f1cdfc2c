-- The node is marked, and the log has one entry more.
use Rattle.std.proofs.Common.{◌≡◌, ◌&&◌, ◌<◌, ◌++◌, ◌∷◌, [], Bool, length, slice_set, subst, sym, ◌∙◌, ap, arith}
use Rattle.hq_value.specs.declared.entry.EntryKind.TheVariants as entry
use Rattle.hq_catalog.specs.State.{CatState}
use Rattle.hq_catalog.specs.History.{history}
use Rattle.hq_catalog.specs.Kept.{IsCatalogue, HasRoom, cat_of}
use Rattle.hq_catalog.proofs.Moves.{with_parts, entry_by}
use Rattle.hq_catalog.proofs.Parts.{marked}
use Rattle.hq_catalog.proofs.Rooms.{owed_few}
use Rattle.hq_catalog.proofs.books.Books.mark.Goals as goal

pub returns-clause-kept : goal.returns-clause-kept
returns-clause-kept g c =
    let told : Bool = g.F.StoredFile.tells && g.Z.SealCopy.tells in
    let b = c.args.self.now in
    let kept = c.requires.books in
    let room : HasRoom b = c.requires.room in
    let within : c.args.node < length b.marks = c.requires.within in
    let one = marked told (cat_of b) c.args.session c.args.statement c.args.node c.args.up kept.cat within in
    let cat_is : with_parts c.set.new.self b.tables.items c.push_reserved.new.self.items b.changes.items b.grown.items
    ≡ with_parts (slice_set b.marks c.args.node c.args.up) b.tables.items (b.log.items ++ entry_by c.args.session c.args.statement (entry.Mark c.args.node c.args.up) ∷ []) b.changes.items b.grown.items =
    λ i. with_parts (c.set.ensures i) b.tables.items (c.push_reserved.ensures.items i) b.changes.items b.grown.items in
    record {
      cat = subst (λ (d : CatState). IsCatalogue told d) (sym cat_is) one.0;
      names = kept.names;
      room = omega (arith, owed_few told (cat_of b) kept.cat, room.entries, c.push_reserved.ensures.len, c.push_reserved.ensures.capacity);
      grown_room = kept.grown_room;
    }

pub returns-clause-step : goal.returns-clause-step
returns-clause-step g c =
    let told : Bool = g.F.StoredFile.tells && g.Z.SealCopy.tells in
    let b = c.args.self.now in
    let kept = c.requires.books in
    let within : c.args.node < length b.marks = c.requires.within in
    let one = marked told (cat_of b) c.args.session c.args.statement c.args.node c.args.up kept.cat within in
    let cat_is : with_parts c.set.new.self b.tables.items c.push_reserved.new.self.items b.changes.items b.grown.items
    ≡ with_parts (slice_set b.marks c.args.node c.args.up) b.tables.items (b.log.items ++ entry_by c.args.session c.args.statement (entry.Mark c.args.node c.args.up) ∷ []) b.changes.items b.grown.items =
    λ i. with_parts (c.set.ensures i) b.tables.items (c.push_reserved.ensures.items i) b.changes.items b.grown.items in
    ap (λ (d : CatState). history told d) cat_is ∙ one.1
