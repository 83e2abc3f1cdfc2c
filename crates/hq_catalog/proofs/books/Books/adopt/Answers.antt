-- The lane that was swept is out to its session, and the log has one entry more.
use Rattle.std.proofs.Common.{◌≡◌, ◌&&◌, ◌++◌, ◌∷◌, [], Bool, List, map, slice_get, slice_set, refl, subst, sym, ◌∙◌, ap, arith}
use Rattle.hq_value.specs.declared.entry.EntryKind.TheVariants as entry
use Rattle.hq_pool.specs.declared.slot.Slot.TheVariants as slot
use Rattle.hq_pool.specs.Slots as slots
use Rattle.hq_catalog.specs.State.{TableState, CatState, table_in, places_in}
use Rattle.hq_catalog.specs.History.{history}
use Rattle.hq_catalog.specs.Kept.{IsCatalogue, cat_of, owed, owes}
use Rattle.hq_catalog.proofs.Backs.{swept_there, adopted}
use Rattle.hq_catalog.proofs.Moves.{with_parts, with_slot, entry_by}
use Rattle.hq_catalog.proofs.Parts.{read_table, names_moved, pays}
use Rattle.hq_catalog.proofs.books.Books.adopt.Goals as goal

pub index_mut-requires : goal.index_mut-requires
index_mut-requires g c =
    let told : Bool = g.F.StoredFile.tells && g.Z.SealCopy.tells in
    let b = c.args.self.now in
    let at = swept_there told (cat_of b) c.args.session c.args.lane.table c.args.lane.number c.requires.books.cat c.requires.may.swept in
    omega (arith, at.made, b.tables.ok.0, c.table-table.ensures)

pub adopt-requires : goal.adopt-requires
adopt-requires g c =
    let told : Bool = g.F.StoredFile.tells && g.Z.SealCopy.tells in
    let b = c.args.self.now in
    let at = swept_there told (cat_of b) c.args.session c.args.lane.table c.args.lane.number c.requires.books.cat c.requires.may.swept in
    let read = read_table b.tables.items c.table-table.result c.args.lane.table c.index_mut.result.now c.index_mut.ensures.value c.table-table.ensures at.made in
    ap (λ (z : TableState). slice_get (slots.places z.slots) c.number-number.result) read
    ∙ ap (λ i. slice_get (places_in b.tables.items c.args.lane.table) i) c.number-number.ensures ∙ at.at_place

pub push_reserved-requires : goal.push_reserved-requires
push_reserved-requires g c =
    let told : Bool = g.F.StoredFile.tells && g.Z.SealCopy.tells in
    let b = c.args.self.now in
    let at = swept_there told (cat_of b) c.args.session c.args.lane.table c.args.lane.number c.requires.books.cat c.requires.may.swept in
    let pay = pays b.tables.items c.args.lane.table c.args.lane.number (slot.Out c.args.session) at.made at.within (omega (arith, ap owes at.is_slot)) in
    omega (arith, pay, c.requires.books.room)

pub returns-clause-kept : goal.returns-clause-kept
returns-clause-kept g c =
    let told : Bool = g.F.StoredFile.tells && g.Z.SealCopy.tells in
    let b = c.args.self.now in
    let l = c.args.lane in
    let at = swept_there told (cat_of b) c.args.session l.table l.number c.requires.books.cat c.requires.may.swept in
    let read = read_table b.tables.items c.table-table.result l.table c.index_mut.result.now c.index_mut.ensures.value c.table-table.ensures at.made in
    let moved : TableState = with_slot (table_in b.tables.items l.table) l.number (slot.Out c.args.session) in
    let y_is : c.adopt.new.self ≡ moved = c.adopt.ensures ∙ ap (λ (z : TableState). with_slot z c.number-number.result (slot.Out c.args.session)) read
    ∙ ap (λ i. with_slot (table_in b.tables.items l.table) i (slot.Out c.args.session)) c.number-number.ensures in
    let tables_are : slice_set b.tables.items c.table-table.result c.adopt.new.self ≡ slice_set b.tables.items l.table moved = λ i. slice_set b.tables.items (c.table-table.ensures i) (y_is i) in
    let log_is : c.push_reserved.new.self.items ≡ b.log.items ++ entry_by c.args.session c.args.statement (entry.Adopt l.table l.number) ∷ [] =
    c.push_reserved.ensures.items ∙ (λ i. b.log.items ++ entry_by c.args.session c.args.statement (entry.Adopt (c.table-table.ensures i) (c.number-number.ensures i)) ∷ []) in
    let cat_is : with_parts b.marks (slice_set b.tables.items c.table-table.result c.adopt.new.self) c.push_reserved.new.self.items b.changes.items b.grown.items
    ≡ with_parts b.marks (slice_set b.tables.items l.table moved) (b.log.items ++ entry_by c.args.session c.args.statement (entry.Adopt l.table l.number) ∷ []) b.changes.items b.grown.items =
    λ i. with_parts b.marks (tables_are i) (log_is i) b.changes.items b.grown.items in
    let one = adopted told (cat_of b) c.args.session c.args.statement l c.requires.books.cat c.requires.may in
    let pay = pays b.tables.items l.table l.number (slot.Out c.args.session) at.made at.within (omega (arith, ap owes at.is_slot)) in
    let same : owed (slice_set b.tables.items c.table-table.result c.adopt.new.self) ≡ owed (slice_set b.tables.items l.table moved) = ap owed tables_are in
    record {
      cat = subst (λ (d : CatState). IsCatalogue told d) (sym cat_is) one.0;
      names = c.requires.books.names ∙ sym (names_moved b.tables.items l.table moved refl) ∙ ap (λ (ts : List TableState). map (λ (t : TableState). t.def.name) ts) (sym tables_are);
      room = omega (arith, pay, same, c.requires.books.room, c.push_reserved.ensures.len, c.push_reserved.ensures.capacity);
      grown_room = omega (arith, pay, same, c.requires.books.grown_room);
    }

pub returns-clause-step : goal.returns-clause-step
returns-clause-step g c =
    let told : Bool = g.F.StoredFile.tells && g.Z.SealCopy.tells in
    let b = c.args.self.now in
    let l = c.args.lane in
    let at = swept_there told (cat_of b) c.args.session l.table l.number c.requires.books.cat c.requires.may.swept in
    let read = read_table b.tables.items c.table-table.result l.table c.index_mut.result.now c.index_mut.ensures.value c.table-table.ensures at.made in
    let moved : TableState = with_slot (table_in b.tables.items l.table) l.number (slot.Out c.args.session) in
    let y_is : c.adopt.new.self ≡ moved = c.adopt.ensures ∙ ap (λ (z : TableState). with_slot z c.number-number.result (slot.Out c.args.session)) read
    ∙ ap (λ i. with_slot (table_in b.tables.items l.table) i (slot.Out c.args.session)) c.number-number.ensures in
    let tables_are : slice_set b.tables.items c.table-table.result c.adopt.new.self ≡ slice_set b.tables.items l.table moved = λ i. slice_set b.tables.items (c.table-table.ensures i) (y_is i) in
    let log_is : c.push_reserved.new.self.items ≡ b.log.items ++ entry_by c.args.session c.args.statement (entry.Adopt l.table l.number) ∷ [] =
    c.push_reserved.ensures.items ∙ (λ i. b.log.items ++ entry_by c.args.session c.args.statement (entry.Adopt (c.table-table.ensures i) (c.number-number.ensures i)) ∷ []) in
    let cat_is : with_parts b.marks (slice_set b.tables.items c.table-table.result c.adopt.new.self) c.push_reserved.new.self.items b.changes.items b.grown.items
    ≡ with_parts b.marks (slice_set b.tables.items l.table moved) (b.log.items ++ entry_by c.args.session c.args.statement (entry.Adopt l.table l.number) ∷ []) b.changes.items b.grown.items =
    λ i. with_parts b.marks (tables_are i) (log_is i) b.changes.items b.grown.items in
    let one = adopted told (cat_of b) c.args.session c.args.statement l c.requires.books.cat c.requires.may in
    (ap (λ (d : CatState). history told d) cat_is ∙ one.1, refl)
