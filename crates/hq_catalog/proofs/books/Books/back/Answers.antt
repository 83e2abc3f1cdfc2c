-- The lane is at home, and the log has one entry more.
use Rattle.std.proofs.Common.{◌≡◌, ◌&&◌, ◌++◌, ◌∷◌, [], Bool, List, map, slice_set, refl, subst, sym, ◌∙◌, ap, arith}
use Rattle.hq_value.specs.declared.entry.EntryKind.TheVariants as entry
use Rattle.hq_log.specs.Places.{is_out, passes_at}
use Rattle.hq_lane.specs.Lanes.{are_clean}
use Rattle.hq_pool.specs.Slots as slots
use Rattle.hq_catalog.specs.State.{TableState, CatState, table_in}
use Rattle.hq_catalog.specs.History.{history}
use Rattle.hq_catalog.specs.Kept.{IsCatalogue, cat_of, home_slot, owed}
use Rattle.hq_catalog.proofs.Backs.{comes_back, backed}
use Rattle.hq_catalog.proofs.Moves.{with_parts, with_slot, entry_by}
use Rattle.hq_catalog.proofs.Parts.{read_table, home_pays, names_moved, pays}
use Rattle.hq_catalog.proofs.books.Books.back.Goals as goal

pub index_mut-requires : goal.index_mut-requires
index_mut-requires g c =
    let told : Bool = g.F.StoredFile.tells && g.Z.SealCopy.tells in
    let b = c.args.self.now in
    let at = comes_back told (cat_of b) c.args.session c.args.lane c.requires.books.cat c.requires.may.held in
    omega (arith, at.made, b.tables.ok.0, c.table-table.ensures)

pub back-clean-requires : goal.back-clean-requires
back-clean-requires g c =
    let told : Bool = g.F.StoredFile.tells && g.Z.SealCopy.tells in
    let b = c.args.self.now in
    let at = comes_back told (cat_of b) c.args.session c.args.lane c.requires.books.cat c.requires.may.held in
    let read = read_table b.tables.items c.table-table.result c.args.lane.table c.index_mut.result.now c.index_mut.ensures.value c.table-table.ensures at.made in
    (omega arith, ap (λ (z : TableState). passes_at is_out (slots.places z.slots) c.args.lane.number) read ∙ at.out)

pub push_reserved-requires : goal.push_reserved-requires
push_reserved-requires g c =
    let told : Bool = g.F.StoredFile.tells && g.Z.SealCopy.tells in
    let b = c.args.self.now in
    let at = comes_back told (cat_of b) c.args.session c.args.lane c.requires.books.cat c.requires.may.held in
    let pay = pays b.tables.items c.args.lane.table c.args.lane.number (home_slot c.args.lane) at.made at.within (omega (arith, at.owes, home_pays c.args.lane)) in
    omega (arith, pay, c.requires.books.room)

pub returns-clause-kept : goal.returns-clause-kept
returns-clause-kept g c =
    let told : Bool = g.F.StoredFile.tells && g.Z.SealCopy.tells in
    let b = c.args.self.now in
    let l = c.args.lane in
    let at = comes_back told (cat_of b) c.args.session l c.requires.books.cat c.requires.may.held in
    let read = read_table b.tables.items c.table-table.result l.table c.index_mut.result.now c.index_mut.ensures.value c.table-table.ensures at.made in
    let moved : TableState = with_slot (table_in b.tables.items l.table) l.number (home_slot l) in
    let y_is : c.back-clean.new.self ≡ moved = c.back-clean.ensures.home ∙ ap (λ (z : TableState). with_slot z l.number (home_slot l)) read in
    let tables_are : slice_set b.tables.items c.table-table.result c.back-clean.new.self ≡ slice_set b.tables.items l.table moved = λ i. slice_set b.tables.items (c.table-table.ensures i) (y_is i) in
    let log_is : c.push_reserved.new.self.items ≡ b.log.items ++ entry_by c.args.session c.args.statement (entry.Back l.table l.number (are_clean l.files)) ∷ [] =
    c.push_reserved.ensures.items ∙ (λ i. b.log.items ++ entry_by c.args.session c.args.statement (entry.Back (c.table-table.ensures i) (c.number-number.ensures i) (c.back-clean.ensures.clean i)) ∷ []) in
    let cat_is : with_parts b.marks (slice_set b.tables.items c.table-table.result c.back-clean.new.self) c.push_reserved.new.self.items b.changes.items b.grown.items
    ≡ with_parts b.marks (slice_set b.tables.items l.table moved) (b.log.items ++ entry_by c.args.session c.args.statement (entry.Back l.table l.number (are_clean l.files)) ∷ []) b.changes.items b.grown.items =
    λ i. with_parts b.marks (tables_are i) (log_is i) b.changes.items b.grown.items in
    let one = backed told (cat_of b) c.args.session c.args.statement l c.requires.books.cat c.requires.may in
    let pay = pays b.tables.items l.table l.number (home_slot l) at.made at.within (omega (arith, at.owes, home_pays l)) in
    let same : owed (slice_set b.tables.items c.table-table.result c.back-clean.new.self) ≡ owed (slice_set b.tables.items l.table moved) = ap owed tables_are in
    record {
      cat = subst (λ (d : CatState). IsCatalogue told d) (sym cat_is) one.0;
      names = c.requires.books.names ∙ sym (names_moved b.tables.items l.table moved refl) ∙ ap (λ (ts : List TableState). map (λ (t : TableState). t.def.name) ts) (sym tables_are);
      room = omega (arith, pay, same, c.requires.books.room, c.push_reserved.ensures.len, c.push_reserved.ensures.capacity);
      grown_room = omega (arith, pay, same, c.requires.books.grown_room);
    }

pub returns-clause-step : goal.returns-clause-step
returns-clause-step g c =
    let told : Bool = g.F.StoredFile.tells && g.Z.SealCopy.tells in
    let b = c.args.self.now in
    let l = c.args.lane in
    let at = comes_back told (cat_of b) c.args.session l c.requires.books.cat c.requires.may.held in
    let read = read_table b.tables.items c.table-table.result l.table c.index_mut.result.now c.index_mut.ensures.value c.table-table.ensures at.made in
    let moved : TableState = with_slot (table_in b.tables.items l.table) l.number (home_slot l) in
    let y_is : c.back-clean.new.self ≡ moved = c.back-clean.ensures.home ∙ ap (λ (z : TableState). with_slot z l.number (home_slot l)) read in
    let tables_are : slice_set b.tables.items c.table-table.result c.back-clean.new.self ≡ slice_set b.tables.items l.table moved = λ i. slice_set b.tables.items (c.table-table.ensures i) (y_is i) in
    let log_is : c.push_reserved.new.self.items ≡ b.log.items ++ entry_by c.args.session c.args.statement (entry.Back l.table l.number (are_clean l.files)) ∷ [] =
    c.push_reserved.ensures.items ∙ (λ i. b.log.items ++ entry_by c.args.session c.args.statement (entry.Back (c.table-table.ensures i) (c.number-number.ensures i) (c.back-clean.ensures.clean i)) ∷ []) in
    let cat_is : with_parts b.marks (slice_set b.tables.items c.table-table.result c.back-clean.new.self) c.push_reserved.new.self.items b.changes.items b.grown.items
    ≡ with_parts b.marks (slice_set b.tables.items l.table moved) (b.log.items ++ entry_by c.args.session c.args.statement (entry.Back l.table l.number (are_clean l.files)) ∷ []) b.changes.items b.grown.items =
    λ i. with_parts b.marks (tables_are i) (log_is i) b.changes.items b.grown.items in
    let one = backed told (cat_of b) c.args.session c.args.statement l c.requires.books.cat c.requires.may in
    ap (λ (d : CatState). history told d) cat_is ∙ one.1
