-- The table has the column too, and the log has one entry more.
use Rattle.std.proofs.Common.{◌≡◌, ◌&&◌, ◌++◌, ◌∷◌, [], Bool, List, length, map, slice_set, refl, subst, sym, ◌∙◌, ap, arith}
use Rattle.hq_value.specs.declared.entry.EntryKind.TheVariants as entry
use Rattle.hq_value.specs.Tables.{Definition, column_refusal, with_column}
use Rattle.hq_catalog.specs.declared.kept.Change.TheVariants as change
use Rattle.hq_catalog.specs.State.{TableState, CatState, table_in}
use Rattle.hq_catalog.specs.History.{history}
use Rattle.hq_catalog.specs.Kept.{IsCatalogue, cat_of}
use Rattle.hq_catalog.proofs.Makes.{added, def_made}
use Rattle.hq_catalog.proofs.Moves.{with_parts, entry_by}
use Rattle.hq_catalog.proofs.Parts.{names_moved, read_table}
use Rattle.hq_catalog.proofs.Rooms.{owed_few}
use Rattle.hq_catalog.proofs.books.Books.add_column.Goals as goal

pub returns-clause-kept : goal.returns-clause-kept
returns-clause-kept g c =
    let told : Bool = g.F.StoredFile.tells && g.Z.SealCopy.tells in
    let b = c.args.self.now in
    let k = c.args.session in
    let m = c.args.statement in
    let t = c.args.table in
    let fits = c.requires.fits in
    let x = table_in b.tables.items t in
    let read = read_table b.tables.items t t c.index_mut.result.now c.index_mut.ensures.value refl fits.made in
    let moved : TableState = record x { def = with_column x.def c.args.column } in
    let y_is : c.define.new.self ≡ moved = c.define.ensures ∙ ap (λ (z : TableState). record z { def = c.args.def }) read ∙ ap (λ (d : Definition). record x { def = d }) fits.def_is in
    let place_is : c.len-place.result ≡ length b.log.items = omega (arith, c.len-place.ensures, b.log.ok.0) in
    let ts : List TableState = slice_set b.tables.items t c.define.new.self in
    let log = c.push_reserved-2.new.self.items in
    let changes = c.push_reserved.new.self.items in
    let changes_are : changes ≡ b.changes.items ++ change.Added (length b.log.items) t c.args.column ∷ [] = c.push_reserved.ensures.items ∙ (λ i. b.changes.items ++ change.Added (place_is i) t c.args.column ∷ []) in
    let one = added told (cat_of b) k m t c.args.column c.requires.books.cat fits.made fits.may in
    let cat_is : with_parts b.marks ts log changes b.grown.items
    ≡ with_parts b.marks (slice_set b.tables.items t moved) (b.log.items ++ entry_by k m entry.Alter ∷ []) (b.changes.items ++ change.Added (length b.log.items) t c.args.column ∷ []) b.grown.items =
    λ i. with_parts b.marks (slice_set b.tables.items t (y_is i)) (c.push_reserved-2.ensures.items i) (changes_are i) b.grown.items in
    let new_cat : IsCatalogue told (with_parts b.marks ts log changes b.grown.items) = subst (λ (d : CatState). IsCatalogue told d) (sym cat_is) one.0 in
    let few = owed_few told (with_parts b.marks ts log changes b.grown.items) new_cat in
    record {
      cat = new_cat;
      names = c.requires.books.names ∙ sym (names_moved b.tables.items t moved refl) ∙ ap (λ (z : TableState). map (λ (s : TableState). s.def.name) (slice_set b.tables.items t z)) (sym y_is);
      room = omega (arith, few, fits.room.entries, c.push_reserved-2.ensures.len, c.push_reserved-2.ensures.capacity);
      grown_room = omega (arith, few, fits.room.growths);
    }

pub returns-clause-noted : goal.returns-clause-noted
returns-clause-noted g c =
    let told : Bool = g.F.StoredFile.tells && g.Z.SealCopy.tells in
    let b = c.args.self.now in
    let k = c.args.session in
    let m = c.args.statement in
    let t = c.args.table in
    let fits = c.requires.fits in
    let x = table_in b.tables.items t in
    let read = read_table b.tables.items t t c.index_mut.result.now c.index_mut.ensures.value refl fits.made in
    let moved : TableState = record x { def = with_column x.def c.args.column } in
    let y_is : c.define.new.self ≡ moved = c.define.ensures ∙ ap (λ (z : TableState). record z { def = c.args.def }) read ∙ ap (λ (d : Definition). record x { def = d }) fits.def_is in
    let place_is : c.len-place.result ≡ length b.log.items = omega (arith, c.len-place.ensures, b.log.ok.0) in
    let ts : List TableState = slice_set b.tables.items t c.define.new.self in
    let log = c.push_reserved-2.new.self.items in
    let changes = c.push_reserved.new.self.items in
    let changes_are : changes ≡ b.changes.items ++ change.Added (length b.log.items) t c.args.column ∷ [] = c.push_reserved.ensures.items ∙ (λ i. b.changes.items ++ change.Added (place_is i) t c.args.column ∷ []) in
    let one = added told (cat_of b) k m t c.args.column c.requires.books.cat fits.made fits.may in
    let cat_is : with_parts b.marks ts log changes b.grown.items
    ≡ with_parts b.marks (slice_set b.tables.items t moved) (b.log.items ++ entry_by k m entry.Alter ∷ []) (b.changes.items ++ change.Added (length b.log.items) t c.args.column ∷ []) b.grown.items =
    λ i. with_parts b.marks (slice_set b.tables.items t (y_is i)) (c.push_reserved-2.ensures.items i) (changes_are i) b.grown.items in
    ap (λ (d : CatState). history told d) cat_is ∙ one.1

pub returns-clause-step : goal.returns-clause-step
returns-clause-step g c =
    let told : Bool = g.F.StoredFile.tells && g.Z.SealCopy.tells in
    let b = c.args.self.now in
    let t = c.args.table in
    let fits = c.requires.fits in
    λ name named. (
      returns-clause-noted g c,
      named,
      ap (λ (d : Definition). column_refusal d c.args.column) (def_made told (cat_of b) t c.requires.books.cat fits.made) ∙ fits.may,
    )
