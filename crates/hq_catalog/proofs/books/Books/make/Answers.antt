-- The table is there, and the log has one entry more.
use Rattle.std.proofs.Common.{◌≡◌, ◌&&◌, ◌++◌, ◌∷◌, [], Bool, List, length, map, subst, sym, ◌∙◌, ap, arith}
use Rattle.hq_value.specs.declared.entry.EntryKind.TheVariants as entry
use Rattle.hq_value.specs.Tables.{Definition}
use Rattle.hq_history.specs.Deposits.{is_new, tables_left}
use Rattle.hq_catalog.specs.declared.kept.Change.TheVariants as change
use Rattle.hq_catalog.specs.State.{TableState, CatState}
use Rattle.hq_catalog.specs.History.{history}
use Rattle.hq_catalog.specs.Kept.{IsCatalogue, cat_of}
use Rattle.hq_catalog.proofs.Moves.{with_parts, entry_by}
use Rattle.hq_catalog.proofs.Makes.{IsNew, made, names_pushed, tables_count}
use Rattle.hq_catalog.proofs.Rooms.{owed_few}
use Rattle.hq_catalog.proofs.books.Books.make.Goals as goal

pub returns-clause-kept : goal.returns-clause-kept
returns-clause-kept g c =
    let told : Bool = g.F.StoredFile.tells && g.Z.SealCopy.tells in
    let b = c.args.self.now in
    let k = c.args.session in
    let m = c.args.statement in
    let x = c.args.table in
    let def = c.args.def in
    let fits = c.requires.fits in
    let place_is : c.len-place.result ≡ length b.log.items = omega (arith, c.len-place.ensures, b.log.ok.0) in
    let new : IsNew (length b.tables.items) def x = record { has_number = fits.made.has_number; has_def = fits.made.has_def; slots = fits.made.slots; seals = fits.made.seals; changed = fits.made.changed } in
    let one = made told (cat_of b) k m def x c.requires.books.cat new fits.may in
    let ts = c.push_reserved.new.self.items in
    let log = c.push_reserved-3.new.self.items in
    let changes = c.push_reserved-2.new.self.items in
    let changes_are : changes ≡ b.changes.items ++ change.Made (length b.log.items) def ∷ [] = c.push_reserved-2.ensures.items ∙ (λ i. b.changes.items ++ change.Made (place_is i) def ∷ []) in
    let cat_is : with_parts b.marks ts log changes b.grown.items
    ≡ with_parts b.marks (b.tables.items ++ x ∷ []) (b.log.items ++ entry_by k m entry.Create ∷ []) (b.changes.items ++ change.Made (length b.log.items) def ∷ []) b.grown.items =
    λ i. with_parts b.marks (c.push_reserved.ensures.items i) (c.push_reserved-3.ensures.items i) (changes_are i) b.grown.items in
    let new_cat : IsCatalogue told (with_parts b.marks ts log changes b.grown.items) = subst (λ (d : CatState). IsCatalogue told d) (sym cat_is) one.0 in
    let few = owed_few told (with_parts b.marks ts log changes b.grown.items) new_cat in
    record {
      cat = new_cat;
      names = names_pushed told (cat_of b) b.names.keys c.push_name.new.names.keys c.args.name x c.requires.books.cat c.requires.books.names (ap (λ n. is_new n (tables_left (history told (cat_of b)))) fits.name_is ∙ fits.may.new_name)
          (ap (λ (d : Definition). d.name) fits.made.has_def ∙ sym fits.name_is) c.push_name.ensures
          ∙ ap (λ (xs : List TableState). map (λ (t : TableState). t.def.name) xs) (sym c.push_reserved.ensures.items);
      room = omega (arith, few, fits.room.entries, c.push_reserved-3.ensures.len, c.push_reserved-3.ensures.capacity);
      grown_room = omega (arith, few, fits.room.growths);
    }

pub returns-clause-noted : goal.returns-clause-noted
returns-clause-noted g c =
    let told : Bool = g.F.StoredFile.tells && g.Z.SealCopy.tells in
    let b = c.args.self.now in
    let k = c.args.session in
    let m = c.args.statement in
    let x = c.args.table in
    let def = c.args.def in
    let fits = c.requires.fits in
    let place_is : c.len-place.result ≡ length b.log.items = omega (arith, c.len-place.ensures, b.log.ok.0) in
    let new : IsNew (length b.tables.items) def x = record { has_number = fits.made.has_number; has_def = fits.made.has_def; slots = fits.made.slots; seals = fits.made.seals; changed = fits.made.changed } in
    let one = made told (cat_of b) k m def x c.requires.books.cat new fits.may in
    let changes_are : c.push_reserved-2.new.self.items ≡ b.changes.items ++ change.Made (length b.log.items) def ∷ [] = c.push_reserved-2.ensures.items ∙ (λ i. b.changes.items ++ change.Made (place_is i) def ∷ []) in
    let cat_is : with_parts b.marks c.push_reserved.new.self.items c.push_reserved-3.new.self.items c.push_reserved-2.new.self.items b.grown.items
    ≡ with_parts b.marks (b.tables.items ++ x ∷ []) (b.log.items ++ entry_by k m entry.Create ∷ []) (b.changes.items ++ change.Made (length b.log.items) def ∷ []) b.grown.items =
    λ i. with_parts b.marks (c.push_reserved.ensures.items i) (c.push_reserved-3.ensures.items i) (changes_are i) b.grown.items in
    ap (λ (d : CatState). history told d) cat_is ∙ one.1

pub returns-clause-step : goal.returns-clause-step
returns-clause-step g c =
    let told : Bool = g.F.StoredFile.tells && g.Z.SealCopy.tells in
    let b = c.args.self.now in
    let number_is : c.len-number.result ≡ length b.tables.items = omega (arith, c.len-number.ensures, b.tables.ok.0) in (
      returns-clause-noted g c,
      number_is ∙ sym (tables_count told (cat_of b) c.requires.books.cat),
      c.requires.fits.may,
    )
