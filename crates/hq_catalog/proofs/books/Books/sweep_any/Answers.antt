-- The first lane with a tail goes out, or there is none.
use Rattle.std.proofs.Common.{◌≡◌, ◌&&◌, ◌++◌, ◌∷◌, [], Bool, List, length, map, refl, subst, sym, ◌∙◌, ap, arith}
use Rattle.hq_value.specs.declared.entry.EntryKind.TheVariants as entry
use Rattle.hq_history.specs.declared.noted.Noted.{Noted}
use Rattle.hq_history.specs.declared.noted.Deposit.TheVariants.{Nothing}
use Rattle.hq_pool.specs.declared.slot.Slot.TheVariants as slot
use Rattle.hq_catalog.specs.declared.ask.Answer.TheVariants as answer
use Rattle.hq_catalog.specs.State.{TableState, CatState, table_in}
use Rattle.hq_catalog.specs.History.{history}
use Rattle.hq_catalog.specs.CatStep.{noted, SweepAnyStep}
use Rattle.hq_catalog.specs.Kept.{IsCatalogue, HasRoom, cat_of}
use Rattle.hq_catalog.proofs.Moves.{with_parts, with_slot, entry_by}
use Rattle.hq_catalog.proofs.Parts.{names_moved}
use Rattle.hq_catalog.proofs.Rooms.{owed_few}
use Rattle.hq_catalog.proofs.Sweeps.{none_dirty, none_dirty_told, swept}
use Rattle.hq_catalog.proofs.books.Books.sweep_any.Goals as goal

pub note-requires-clause-still : goal.note-requires-clause-still
note-requires-clause-still g c =
    let told : Bool = g.F.StoredFile.tells && g.Z.SealCopy.tells in
    none_dirty told (cat_of c.args.self.now) c.requires.books.cat c.in-None.ensures.1

pub returns-in-Some-clause-kept : goal.returns-in-Some-clause-kept
returns-in-Some-clause-kept g c =
    let told : Bool = g.F.StoredFile.tells && g.Z.SealCopy.tells in
    let b = c.args.self.now in
    let kept = c.requires.books in
    let l = c.in-Some.lane in
    let s = c.in-Some.ensures in
    let ts = c.sweep_first.new.tables.items in
    let room : HasRoom b = c.requires.room in
    let r = swept g.row.F.Denot g.row.Z.Denot told (length b.marks) (cat_of b) c.args.session c.args.statement l ts kept.cat s in
    let log_is : c.push_reserved.new.self.items ≡ b.log.items ++ entry_by c.args.session c.args.statement (entry.Sweep l.table l.number) ∷ [] =
    c.push_reserved.ensures.items ∙ (λ i. b.log.items ++ entry_by c.args.session c.args.statement (entry.Sweep (c.table-table.ensures i) (c.number-number.ensures i)) ∷ []) in
    let cat_is : with_parts b.marks ts c.push_reserved.new.self.items b.changes.items b.grown.items
    ≡ with_parts b.marks ts (b.log.items ++ entry_by c.args.session c.args.statement (entry.Sweep l.table l.number) ∷ []) b.changes.items b.grown.items =
    λ i. with_parts b.marks ts (log_is i) b.changes.items b.grown.items in
    let new_cat : IsCatalogue told (with_parts b.marks ts c.push_reserved.new.self.items b.changes.items b.grown.items) = subst (λ (d : CatState). IsCatalogue told d) (sym cat_is) r.0.0 in
    let few = owed_few told (with_parts b.marks ts c.push_reserved.new.self.items b.changes.items b.grown.items) new_cat in
    record {
      cat = new_cat;
      names = kept.names ∙ sym (ap (λ (xs : List TableState). map (λ (x : TableState). x.def.name) xs) s.after ∙ names_moved b.tables.items s.t (with_slot (table_in b.tables.items s.t) s.n (slot.Sweeping c.args.session)) refl);
      room = omega (arith, few, room.entries, c.push_reserved.ensures.len, c.push_reserved.ensures.capacity);
      grown_room = omega (arith, few, room.growths);
    }

pub returns-in-Some-clause-step : goal.returns-in-Some-clause-step
returns-in-Some-clause-step g c =
    let told : Bool = g.F.StoredFile.tells && g.Z.SealCopy.tells in
    let b = c.args.self.now in
    let kept = c.requires.books in
    let l = c.in-Some.lane in
    let ts = c.sweep_first.new.tables.items in
    let nodes = length c.args.self.now.marks in
    let r = swept g.row.F.Denot g.row.Z.Denot told nodes (cat_of b) c.args.session c.args.statement l ts kept.cat c.in-Some.ensures in
    let log_is : c.push_reserved.new.self.items ≡ b.log.items ++ entry_by c.args.session c.args.statement (entry.Sweep l.table l.number) ∷ [] =
    c.push_reserved.ensures.items ∙ (λ i. b.log.items ++ entry_by c.args.session c.args.statement (entry.Sweep (c.table-table.ensures i) (c.number-number.ensures i)) ∷ []) in
    let new : CatState = with_parts b.marks ts c.push_reserved.new.self.items b.changes.items b.grown.items in
    let cat_is : with_parts b.marks ts c.push_reserved.new.self.items b.changes.items b.grown.items
    ≡ with_parts b.marks ts (b.log.items ++ entry_by c.args.session c.args.statement (entry.Sweep l.table l.number) ∷ []) b.changes.items b.grown.items =
    λ i. with_parts b.marks ts (log_is i) b.changes.items b.grown.items in
    let P = λ (old next : List Noted). SweepAnyStep {F = g.row.F.Denot} {Z = g.row.Z.Denot} told nodes c.args.session c.args.statement old next (answer.Sweep l) in
    let grew : history told (cat_of b) ++ noted c.args.session c.args.statement (entry.Sweep l.table l.number) Nothing ∷ [] ≡ history told new = sym (ap (λ (d : CatState). history told d) cat_is ∙ r.0.1) in
    let one : P (history told (cat_of b)) (history told new) = subst (λ (next : List Noted). P (history told (cat_of b)) next) grew r.1 in
    one

pub returns-in-None-clause-step : goal.returns-in-None-clause-step
returns-in-None-clause-step g c =
    let told : Bool = g.F.StoredFile.tells && g.Z.SealCopy.tells in
    let b = c.args.self.now in
    let none = c.in-None.ensures in (
      c.note.ensures.noted
          ∙ ap (λ (xs : List TableState). history told (with_parts b.marks xs b.log.items b.changes.items b.grown.items) ++ noted c.args.session c.args.statement entry.Idle Nothing ∷ []) none.0,
      none_dirty_told told (cat_of b) c.requires.books.cat none.1,
    )
