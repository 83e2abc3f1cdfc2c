-- The table lends what is next, and the log has one entry more.
use Rattle.std.proofs.Common.{◌≡◌, ◌&&◌, ◌<◌, ◌++◌, ◌∷◌, [], Bool, List, length, map, slice_set, refl, subst, sym, ◌∙◌, ap, arith}
use Rattle.hq_log.specs.Legal.{HasNoLane}
use Rattle.hq_history.specs.declared.noted.Noted.{Noted}
use Rattle.hq_history.specs.declared.noted.Deposit.TheVariants.{Nothing}
use Rattle.hq_pool.specs.Lends as pools
use Rattle.hq_catalog.specs.declared.ask.Answer.{Answer}
use Rattle.hq_catalog.specs.Asks.{MayLend}
use Rattle.hq_catalog.specs.State.{TableState, CatState, table_in}
use Rattle.hq_catalog.specs.History.{history}
use Rattle.hq_catalog.specs.CatStep.{noted, LendStep}
use Rattle.hq_catalog.specs.Kept.{IsCatalogue, HasRoom, answer_of, cat_of}
use Rattle.hq_catalog.proofs.History.{history-entries}
use Rattle.hq_catalog.proofs.Lends.{lend}
use Rattle.hq_catalog.proofs.Moves.{with_parts, entry_by}
use Rattle.hq_catalog.proofs.Parts.{made_in, names_moved, read_table}
use Rattle.hq_catalog.proofs.Plans.{never_lent}
use Rattle.hq_catalog.proofs.Rooms.{owed_few}
use Rattle.hq_catalog.proofs.books.Books.lend.Goals as goal

pub returns-clause-kept : goal.returns-clause-kept
returns-clause-kept g c =
    let told : Bool = g.F.StoredFile.tells && g.Z.SealCopy.tells in
    let b = c.args.self.now in
    let kept = c.requires.books in
    let t = c.args.table in
    let x = c.index_mut.result.now in
    let y = c.lend-lent.new.self in
    let a = c.lend-lent.result in
    let room : HasRoom b = c.requires.room in
    let may : MayLend c.args.session (history told (cat_of b)) t = c.requires.may in
    let made : t < length b.tables.items = made_in told (cat_of b) t kept.cat may.made in
    let none : HasNoLane b.log.items c.args.session t = subst (λ es. HasNoLane es c.args.session t) (history-entries told (cat_of b)) may.no_lane in
    let read = read_table b.tables.items t t x c.index_mut.ensures.value refl made in
    let lends = subst (λ (z : TableState). pools.LendsTo c.args.session z.slots a y.slots) read c.lend-lent.ensures.lent in
    let r = lend g.row.F.Denot g.row.Z.Denot told (length b.marks) (cat_of b) c.args.session c.args.statement t y.slots a kept.cat made none lends in
    let moved : TableState = record (table_in b.tables.items t) { slots = y.slots } in
    let y_is : y ≡ moved = c.lend-lent.ensures.same ∙ ap (λ (z : TableState). record z { slots = y.slots }) read in
    let log_is : c.push_reserved.new.self.items ≡ b.log.items ++ entry_by c.args.session c.args.statement (pools.entry_of t a) ∷ [] =
    c.push_reserved.ensures.items ∙ (λ i. b.log.items ++ entry_by c.args.session c.args.statement (c.kind_of-kind.ensures i) ∷ []) in
    let cat_is : with_parts b.marks (slice_set b.tables.items t y) c.push_reserved.new.self.items b.changes.items b.grown.items
    ≡ with_parts b.marks (slice_set b.tables.items t moved) (b.log.items ++ entry_by c.args.session c.args.statement (pools.entry_of t a) ∷ []) b.changes.items b.grown.items =
    λ i. with_parts b.marks (slice_set b.tables.items t (y_is i)) (log_is i) b.changes.items b.grown.items in
    let new_cat : IsCatalogue told (with_parts b.marks (slice_set b.tables.items t y) c.push_reserved.new.self.items b.changes.items b.grown.items) = subst (λ (d : CatState). IsCatalogue told d) (sym cat_is) r.0.0 in
    let few = owed_few told (with_parts b.marks (slice_set b.tables.items t y) c.push_reserved.new.self.items b.changes.items b.grown.items) new_cat in
    record {
      cat = new_cat;
      names = kept.names ∙ sym (names_moved b.tables.items t moved refl) ∙ ap (λ (z : TableState). map (λ (s : TableState). s.def.name) (slice_set b.tables.items t z)) (sym y_is);
      room = omega (arith, few, room.entries, c.push_reserved.ensures.len, c.push_reserved.ensures.capacity);
      grown_room = omega (arith, few, room.growths);
    }

pub returns-clause-step : goal.returns-clause-step
returns-clause-step g c =
    let told : Bool = g.F.StoredFile.tells && g.Z.SealCopy.tells in
    let b = c.args.self.now in
    let kept = c.requires.books in
    let t = c.args.table in
    let x = c.index_mut.result.now in
    let y = c.lend-lent.new.self in
    let a = c.lend-lent.result in
    let nodes = length c.args.self.now.marks in
    let may : MayLend c.args.session (history told (cat_of b)) t = c.requires.may in
    let made : t < length b.tables.items = made_in told (cat_of b) t kept.cat may.made in
    let none : HasNoLane b.log.items c.args.session t = subst (λ es. HasNoLane es c.args.session t) (history-entries told (cat_of b)) may.no_lane in
    let read = read_table b.tables.items t t x c.index_mut.ensures.value refl made in
    let lends = subst (λ (z : TableState). pools.LendsTo c.args.session z.slots a y.slots) read c.lend-lent.ensures.lent in
    let r = lend g.row.F.Denot g.row.Z.Denot told nodes (cat_of b) c.args.session c.args.statement t y.slots a kept.cat made none lends in
    let moved : TableState = record (table_in b.tables.items t) { slots = y.slots } in
    let y_is : y ≡ moved = c.lend-lent.ensures.same ∙ ap (λ (z : TableState). record z { slots = y.slots }) read in
    let log_is : c.push_reserved.new.self.items ≡ b.log.items ++ entry_by c.args.session c.args.statement (pools.entry_of t a) ∷ [] =
    c.push_reserved.ensures.items ∙ (λ i. b.log.items ++ entry_by c.args.session c.args.statement (c.kind_of-kind.ensures i) ∷ []) in
    let new : CatState = with_parts b.marks (slice_set b.tables.items t y) c.push_reserved.new.self.items b.changes.items b.grown.items in
    let cat_is : with_parts b.marks (slice_set b.tables.items t y) c.push_reserved.new.self.items b.changes.items b.grown.items
    ≡ with_parts b.marks (slice_set b.tables.items t moved) (b.log.items ++ entry_by c.args.session c.args.statement (pools.entry_of t a) ∷ []) b.changes.items b.grown.items =
    λ i. with_parts b.marks (slice_set b.tables.items t (y_is i)) (log_is i) b.changes.items b.grown.items in
    let P = λ (old next : List Noted) (r : Answer g.row.F.Denot g.row.Z.Denot). LendStep {F = g.row.F.Denot} {Z = g.row.Z.Denot} told nodes c.args.session c.args.statement old next t r in
    let ans : Answer g.row.F.Denot g.row.Z.Denot = answer_of {F = g.row.F.Denot} {Z = g.row.Z.Denot} t a in
    let grew : history told (cat_of b) ++ noted c.args.session c.args.statement (pools.entry_of t a) Nothing ∷ [] ≡ history told new = sym (ap (λ (d : CatState). history told d) cat_is ∙ r.0.1) in
    let one : P (history told (cat_of b)) (history told new) ans = subst (λ (next : List Noted). P (history told (cat_of b)) next ans) grew r.1 in
    let two : P (history told (cat_of c.args.self.now)) (history told new) ans = one in
    subst (λ (r : Answer g.row.F.Denot g.row.Z.Denot). P (history told (cat_of c.args.self.now)) (history told new) r) (sym c.answer_for.ensures) two

pub returns-clause-never : goal.returns-clause-never
returns-clause-never g c = λ e. never_lent {F = g.row.F.Denot} {Z = g.row.Z.Denot} c.args.table c.lend-lent.result (sym c.answer_for.ensures ∙ e)
