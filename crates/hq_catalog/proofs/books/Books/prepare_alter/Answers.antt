-- The names lead to the table, or there is none.
use Rattle.std.proofs.Common.{◌≡◌, ◌&&◌, ◌<◌, None, Some, Bool, List, ℕ, length, subst, sym, ap, arith}
use Rattle.std.proofs.lemmas.List.{length-map}
use Rattle.hq_history.specs.Deposits.{tables_left}
use Rattle.hq_catalog.specs.Files.{table_named}
use Rattle.hq_catalog.specs.State.{TableState, CatState}
use Rattle.hq_catalog.specs.History.{history}
use Rattle.hq_catalog.specs.Kept.{cat_of}
use Rattle.hq_catalog.proofs.Makes.{found_table}
use Rattle.hq_catalog.proofs.books.Books.prepare_alter.Goals as goal

pub prepare_column-requires : goal.prepare_column-requires
prepare_column-requires g c =
    let told : Bool = g.F.StoredFile.tells && g.Z.SealCopy.tells in
    let b = c.make_room.new.self in
    let kept = c.make_room.ensures.kept in
    let named = found_table told (cat_of b) b.names.keys c.args.table (Some c.in-Some.t) kept.cat kept.names (sym c.in-Some.ensures.index) in
    let made : c.in-Some.t < length b.tables.items = omega (arith, c.in-Some.ensures.within, ap (λ (l : List (List ℕ)). length l) kept.names, length-map b.tables.items (λ (t : TableState). t.def.name)) in
    (omega arith, (kept, (c.in_ok-make_room.ensures.room, (named, made))))

pub returns-clause-leads : goal.returns-clause-leads
returns-clause-leads g c =
    let told : Bool = g.F.StoredFile.tells && g.Z.SealCopy.tells in
    let b = c.make_room.new.self in
    let kept = c.make_room.ensures.kept in
    subst (λ (d : CatState). table_named c.args.table (tables_left (history told d)) ≡ None) c.make_room.ensures.same
    (found_table told (cat_of b) b.names.keys c.args.table None kept.cat kept.names (sym c.in-None.ensures.index))
