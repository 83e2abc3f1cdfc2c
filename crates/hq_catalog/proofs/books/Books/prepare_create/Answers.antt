-- The name is there, or there are 64 tables, or the table may be made.
use Rattle.std.proofs.Common.{◌≡◌, ◌&&◌, Bool, true, false, length, subst, sym, ◌∙◌, ap, arith}
use Rattle.std.specs.List.{list_any}
use Rattle.hq_value.specs.Tables.{same_names}
use Rattle.hq_history.specs.Deposits.{MayMake, is_new, tables_left}
use Rattle.hq_catalog.specs.State.{CatState}
use Rattle.hq_catalog.specs.History.{history}
use Rattle.hq_catalog.specs.Kept.{cat_of}
use Rattle.hq_catalog.proofs.Makes.{found_name, tables_count}
use Rattle.hq_catalog.proofs.books.Books.prepare_create.Goals as goal

pub returns-then-contains-clause-leads : goal.returns-then-contains-clause-leads
returns-then-contains-clause-leads g c =
    let told : Bool = g.F.StoredFile.tells && g.Z.SealCopy.tells in
    let b = c.make_room.new.self in
    let kept = c.make_room.ensures.kept in
    let name = c.args.def.name in
    let has : c.contains.result ≡ true = (let x = c.if-contains.true in cc) in
    let found : list_any (same_names name) b.names.keys ≡ true = ap (λ n. list_any (same_names n) b.names.keys) (sym c.name.ensures) ∙ sym c.contains.ensures ∙ has in
    subst (λ (d : CatState). is_new name (tables_left (history told d)) ≡ false) c.make_room.ensures.same (found_name told (cat_of b) b.names.keys name true kept.cat kept.names found)

pub returns-then-len-ge-TABLES-clause-leads : goal.returns-then-len-ge-TABLES-clause-leads
returns-then-len-ge-TABLES-clause-leads g c =
    let told : Bool = g.F.StoredFile.tells && g.Z.SealCopy.tells in
    let b = c.make_room.new.self in
    let kept = c.make_room.ensures.kept in
    let same = c.make_room.ensures.same in
    let name = c.args.def.name in
    let has : c.contains.result ≡ false = (let x = c.if-contains.false in cc) in
    let found : list_any (same_names name) b.names.keys ≡ false = ap (λ n. list_any (same_names n) b.names.keys) (sym c.name.ensures) ∙ sym c.contains.ensures ∙ has in
    let many : length (tables_left (history told (cat_of b))) ≡ 64 = omega (arith, tables_count told (cat_of b) kept.cat, kept.cat.few, c.len.ensures, b.tables.ok.0, c.if-len-ge-TABLES.true) in (
      subst (λ (d : CatState). is_new name (tables_left (history told d)) ≡ true) same (found_name told (cat_of b) b.names.keys name false kept.cat kept.names found),
      subst (λ (d : CatState). length (tables_left (history told d)) ≡ 64) same many,
    )

pub prepare_table-requires : goal.prepare_table-requires
prepare_table-requires g c =
    let told : Bool = g.F.StoredFile.tells && g.Z.SealCopy.tells in
    let b = c.make_room.new.self in
    let kept = c.make_room.ensures.kept in
    let name = c.args.def.name in
    let has : c.contains.result ≡ false = (let x = c.if-contains.false in cc) in
    let found : list_any (same_names name) b.names.keys ≡ false = ap (λ n. list_any (same_names n) b.names.keys) (sym c.name.ensures) ∙ sym c.contains.ensures ∙ has in
    let may : MayMake (tables_left (history told (cat_of b))) c.args.def = record {
      room = omega (arith, tables_count told (cat_of b) kept.cat, c.len.ensures, b.tables.ok.0, c.if-len-ge-TABLES.false);
      new_name = found_name told (cat_of b) b.names.keys name false kept.cat kept.names found;
      rules = c.keeps_the_rules.ensures;
    } in
    (omega arith, (kept, (c.in_ok-make_room.ensures.room, may)))
