-- The first catalogue.
use Rattle.std.proofs.Common.{◌≡◌, ◌&&◌, Bool, true, List, [], length, map, subst, sym, ◌∙◌, ap, arith}
use Rattle.std.proofs.lemmas.List.{length-replicate}
use Rattle.hq_value.specs.declared.entry.Entry.{Entry}
use Rattle.hq_catalog.specs.declared.kept.Grown.{Grown}
use Rattle.hq_catalog.specs.State.{TableState, CatState}
use Rattle.hq_catalog.specs.Kept.{IsCatalogue, owed}
use Rattle.hq_catalog.proofs.Moves.{with_parts}
use Rattle.hq_catalog.proofs.Rooms.{first}
use Rattle.hq_catalog.proofs.catalogue.Catalogue.new.Goals as goal

pub invariant_of-result : goal.invariant_of-result
invariant_of-result g c =
    let told : Bool = g.F.StoredFile.tells && g.Z.SealCopy.tells in
    let marks = c.all_up-marks.result in
    let ts = c.new-tables.result in
    let log = c.new-log.result in
    let changes = c.new-changes.result in
    let grown = c.new-grown.result in
    let cat_is : with_parts marks ts.items log.items changes.items grown.items ≡ with_parts marks [] [] [] [] =
    λ i. with_parts marks (c.new-tables.ensures.items i) (c.new-log.ensures.items i) (c.new-changes.ensures.items i) (c.new-grown.ensures.items i) in
    let none : owed ts.items ≡ 0 = ap owed c.new-tables.ensures.items in
    record {
      cat = subst (λ (d : CatState). IsCatalogue told d) (sym cat_is) (first told c.args.nodes marks c.all_up-marks.ensures (ap (λ (l : List Bool). length l) c.all_up-marks.ensures ∙ length-replicate c.args.nodes true));
      names = c.new-names.ensures.empty ∙ sym (ap (λ (xs : List TableState). map (λ (x : TableState). x.def.name) xs) c.new-tables.ensures.items);
      room = omega (arith, none, log.ok.0, ap (λ (l : List Entry). length l) c.new-log.ensures.items);
      grown_room = omega (arith, none, grown.ok.0, ap (λ (l : List Grown). length l) c.new-grown.ensures.items);
    }
