-- One table is merged.
use Rattle.std.proofs.Common.{◌≡◌, ℕ, Some, None, position, ap, sym, ◌∙◌, subst, List, ◌++◌, ◌∷◌, []}
use Rattle.hq_snap.specs.Snaps.{TableSnapState}
use Rattle.hq_snap.specs.Caches.{is_table, cached, IsMerged}
use Rattle.hq_snap.proofs.Cached.{merged_found, others_found, merged_new, cached_push_other, room_new}
use Rattle.hq_snap.proofs.cache.merge_one.Goals as goal

pub returns-in-Some-clause-merged : goal.returns-in-Some-clause-merged
returns-in-Some-clause-merged g c =
    let ts = c.args.tables.now.items in
    let items : c.deref.result.now ≡ ts = (let v = c.deref.ensures.value in cc) in
    let pos : position (is_table c.args.newest.table) ts ≡ Some c.in-Some.i =
    sym (c.in-Some.ensures ∙ ap (λ t. position (is_table t) c.deref.result.now) c.table.ensures ∙ ap (position (is_table c.args.newest.table)) items) in
    merged_found c.args.at c.in-Some.i ts c.args.places.now.items c.args.newest c.index_mut.result.now c.merge.new.self pos c.requires.same c.index_mut.ensures.value c.merge.ensures.table c.merge.ensures.def c.merge.ensures.seals

pub returns-in-Some-clause-others : goal.returns-in-Some-clause-others
returns-in-Some-clause-others g c =
    let ts = c.args.tables.now.items in
    let items : c.deref.result.now ≡ ts = (let v = c.deref.ensures.value in cc) in
    let pos : position (is_table c.args.newest.table) ts ≡ Some c.in-Some.i =
    sym (c.in-Some.ensures ∙ ap (λ t. position (is_table t) c.deref.result.now) c.table.ensures ∙ ap (position (is_table c.args.newest.table)) items) in
    others_found c.args.at c.in-Some.i ts c.args.places.now.items c.args.newest c.index_mut.result.now c.merge.new.self pos c.requires.same c.index_mut.ensures.value c.merge.ensures.table

-- there is room, since the table is not there
pub new-requires : goal.new-requires
new-requires g c =
    let ts = c.args.tables.now.items in
    let items : c.deref.result.now ≡ ts = (let v = c.deref.ensures.value in cc) in
    let pos : position (is_table c.args.newest.table) ts ≡ None =
    sym (c.in-None.ensures ∙ ap (λ t. position (is_table t) c.deref.result.now) c.table.ensures ∙ ap (position (is_table c.args.newest.table)) items) in
    room_new c.args.room c.args.newest.table ts c.args.places.now.items c.requires.there pos

pub returns-in-None-clause-merged : goal.returns-in-None-clause-merged
returns-in-None-clause-merged g c =
    let ts = c.args.tables.now.items in
    let ps = c.args.places.now.items in
    let items : c.deref.result.now ≡ ts = (let v = c.deref.ensures.value in cc) in
    let pos : position (is_table c.args.newest.table) ts ≡ None =
    sym (c.in-None.ensures ∙ ap (λ t. position (is_table t) c.deref.result.now) c.table.ensures ∙ ap (position (is_table c.args.newest.table)) items) in
    let P = λ (xs : List TableSnapState) (qs : List ℕ). IsMerged c.args.at c.args.newest (cached c.args.newest.table ts ps) (cached c.args.newest.table xs qs) in
    subst (λ xs. P xs c.push_place.new.places.items) (sym c.push_snap.ensures.items)
    (subst (P (ts ++ c.new.result ∷ [])) (sym c.push_place.ensures.items)
    (merged_new c.args.at ts ps c.args.newest c.new.result pos c.requires.same c.new.ensures.table c.new.ensures.def c.new.ensures.seals))

pub returns-in-None-clause-others : goal.returns-in-None-clause-others
returns-in-None-clause-others g c = λ t d.
    let ts = c.args.tables.now.items in
    let ps = c.args.places.now.items in
    (λ i. cached t (c.push_snap.ensures.items i) (c.push_place.ensures.items i)) ∙ cached_push_other t c.args.newest.table d ts ps c.new.result c.args.at c.requires.same c.new.ensures.table
