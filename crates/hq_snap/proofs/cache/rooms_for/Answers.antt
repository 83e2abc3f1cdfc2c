-- Of one table more there is room, or it is there.
use Rattle.std.proofs.Common.{◌≡◌, ℕ, ◌+◌, ◌<◌, ◌++◌, ◌∷◌, [], Bool, true, false, List, IsSome, length, length-append, arith, ap, subst, sym, ◌∙◌}
use Rattle.std.proofs.lemmas.Grind.{common_steps}
use Rattle.std.proofs.lemmas.List.{get_or_default}
use Rattle.hq_snap.specs.Snaps.{TableSnapState}
use Rattle.hq_snap.specs.Caches.{cached, snap_at, no_snap}
use Rattle.hq_snap.specs.Deltas.{room_at}
use Rattle.hq_snap.proofs.Elements.{pushed}
use Rattle.hq_snap.proofs.cache.rooms_for.Goals as goal

pub loop-i-preserved : goal.loop-i-preserved
loop-i-preserved g c =
    let i = c.loop-i.i in
    let delta = c.args.delta.now.items in
    let ts = c.args.tables.now.items in
    let ps = c.args.places.now.items in
    let x = c.in_ok-room_for.field-0 in
    let items : c.push.new.self.items ≡ c.loop-i.rooms.items ++ x ∷ [] = grind (arith, common_steps) in
    let lt : i < length delta = (let t = c.loop-i-test.true in let z = c.loop-i.auto.i-end in grind (arith, common_steps)) in
    let read : c.index.result.now ≡ snap_at delta i = c.index.ensures ∙ get_or_default delta i c.index.result.now no_snap lt in
    let tables : c.deref.result.now ≡ ts = (let v = c.deref.ensures.value in cc) in
    let places : c.deref-in-loop-i.result.now ≡ ps = (let v = c.deref-in-loop-i.ensures.value in cc) in
    let Q = λ (k : ℕ) (b : Bool). b ≡ false → IsSome (cached (snap_at delta k).table ts ps) in
    let here : Q i x = λ e. subst (λ t. IsSome (cached t ts ps)) (c.table.ensures ∙ ap (λ (s : TableSnapState). s.table) read)
    (subst (λ (xs : List TableSnapState). IsSome (cached c.table.result xs ps)) tables (subst (λ (qs : List ℕ). IsSome (cached c.table.result c.deref.result.now qs)) places (c.in_ok-room_for.ensures e))) in
    record {
      many = ap (λ (xs : List Bool). length xs) items ∙ length-append c.loop-i.rooms.items (x ∷ []) ∙ ap (λ k. k + 1) c.loop-i.invariant.many;
      there = λ k h. subst (λ (xs : List Bool). Q k (room_at xs k)) (sym items) (pushed Q true c.loop-i.rooms.items x i c.loop-i.invariant.many here c.loop-i.invariant.there k h);
    }
