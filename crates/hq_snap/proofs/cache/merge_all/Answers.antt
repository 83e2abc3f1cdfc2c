-- One table more is merged.
use Rattle.std.proofs.Common.{◌≡◌, ◌+◌, ◌-◌, vec_len, IsSome, arith, Some, subst, sym, ◌∙◌}
use Rattle.std.proofs.lemmas.Grind.{common_steps}
use Rattle.hq_snap.specs.Caches.{CacheState, snap_at, no_snap}
use Rattle.hq_snap.proofs.Cached.{IsMergedBack, more_back, all_back, stays_there}
use Rattle.hq_snap.specs.Snaps.{TableSnapState}
use Rattle.hq_snap.specs.Caches.{cached}
use Rattle.hq_snap.specs.Deltas.{room_at}
use Rattle.hq_snap.proofs.cache.merge_all.Goals as goal

-- there is room for the table, or it is there
pub merge_one-requires-clause-there : goal.merge_one-requires-clause-there
merge_one-requires-clause-there g c =
    let all = c.args.delta.items in
    let was = c.loop-newest.delta in
    let now = c.pop.new.self in
    let ends : vec_len now + 1 ≡ vec_len was = c.in-Some.ensures.cases in
    let j = vec_len now in
    let got : Some c.in-Some.newest ≡ Some (snap_at was.items (vec_len was - 1)) = c.in-Some.ensures.value no_snap (omega arith) in
    let e : c.in-Some.newest ≡ snap_at all j = (let t = got in let l = c.loop-newest.invariant.left in grind (arith, common_steps)) in
    let rooms = c.loop-newest.rooms in
    let same : vec_len c.last_room-room.new.rooms ≡ j = omega (arith, ends, c.last_room-room.ensures.len, c.loop-newest.invariant.many_rooms) in
    let room : c.last_room-room.result ≡ room_at c.args.rooms.items j =
    (let r = c.last_room-room.ensures.room in let l = c.loop-newest.invariant.rooms_left in let m = c.loop-newest.invariant.many_rooms in grind (arith, common_steps)) in
    λ none. subst (λ (s : TableSnapState). IsSome (cached s.table c.loop-newest.tables.items c.loop-newest.places.items)) (sym e) (c.loop-newest.invariant.there j (omega (arith, ends)) (sym room ∙ none))

pub loop-newest-preserved : goal.loop-newest-preserved
loop-newest-preserved g c =
    let all = c.args.delta.items in
    let was = c.loop-newest.delta in
    let now = c.pop.new.self in
    let ends : vec_len now + 1 ≡ vec_len was = c.in-Some.ensures.cases in
    let j = vec_len now in
    let got : Some c.in-Some.newest ≡ Some (snap_at was.items (vec_len was - 1)) = c.in-Some.ensures.value no_snap (omega arith) in
    let e : c.in-Some.newest ≡ snap_at all j = (let t = got in let l = c.loop-newest.invariant.left in grind (arith, common_steps)) in
    let old : CacheState = record { tables = c.args.tables.now.items; places = c.args.places.now.items } in
    let mid : CacheState = record { tables = c.loop-newest.tables.items; places = c.loop-newest.places.items } in
    let new : CacheState = record { tables = c.merge_one.new.tables.items; places = c.merge_one.new.places.items } in
    let so = subst (IsMergedBack c.args.at all old mid) (sym ends) c.loop-newest.invariant.merged in
    record {
      same = c.merge_one.ensures.same;
      below = omega (arith, c.loop-newest.invariant.below);
      left = (let r = c.in-Some.ensures.rest in let l = c.loop-newest.invariant.left in grind (arith, common_steps));
      room = omega (arith, c.merge_one.ensures.len, c.merge_one.ensures.room, c.loop-newest.invariant.room);
      more_room = omega (arith, c.merge_one.ensures.len, c.merge_one.ensures.more_room, c.loop-newest.invariant.more_room, c.merge_one.ensures.same, c.loop-newest.invariant.same);
      many_rooms = omega (arith, ends, c.last_room-room.ensures.len, c.loop-newest.invariant.many_rooms);
      rooms_left = (let r = c.last_room-room.ensures.rest in let l = c.loop-newest.invariant.rooms_left in grind (arith, common_steps));
      there = λ i h r. stays_there c.args.at c.in-Some.newest mid new c.merge_one.ensures.merged c.merge_one.ensures.others (snap_at all i).table (c.loop-newest.invariant.there i (omega (arith, ends, h)) r);
      merged = more_back c.args.at all old mid new j c.in-Some.newest e (omega (arith, c.loop-newest.invariant.below)) so c.merge_one.ensures.merged c.merge_one.ensures.others;
    }

pub returns-clause-merged : goal.returns-clause-merged
returns-clause-merged g c =
    let all = c.args.delta.items in
    let old : CacheState = record { tables = c.args.tables.now.items; places = c.args.places.now.items } in
    let new : CacheState = record { tables = c.loop-newest.tables.items; places = c.loop-newest.places.items } in
    let none : vec_len c.loop-newest.delta ≡ 0 = c.in_default.ensures.cases.0 in
    all_back c.args.at all old new (subst (IsMergedBack c.args.at all old new) none c.loop-newest.invariant.merged)
