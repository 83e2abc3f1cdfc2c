-- The lanes are at home, and the log has one entry more.
use Rattle.std.proofs.Common.{◌≡◌, ◌&&◌, Bool, length, sym, ◌∙◌, arith}
use Rattle.hq_catalog.specs.Kept.{cat_of}
use Rattle.hq_catalog.proofs.Committed.{apart}
use Rattle.hq_catalog.proofs.Committing.{committed, names_stay, ready_all, some_owed}
use Rattle.hq_catalog.proofs.books.Books.commit.Goals as goal

pub commit_lanes-requires : goal.commit_lanes-requires
commit_lanes-requires g c =
    let b = c.args.self.now in
    let ls = c.args.lanes.items in
    let ok = c.requires.books.cat in
    let some = some_owed g.F.StoredFile.tells g.Z.SealCopy.tells (cat_of b) c.args.session ok ls c.requires.may in
    let ready = ready_all g.F.StoredFile.tells g.Z.SealCopy.tells (cat_of b) c.args.session ok ls c.requires.may in
    (omega arith, (omega (arith, some, c.requires.books.room, c.len-place.ensures, b.log.small), (ok.tables, (ready, (apart ls c.requires.may.once, c.requires.books.grown_room)))))

pub push_reserved-requires : goal.push_reserved-requires
push_reserved-requires g c =
    let some = some_owed g.F.StoredFile.tells g.Z.SealCopy.tells (cat_of c.args.self.now) c.args.session c.requires.books.cat c.args.lanes.items c.requires.may in
    omega (arith, some, c.requires.books.room)

pub returns-clause-kept : goal.returns-clause-kept
returns-clause-kept g c =
    let told : Bool = g.F.StoredFile.tells && g.Z.SealCopy.tells in
    let b = c.args.self.now in
    let all = c.commit_lanes.ensures in
    let place_is : c.len-place.result ≡ length b.log.items = omega (arith, c.len-place.ensures, b.log.ok.0) in
    let one = committed g.F.StoredFile.tells g.Z.SealCopy.tells (cat_of b) c.args.session c.requires.books.cat c.args.statement c.len-place.result c.args.lanes.items c.commit_lanes.new.tables.items c.push_reserved.new.self.items c.commit_lanes.new.grown.items
    c.requires.may all.well place_is all.taken c.push_reserved.ensures.items all.grown in
    record {
      cat = one.0;
      names = c.requires.books.names ∙ sym (names_stay told c.len-place.result c.args.lanes.items b.tables.items c.commit_lanes.new.tables.items all.taken);
      room = omega (arith, all.paid, c.requires.may.some, c.requires.books.room, c.push_reserved.ensures.len, c.push_reserved.ensures.capacity);
      grown_room = all.room;
    }

pub returns-clause-step : goal.returns-clause-step
returns-clause-step g c =
    let b = c.args.self.now in
    let all = c.commit_lanes.ensures in
    let place_is : c.len-place.result ≡ length b.log.items = omega (arith, c.len-place.ensures, b.log.ok.0) in
    let one = committed g.F.StoredFile.tells g.Z.SealCopy.tells (cat_of b) c.args.session c.requires.books.cat c.args.statement c.len-place.result c.args.lanes.items c.commit_lanes.new.tables.items c.push_reserved.new.self.items c.commit_lanes.new.grown.items
    c.requires.may all.well place_is all.taken c.push_reserved.ensures.items all.grown in
    one.1
