-- One lane more comes home.
use Rattle.std.proofs.Common.{◌≡◌, ◌+◌, ◌≤◌, ◌&&◌, Bool, List, slice_set, sym, ◌∙◌, ap, subst, arith}
use Rattle.hq_log.specs.Places.{is_out, passes_at}
use Rattle.hq_pool.specs.Slots as slots
use Rattle.hq_catalog.specs.Commits.{Begins, IsTaken}
use Rattle.hq_catalog.specs.Kept.{IsTable, owed}
use Rattle.hq_catalog.specs.State.{TableState, table_in}
use Rattle.hq_catalog.proofs.Committing.{IsUnderWay, goes_on, next_ready, starts}
use Rattle.hq_catalog.proofs.Parts.{read_table}
use Rattle.hq_catalog.proofs.Taken.{owed_one, paid_one}
use Rattle.hq_catalog.proofs.commits.commit_lanes.Goals as goal

pub loop-lane-init : goal.loop-lane-init
loop-lane-init g c = record {
  way = starts g.F.StoredFile.tells g.Z.SealCopy.tells c.args.place c.args.lanes.items c.reverse.new.self.items c.args.tables.now.items c.args.grown.now.items c.reverse.ensures.items c.requires.tables;
  room = c.requires.room;
}

pub index_mut-requires : goal.index_mut-requires
index_mut-requires g c =
    let ts = c.loop-lane.tables in
    let ready = next_ready g.F.StoredFile.tells g.Z.SealCopy.tells c.args.place c.args.lanes.items c.loop-lane.left.items c.pop.new.self.items c.in-Some.lane c.args.tables.now.items ts.items c.args.grown.now.items c.loop-lane.grown.items
    c.loop-lane.invariant.way c.in-Some.ensures.items c.requires.apart c.requires.ready c.requires.tables in
    omega (arith, ready.made, ts.ok.0, c.table-table.ensures)

pub commit-requires : goal.commit-requires
commit-requires g c =
    let told : Bool = g.F.StoredFile.tells && g.Z.SealCopy.tells in
    let ts = c.loop-lane.tables.items in
    let l = c.in-Some.lane in
    let way = c.loop-lane.invariant.way in
    let ready = next_ready g.F.StoredFile.tells g.Z.SealCopy.tells c.args.place c.args.lanes.items c.loop-lane.left.items c.pop.new.self.items l c.args.tables.now.items ts c.args.grown.now.items c.loop-lane.grown.items
    way c.in-Some.ensures.items c.requires.apart c.requires.ready c.requires.tables in
    let read : c.index_mut.result.now ≡ table_in ts l.table = read_table ts c.table-table.result l.table c.index_mut.result.now c.index_mut.ensures.value c.table-table.ensures ready.made in
    let some = owed_one g.F.StoredFile.tells g.Z.SealCopy.tells ts l ready in (
      omega arith,
      (
        c.requires.behind,
        (
          subst (IsTable told l.table) (sym read) (way.taken.tables l.table ready.made),
          (
            ap (λ (z : TableState). passes_at is_out (slots.places z.slots) l.number) read ∙ ready.out,
            (subst (λ (z : TableState). Begins told z.seals l) (sym read) ready.begins, (ready.sealed, omega (arith, some, c.loop-lane.invariant.room))),
          ),
        ),
      ),
    )

pub loop-lane-preserved : goal.loop-lane-preserved
loop-lane-preserved g c =
    let told : Bool = g.F.StoredFile.tells && g.Z.SealCopy.tells in
    let ts = c.loop-lane.tables.items in
    let l = c.in-Some.lane in
    let m = c.args.place in
    let y = c.commit.new.self in
    let way = c.loop-lane.invariant.way in
    let ready = next_ready g.F.StoredFile.tells g.Z.SealCopy.tells m c.args.lanes.items c.loop-lane.left.items c.pop.new.self.items l c.args.tables.now.items ts c.args.grown.now.items c.loop-lane.grown.items
    way c.in-Some.ensures.items c.requires.apart c.requires.ready c.requires.tables in
    let read : c.index_mut.result.now ≡ table_in ts l.table = read_table ts c.table-table.result l.table c.index_mut.result.now c.index_mut.ensures.value c.table-table.ensures ready.made in
    let taken : IsTaken told m l (table_in ts l.table) y = subst (λ (z : TableState). IsTaken told m l z y) read c.commit.ensures.taken in
    let next : List TableState = slice_set ts l.table y in
    let next_is : next ≡ slice_set ts c.table-table.result y = ap (λ t. slice_set ts t y) (sym c.table-table.ensures) in
    let pays : owed next + 1 ≤ owed ts = paid_one ts l.table l.number y taken.home ready.made ready.out taken.slots in
    record {
      way = subst (λ (now : List TableState). IsUnderWay g.F.StoredFile.tells g.Z.SealCopy.tells m c.args.lanes.items c.pop.new.self.items c.args.tables.now.items now c.args.grown.now.items c.commit.new.grown.items) next_is
          (goes_on g.F.StoredFile.tells g.Z.SealCopy.tells m c.args.lanes.items c.loop-lane.left.items c.pop.new.self.items l c.args.tables.now.items ts c.args.grown.now.items c.loop-lane.grown.items
          way c.in-Some.ensures.items c.requires.apart y c.commit.new.grown.items ready taken c.commit.ensures.well c.commit.ensures.grown);
      room = omega (arith, pays, ap owed next_is, c.loop-lane.invariant.room, c.commit.ensures.grown_len, c.commit.ensures.grown_room);
    }
