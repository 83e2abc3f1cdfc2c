-- The lane is at home, and its seals are those of the table.
use Rattle.std.proofs.Common.{◌≡◌, ◌+◌, suc, List, arith, ap, slice_set}
use Rattle.hq_lane.specs.Lanes.{LaneState}
use Rattle.hq_pool.specs.declared.slot.Slot.{Slot}
use Rattle.hq_catalog.specs.State.{TableState}
use Rattle.hq_catalog.proofs.Taken.{lane_well, table_taken}
use Rattle.hq_catalog.proofs.table.Table.commit.Goals as goal

pub returns-clause-well : goal.returns-clause-well
returns-clause-well g c =
    let all = c.commit_files.ensures in
    lane_well g.F.StoredFile.tells g.Z.SealCopy.tells c.args.lane c.requires.sealed all.sixteen all.sound all.ids

pub returns-clause-taken : goal.returns-clause-taken
returns-clause-taken g c =
    let all = c.commit_files.ensures in
    let inside = c.self.inside in
    let m = c.args.place in
    let x : TableState = record { number = inside.number; def = inside.def; slots = inside.pool; seals = inside.seals.items; changed = inside.changed } in
    let y : List (Slot LaneState) → TableState = λ slots. record { number = inside.number; def = inside.def; slots = slots; seals = slice_set inside.seals.items c.number-n.result c.commit_files.new.seals; changed = c.commit_files.new.changed } in
    let behind : m + 1 ≡ suc m = omega arith in
    table_taken g.F.StoredFile.tells g.Z.SealCopy.tells m (m + 1) c.number-n.result c.args.lane c.commit_files.new.lane x c.args.self.now (y c.back_clean.new.self) c.index_mut.result.now c.commit_files.new.seals c.commit_files.new.changed
    c.self.view_is behind c.number-n.ensures c.index_mut.ensures.value (ap y c.back_clean.ensures.home) c.requires.table c.requires.out c.requires.begins c.requires.sealed all.sixteen all.sound all.committed
