-- The lane's parts are written and put together again.
use Rattle.std.proofs.Common.{◌≡◌, ◌<◌, ℕ, length, vec_len, slice_index, arith, ap, subst, sym}
use Rattle.std.proofs.lemmas.Result.{on_ok_weaker}
use Rattle.hq_lane.specs.Lanes.{LaneState, file_of, part_at, file_in, AreWhole}
use Rattle.hq_txn.specs.Each.{At}
use Rattle.hq_txn.specs.InUse.{HasAnswered}
use Rattle.hq_txn.specs.Shares.{share_in}
use Rattle.hq_txn.specs.Parts.{IsUsed, WritesPart}
use Rattle.hq_txn.proofs.Counting.{in_use-below}
use Rattle.hq_txn.proofs.Growing.{begun-none}
use Rattle.hq_txn.proofs.Joining.{whole-part, used-in_use, in_use-used, file-written, file-begun, file-whole}
use Rattle.hq_txn.proofs.write.write_shares.Goals as goal

pub part-requires : goal.part-requires
part-requires g c = (omega arith, (omega arith, λ b within. omega (arith, c.owners-owner.ensures.there b within, c.owners-owner.ensures.few)))

pub write_parts-end-requires-after_bounds : goal.write_parts-end-requires-after_bounds
write_parts-end-requires-after_bounds g c κs within =
    let are = c.in-Ok.ensures.parts in (
      omega arith,
      (
        omega (arith, c.requires.nodes, c.owners-owner.ensures.few, are.sixteen),
        (
          omega (arith, c.requires.nodes, c.owners-owner.ensures.few),
          (
            c.requires.some_kinds,
            (
              c.requires.few_kinds,
              (
                c.requires.shares,
                (
                  c.requires.fit,
                  λ n h. whole-part c.args.lane c.owners-owner.result c.in-Ok.parts.items are c.requires.whole n (omega (arith, h, are.sixteen)),
                ),
              ),
            ),
          ),
        ),
      ),
    )

pub returns-in-Err-clause-begun : goal.returns-in-Err-clause-begun
returns-in-Err-clause-begun g c = λ b within. begun-none g.F.StoredFile.tells c.args.kinds.now (share_in c.args.shares.now b) (file_of c.args.lane.files b) (file_of c.in-Err.lane.files b) (ap (λ (l : LaneState). file_of l.files b) c.in-Err.ensures.back)

pub whole-requires : goal.whole-requires
whole-requires g c =
    let lane = c.args.lane in
    let owner = c.owners-owner.result in
    let parts = c.in-Ok.parts.items in
    let new = c.write_parts-end.new.parts.items in
    let are = c.in-Ok.ensures.parts in
    let marks = c.args.marks.now in
    let is = c.owners-owner.ensures.owner in
    let below : (b : ℕ) → b < 16 → slice_index owner b < 16 = λ b within. omega (arith, c.owners-owner.ensures.there b within, c.owners-owner.ensures.few) in
    (omega arith, (omega arith, c.parts_make_a_lane.ensures.one lane owner parts new below are c.write_parts-end.ensures.heads))

pub returns-in-Ok-clause-table : goal.returns-in-Ok-clause-table
returns-in-Ok-clause-table g c =
    let lane = c.args.lane in
    let owner = c.owners-owner.result in
    let parts = c.in-Ok.parts.items in
    let new = c.write_parts-end.new.parts.items in
    let are = c.in-Ok.ensures.parts in
    let marks = c.args.marks.now in
    let is = c.owners-owner.ensures.owner in
    let below : (b : ℕ) → b < 16 → slice_index owner b < 16 = λ b within. omega (arith, c.owners-owner.ensures.there b within, c.owners-owner.ensures.few) in
    (c.parts_make_a_lane.ensures.table lane c.whole.result owner parts new are c.write_parts-end.ensures.heads c.whole.ensures).0

pub returns-in-Ok-clause-number : goal.returns-in-Ok-clause-number
returns-in-Ok-clause-number g c =
    let lane = c.args.lane in
    let owner = c.owners-owner.result in
    let parts = c.in-Ok.parts.items in
    let new = c.write_parts-end.new.parts.items in
    let are = c.in-Ok.ensures.parts in
    let marks = c.args.marks.now in
    let is = c.owners-owner.ensures.owner in
    let below : (b : ℕ) → b < 16 → slice_index owner b < 16 = λ b within. omega (arith, c.owners-owner.ensures.there b within, c.owners-owner.ensures.few) in
    (c.parts_make_a_lane.ensures.table lane c.whole.result owner parts new are c.write_parts-end.ensures.heads c.whole.ensures).1

pub returns-in-Ok-clause-written : goal.returns-in-Ok-clause-written
returns-in-Ok-clause-written g c =
    let lane = c.args.lane in
    let owner = c.owners-owner.result in
    let parts = c.in-Ok.parts.items in
    let new = c.write_parts-end.new.parts.items in
    let are = c.in-Ok.ensures.parts in
    let marks = c.args.marks.now in
    let is = c.owners-owner.ensures.owner in
    let below : (b : ℕ) → b < 16 → slice_index owner b < 16 = λ b within. omega (arith, c.owners-owner.ensures.there b within, c.owners-owner.ensures.few) in
    let back : (b : ℕ) → b < 16 → file_of c.whole.result.files b ≡ file_in new (slice_index owner b) b = c.parts_make_a_lane.ensures.places lane c.whole.result owner parts new below are c.write_parts-end.ensures.heads c.whole.ensures in
    on_ok_weaker c.write_parts-end.result
    (λ (wrote : (n : ℕ) → n < vec_len c.args.benches.now → WritesPart g.F.StoredFile.tells c.args.kinds.now (share_in c.args.shares.now) (part_at parts n) (part_at new n)) b within.
    file-written lane owner parts are new c.whole.result g.F.StoredFile.tells c.args.kinds.now (share_in c.args.shares.now) below back b within (wrote (slice_index owner b) (omega (arith, c.owners-owner.ensures.there b within, c.requires.nodes))))
    c.write_parts-end.ensures.written

pub returns-in-Ok-clause-begun : goal.returns-in-Ok-clause-begun
returns-in-Ok-clause-begun g c =
    let lane = c.args.lane in
    let owner = c.owners-owner.result in
    let parts = c.in-Ok.parts.items in
    let new = c.write_parts-end.new.parts.items in
    let are = c.in-Ok.ensures.parts in
    let marks = c.args.marks.now in
    let is = c.owners-owner.ensures.owner in
    let below : (b : ℕ) → b < 16 → slice_index owner b < 16 = λ b within. omega (arith, c.owners-owner.ensures.there b within, c.owners-owner.ensures.few) in
    let back : (b : ℕ) → b < 16 → file_of c.whole.result.files b ≡ file_in new (slice_index owner b) b = c.parts_make_a_lane.ensures.places lane c.whole.result owner parts new below are c.write_parts-end.ensures.heads c.whole.ensures in
    λ b within. file-begun lane owner parts are new c.whole.result g.F.StoredFile.tells c.args.kinds.now (share_in c.args.shares.now) below back b within (c.write_parts-end.ensures.begun (slice_index owner b))

pub returns-in-Ok-clause-unused : goal.returns-in-Ok-clause-unused
returns-in-Ok-clause-unused g c =
    let lane = c.args.lane in
    let owner = c.owners-owner.result in
    let parts = c.in-Ok.parts.items in
    let new = c.write_parts-end.new.parts.items in
    let are = c.in-Ok.ensures.parts in
    let marks = c.args.marks.now in
    let is = c.owners-owner.ensures.owner in
    let below : (b : ℕ) → b < 16 → slice_index owner b < 16 = λ b within. omega (arith, c.owners-owner.ensures.there b within, c.owners-owner.ensures.few) in
    λ n within none d. c.write_parts-end.ensures.unused n within (λ used. none (used-in_use lane owner parts are marks is n (omega (arith, within, c.requires.nodes, c.owners-owner.ensures.few)) used)) d

pub returns-in-Ok-clause-answered : goal.returns-in-Ok-clause-answered
returns-in-Ok-clause-answered g c =
    let lane = c.args.lane in
    let owner = c.owners-owner.result in
    let parts = c.in-Ok.parts.items in
    let new = c.write_parts-end.new.parts.items in
    let are = c.in-Ok.ensures.parts in
    let marks = c.args.marks.now in
    let is = c.owners-owner.ensures.owner in
    let below : (b : ℕ) → b < 16 → slice_index owner b < 16 = λ b within. omega (arith, c.owners-owner.ensures.there b within, c.owners-owner.ensures.few) in
    on_ok_weaker c.write_parts-end.result
    (λ (fine : (n : ℕ) → n < length c.args.benches.now.items → IsUsed (part_at parts n) → At n c.args.benches.now.items c.write_parts-end.new.benches.items (λ a b. HasAnswered g.H.Host.checks g.H.Host.faults a.host b.host)) n used.
    fine n (omega (arith, in_use-below marks n c.requires.up used, c.requires.nodes)) (in_use-used lane owner parts are marks is below n used))
    c.write_parts-end.ensures.answered

pub returns-in-Ok-clause-host_cause : goal.returns-in-Ok-clause-host_cause
returns-in-Ok-clause-host_cause g c =
    let lane = c.args.lane in
    let owner = c.owners-owner.result in
    let parts = c.in-Ok.parts.items in
    let new = c.write_parts-end.new.parts.items in
    let are = c.in-Ok.ensures.parts in
    let marks = c.args.marks.now in
    let is = c.owners-owner.ensures.owner in
    let below : (b : ℕ) → b < 16 → slice_index owner b < 16 = λ b within. omega (arith, c.owners-owner.ensures.there b within, c.owners-owner.ensures.few) in
    λ n err.
    let failed = c.write_parts-end.ensures.host_cause n err in
    record {
      within = failed.within;
      is_used = used-in_use lane owner parts are marks is n (omega (arith, failed.within, c.requires.nodes, c.owners-owner.ensures.few)) failed.is_used;
      count_rose = failed.count_rose;
      lowest = λ k less used. failed.lowest k less (in_use-used lane owner parts are marks is below k used);
    }

pub returns-in-Ok-clause-store_cause : goal.returns-in-Ok-clause-store_cause
returns-in-Ok-clause-store_cause g c =
    let lane = c.args.lane in
    let owner = c.owners-owner.result in
    let parts = c.in-Ok.parts.items in
    let new = c.write_parts-end.new.parts.items in
    let are = c.in-Ok.ensures.parts in
    let marks = c.args.marks.now in
    let is = c.owners-owner.ensures.owner in
    let below : (b : ℕ) → b < 16 → slice_index owner b < 16 = λ b within. omega (arith, c.owners-owner.ensures.there b within, c.owners-owner.ensures.few) in
    λ err.
    let failed = c.write_parts-end.ensures.store_cause err in
    record {
      node = failed.node;
      within = failed.within;
      is_used = used-in_use lane owner parts are marks is failed.node (omega (arith, failed.within, c.requires.nodes, c.owners-owner.ensures.few)) failed.is_used;
      count_rose = failed.count_rose;
      lowest = λ k less used. failed.lowest k less (in_use-used lane owner parts are marks is below k used);
    }

pub returns-in-Err-clause-whole : goal.returns-in-Err-clause-whole
returns-in-Err-clause-whole g c = λ err. subst (λ (l : LaneState). AreWhole l.files) (sym c.in-Err.ensures.back) c.requires.whole

pub returns-in-Ok-clause-whole : goal.returns-in-Ok-clause-whole
returns-in-Ok-clause-whole g c =
    let lane = c.args.lane in
    let owner = c.owners-owner.result in
    let parts = c.in-Ok.parts.items in
    let new = c.write_parts-end.new.parts.items in
    let are = c.in-Ok.ensures.parts in
    let marks = c.args.marks.now in
    let is = c.owners-owner.ensures.owner in
    let below : (b : ℕ) → b < 16 → slice_index owner b < 16 = λ b within. omega (arith, c.owners-owner.ensures.there b within, c.owners-owner.ensures.few) in
    let back : (b : ℕ) → b < 16 → file_of c.whole.result.files b ≡ file_in new (slice_index owner b) b = c.parts_make_a_lane.ensures.places lane c.whole.result owner parts new below are c.write_parts-end.ensures.heads c.whole.ensures in
    λ err b within.
    file-whole lane owner parts are new c.whole.result g.F.StoredFile.tells c.args.kinds.now (share_in c.args.shares.now) below back c.write_parts-end.ensures.heads b within
    (c.write_parts-end.ensures.whole err (slice_index owner b) (omega (arith, c.owners-owner.ensures.there b within, c.requires.nodes)))

pub returns-in-Ok-clause-whole_before : goal.returns-in-Ok-clause-whole_before
returns-in-Ok-clause-whole_before g c =
    let lane = c.args.lane in
    let owner = c.owners-owner.result in
    let parts = c.in-Ok.parts.items in
    let new = c.write_parts-end.new.parts.items in
    let are = c.in-Ok.ensures.parts in
    let marks = c.args.marks.now in
    let is = c.owners-owner.ensures.owner in
    let below : (b : ℕ) → b < 16 → slice_index owner b < 16 = λ b within. omega (arith, c.owners-owner.ensures.there b within, c.owners-owner.ensures.few) in
    let back : (b : ℕ) → b < 16 → file_of c.whole.result.files b ≡ file_in new (slice_index owner b) b = c.parts_make_a_lane.ensures.places lane c.whole.result owner parts new below are c.write_parts-end.ensures.heads c.whole.ensures in
    λ n err b within less.
    file-whole lane owner parts are new c.whole.result g.F.StoredFile.tells c.args.kinds.now (share_in c.args.shares.now) below back c.write_parts-end.ensures.heads b within
    (c.write_parts-end.ensures.whole_before n err (slice_index owner b) (omega (arith, is b within, less)))
