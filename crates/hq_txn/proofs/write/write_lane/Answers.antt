-- The rows of each bucket are its share of them.
use Rattle.std.proofs.Common.{◌≡◌, ◌∙◌, ◌<◌, ℕ, List, All, length, ap, sym, subst, arith}
use Rattle.std.proofs.lemmas.List.{length-map}
use Rattle.std.proofs.lemmas.Result.{on_ok_weaker}
use Rattle.std.specs.Borrow.{Bor}
use Rattle.hq_value.specs.declared.value.Value.{Value}
use Rattle.hq_value.specs.declared.kind.Kind.{Kind}
use Rattle.hq_value.specs.Bucket.{share}
use Rattle.hq_value.specs.Kinds.{Fits, kinds_of}
use Rattle.hq_lane.specs.Lanes.{LaneState, file_of, AreWhole}
use Rattle.hq_txn.specs.Shares.{share_in}
use Rattle.hq_txn.specs.Ends.{AreWholeBefore}
use Rattle.hq_txn.specs.Writes.{IsWritten}
use Rattle.hq_txn.proofs.Growing.{adds-none, lane-written, lane-begun}
use Rattle.hq_txn.proofs.Sharing.{All-share}
use Rattle.hq_txn.proofs.write.write_lane.Goals as goal

pub returns-in_default-clause-first : goal.returns-in_default-clause-first
returns-in_default-clause-first g c = adds-none g.F.StoredFile.tells c.args.def.now c.args.rows.now c.args.lane.now

pub returns-in_default-shares_of-clause-first : goal.returns-in_default-shares_of-clause-first
returns-in_default-shares_of-clause-first g c = adds-none g.F.StoredFile.tells c.args.def.now c.args.rows.now c.args.lane.now

pub write_shares-whole-requires-after_bounds : goal.write_shares-whole-requires-after_bounds
write_shares-whole-requires-after_bounds g c κs within =
    let kinds-are : c.in-Ok.kinds ≡ kinds_of c.args.def.now.columns = c.in-Ok.ensures ∙ ap kinds_of (c.as_slice.ensures ∙ c.columns.ensures.columns) in
    let shares-are : (b : ℕ) → share_in c.deref.result.now b ≡ share c.args.def.now.keys c.args.rows.now b = λ b. ap (λ (l : List (List (Bor (List Value)))). share_in l b) c.deref.ensures.value ∙ c.in-Ok-shares_of.ensures.shares b in
    let long : length c.in-Ok.kinds ≡ length c.args.def.now.columns = ap length kinds-are ∙ length-map c.args.def.now.columns (λ column. column.kind) in (
      omega arith,
      (
        subst (λ (l : LaneState). AreWhole l.files) (sym c.take_out-taken.ensures) c.requires.whole,
        (
          c.requires.up,
          (
            c.requires.nodes,
            (
              omega (arith, long, c.keeps_the_rules.ensures.some),
              (
                omega (arith, long, c.keeps_the_rules.ensures.few),
                (
                  ap length c.deref.ensures.value ∙ omega (arith, c.in-Ok-shares_of.ensures.count),
                  λ b bucket.
                      subst (λ (ks : List Kind). All (Fits ks) (share_in c.deref.result.now b)) (sym kinds-are)
                      (subst (All (Fits (kinds_of c.args.def.now.columns))) (sym (shares-are b)) (All-share (Fits (kinds_of c.args.def.now.columns)) c.args.def.now.keys 0 c.args.rows.now b c.requires.fit)),
                ),
              ),
            ),
          ),
        ),
      ),
    )

pub returns-clause-written : goal.returns-clause-written
returns-clause-written g c =
    let kinds = c.in-Ok.kinds in
    let shares = share_in c.deref.result.now in
    let taken = c.take_out-taken.result in
    let whole = c.write_shares-whole.result.0 in
    on_ok_weaker c.write_shares-whole.result.1
    (λ (wrote : (b : ℕ) → b < 16 → IsWritten g.F.StoredFile.tells kinds (shares b) (file_of taken.files b) (file_of whole.files b)).
    lane-written g.F.StoredFile.tells c.args.def.now c.args.rows.now kinds shares c.args.lane.now taken whole c.put_back.new.place
    (c.in-Ok.ensures ∙ ap kinds_of (c.as_slice.ensures ∙ c.columns.ensures.columns)) (λ b. ap (λ (l : List (List (Bor (List Value)))). share_in l b) c.deref.ensures.value ∙ c.in-Ok-shares_of.ensures.shares b)
    c.take_out-taken.ensures c.put_back.ensures c.write_shares-whole.ensures.table c.write_shares-whole.ensures.number wrote)
    c.write_shares-whole.ensures.written

pub returns-clause-first : goal.returns-clause-first
returns-clause-first g c =
    lane-begun g.F.StoredFile.tells c.args.def.now c.args.rows.now c.in-Ok.kinds (share_in c.deref.result.now) c.args.lane.now c.take_out-taken.result c.write_shares-whole.result.0 c.put_back.new.place
    (c.in-Ok.ensures ∙ ap kinds_of (c.as_slice.ensures ∙ c.columns.ensures.columns)) (λ b. ap (λ (l : List (List (Bor (List Value)))). share_in l b) c.deref.ensures.value ∙ c.in-Ok-shares_of.ensures.shares b)
    c.take_out-taken.ensures c.put_back.ensures c.write_shares-whole.ensures.table c.write_shares-whole.ensures.number c.write_shares-whole.ensures.begun

pub returns-clause-whole : goal.returns-clause-whole
returns-clause-whole g c = λ err. subst (λ (l : LaneState). AreWhole l.files) (sym c.put_back.ensures) (c.write_shares-whole.ensures.whole err)

pub returns-clause-whole_before : goal.returns-clause-whole_before
returns-clause-whole_before g c = λ n err. subst (λ (l : LaneState). AreWholeBefore c.args.marks.now l n) (sym c.put_back.ensures) (c.write_shares-whole.ensures.whole_before n err)
