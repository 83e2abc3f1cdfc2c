-- One bucket more.
use Rattle.std.proofs.Common.{◌∙◌, arith}
use Rattle.std.proofs.lemmas.Result.{err_from_is_err_and}
use Rattle.hq_value.proofs.Counting.{goes_on_more}
use Rattle.hq_txn.specs.Shares.{share_in}
use Rattle.hq_txn.proofs.Growing.{writes-more, begins-part, begins-all, whole-part-begun, whole-part-written}
use Rattle.hq_txn.proofs.task.write_part.Goals as goal

pub loop-bucket-preserved : goal.loop-bucket-preserved
loop-bucket-preserved g c =
    let old = c.args.part.now in
    let now = c.loop-bucket.part in
    let before = c.loop-bucket.invariant in
    let step = c.write_bucket.ensures in
    let i = c.loop-bucket.bucket in
    record {
      head = record { table = step.head.table ∙ before.head.table; number = step.head.number ∙ before.head.number; here = step.head.here ∙ before.head.here };
      written = writes-more g.F.StoredFile.tells c.args.kinds.now (share_in c.args.shares.now) old now c.write_bucket.new.part i before.head before.written before.rest step.others c.in_ok-write_bucket.ensures.written;
      rest = λ b behind. step.others b (λ e. omega (arith, behind, e)) ∙ before.rest b (omega (arith, behind));
      store = goes_on_more g.S.Store.faults g.S.Store.given g.S.Store.sound c.args.store.now c.loop-bucket.store c.write_bucket.new.store before.store step.store;
    }

pub returns-in_err-write_bucket-clause-begun : goal.returns-in_err-write_bucket-clause-begun
returns-in_err-write_bucket-clause-begun g c =
    let before = c.loop-bucket.invariant in
    begins-part g.F.StoredFile.tells c.args.kinds.now (share_in c.args.shares.now) c.args.part.now c.loop-bucket.part c.write_bucket.new.part c.loop-bucket.bucket
    before.head before.written before.rest c.write_bucket.ensures.others c.write_bucket.ensures.begun

pub returns-clause-begun : goal.returns-clause-begun
returns-clause-begun g c =
    begins-all g.F.StoredFile.tells c.args.kinds.now (share_in c.args.shares.now) c.args.part.now c.loop-bucket.part
    (λ b within owned. c.loop-bucket.invariant.written b (omega (arith, within)) owned)

pub returns-in_err-write_bucket-clause-not_torn : goal.returns-in_err-write_bucket-clause-not_torn
returns-in_err-write_bucket-clause-not_torn g c =
    let before = c.loop-bucket.invariant in
    let p = err_from_is_err_and c.from_residual.result c.from_residual.ensures.1 in
    rw (p.1, p.2) (λ err.
    whole-part-begun g.F.StoredFile.tells c.args.kinds.now (share_in c.args.shares.now) c.args.part.now c.loop-bucket.part c.write_bucket.new.part c.loop-bucket.bucket
    before.head c.write_bucket.ensures.head c.requires.whole before.written before.rest c.write_bucket.ensures.others (c.in_err-write_bucket.ensures.not_torn err))

pub returns-clause-whole : goal.returns-clause-whole
returns-clause-whole g c =
    whole-part-written g.F.StoredFile.tells c.args.kinds.now (share_in c.args.shares.now) c.args.part.now c.loop-bucket.part c.loop-bucket.invariant.head
    (λ b within owned. c.loop-bucket.invariant.written b (omega (arith, within)) owned)
