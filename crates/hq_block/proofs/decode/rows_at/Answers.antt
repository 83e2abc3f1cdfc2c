use Rattle.std.proofs.lemmas.Result.{err_from_is_err_and}
use Rattle.hq_block.specs.Reading.{rows_at, with_front}
use Rattle.hq_block.proofs.Front.{kept_through}
use Rattle.hq_block.proofs.Rows.{goes_on, ends, is_done}
use Rattle.hq_block.proofs.decode.rows_at.Goals as goal

pub returns-in_err-rest-clause-read : goal.returns-in_err-rest-clause-read
returns-in_err-rest-clause-read c =
    let p = err_from_is_err_and c.from_residual.result c.from_residual.ensures.1 in
    rw (p.1, p.2) (ends c.in_err-rest.field-0.0 c.loop.rows.items c.args.kinds.now c.args.width c.args.count c.loop.counter c.loop.rest.now (with_front c.args.rows.now.items (rows_at c.args.kinds.now c.args.width c.args.count c.args.bytes.now)) c.loop-test.true c.in_err-rest.ensures.read c.loop.invariant.read)

pub loop-preserved : goal.loop-preserved
loop-preserved c = record {
  read = goes_on c.loop.rows.items c.push_row.new.rows.items c.args.kinds.now c.args.width c.args.count c.loop.counter c.loop.rest.now c.in_ok-rest.rest.now (with_front c.args.rows.now.items (rows_at c.args.kinds.now c.args.width c.args.count c.args.bytes.now)) c.loop-test.true c.in_ok-rest.ensures.read c.loop.invariant.read;
  kept = kept_through c.args.rows.now.items c.loop.rows.items c.push_row.new.rows.items c.loop.invariant.kept c.in_ok-rest.ensures.kept;
}

pub returns-clause-read : goal.returns-clause-read
returns-clause-read c = is_done c.loop.rows.items c.args.kinds.now c.args.width c.args.count c.loop.counter c.loop.rest.now (with_front c.args.rows.now.items (rows_at c.args.kinds.now c.args.width c.args.count c.args.bytes.now)) c.loop-test.false c.loop.invariant.read
