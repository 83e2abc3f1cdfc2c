use Rattle.std.proofs.Common.{◌+◌, ◌<◌, [], length, arith, ap}
use Rattle.hq_block.specs.Row.{row_length}
use Rattle.hq_block.proofs.Written.{body-more, body-take}
use Rattle.hq_block.proofs.encode.body_length.Goals as goal

pub returns-then-size-room-clause-none : goal.returns-then-size-room-clause-none
returns-then-size-room-clause-none c =
    let rows = c.args.rows.now in
    let i = c.loop-i.i in
    let below : i < length rows = omega (arith, c.loop-i-test.true, c.len-i-end.ensures) in
    omega (arith, c.if-size-room.true, c.loop-i.invariant.so_far, c.row_length-size.ensures.length, ap row_length c.get.ensures, body-more rows i [] below, body-take rows (i + 1))
