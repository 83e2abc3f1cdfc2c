use Rattle.std.proofs.Common.{◌≤◌, length, arith}
use Rattle.std.proofs.lemmas.List.Elements.{recursion_from_All}
use Rattle.hq_value.specs.Kinds.{Fits}
use Rattle.hq_block.specs.Block.{body_bytes, block_length}
use Rattle.hq_block.proofs.Lengths.{rows_below, few_columns}
use Rattle.hq_block.proofs.Written.{block_spelled}
use Rattle.hq_block.proofs.encode.encode_list.Goals as goal

pub body_length-requires-clause-few : goal.body_length-requires-clause-few
body_length-requires-clause-few c = few_columns c.args.kinds.now c.args.rows.now c.requires.few_kinds c.requires.fit

pub overflow_cast-head-3 : goal.overflow_cast-head-3
overflow_cast-head-3 c =
    let kinds = c.args.kinds.now in
    let rows = c.args.rows.now in
    let below : length rows ≤ length (body_bytes rows) = rows_below kinds rows c.requires.some_kinds (recursion_from_All (Fits kinds) rows c.requires.fit) in
    omega (arith, below, c.len-3.ensures, c.in-Some.ensures.size, c.in-Some.ensures.room)

pub returns-clause-spelled : goal.returns-clause-spelled
returns-clause-spelled c =
    let kinds = c.args.kinds.now in
    let rows = c.args.rows.now in
    let bounds = rw c.as_slice.ensures at c.written_length-bounds.ensures.length in
    let short : block_length kinds rows ≤ 65536 = omega (arith, bounds, c.in-Some.ensures.size, c.in-Some.ensures.room, c.written_length-bounds.ensures.short) in
    block_spelled kinds rows c.requires.some_kinds c.requires.few_kinds c.requires.some_rows c.in_ok-put_rows.ensures.storable short
