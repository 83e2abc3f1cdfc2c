use Rattle.std.proofs.Common.{◌<◌, ◌≤◌, [], List, length, sym, subst, arith}
use Rattle.hq_value.specs.declared.value.Value.{Value}
use Rattle.hq_block.proofs.Lengths.{few_columns}
use Rattle.hq_block.proofs.encode.fitting.Goals as goal

pub row_length-requires : goal.row_length-requires
row_length-requires c =
    let below : c.loop-i.i < length c.args.rows.now = omega (arith, c.loop-i-test.true, c.len-i-end.ensures) in
    subst (λ (row : List Value). length row ≤ 64) (sym c.get.ensures) (few_columns c.args.kinds.now c.args.rows.now c.requires.few c.requires.fit c.loop-i.i [] below)
