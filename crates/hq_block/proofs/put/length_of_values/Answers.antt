use Rattle.std.proofs.Common.{◌+◌, List, length, ap, sym, ◌∙◌}
use Rattle.std.specs.Prelude.{flat_map}
use Rattle.std.proofs.lemmas.List.{take_all}
use Rattle.hq_value.specs.declared.value.Value.{Value}
use Rattle.hq_block.specs.Row.{bitmap_length, value_bytes}
use Rattle.hq_block.proofs.Lengths.{length-row_bytes}
use Rattle.hq_block.proofs.put.length_of_values.Goals as goal

pub returns-clause-length : goal.returns-clause-length
returns-clause-length c =
    let row = c.args.row.now in
    c.loop-value.invariant.so_far ∙ ap (λ (front : List Value). bitmap_length (length row) + length (flat_map value_bytes front)) (take_all c.loop-value.value-index row c.loop-value-test.false) ∙ sym (length-row_bytes row)
