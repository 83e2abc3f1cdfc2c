-- As many bytes as a block says are one block, or begin none.
use Rattle.std.proofs.Common.{◌∙◌, List, ◌++◌, Err, length, drop, sym, ap}
use Rattle.std.proofs.lemmas.List.{take-append-drop}
use Rattle.hq_value.specs.declared.value.Value.{Value}
use Rattle.hq_lane.proofs.Fronts.{whole_block, whole_begin_none}
use Rattle.hq_lane.proofs.block.take_block.Goals as goal

pub returns-in-Ok-clause-taken : goal.returns-in-Ok-clause-taken
returns-in-Ok-clause-taken c =
    let old : List (List Value) = c.args.rows.now.items in
    let new : List (List Value) = c.decode_block_into.new.rows.items in
    record {
      found = drop (length old) new;
      block = whole_block c.args.kinds.now (drop (length old) new) c.in-Ok.field-0 c.args.bytes.now c.requires.says c.in-Ok.ensures.found;
      added = sym (take-append-drop (length old) new) ∙ ap (λ (l : List (List Value)). l ++ drop (length old) new) c.in-Ok.ensures.kept;
    }

pub returns-in-Err-NotABlock-clause-bad : goal.returns-in-Err-NotABlock-clause-bad
returns-in-Err-NotABlock-clause-bad c = λ _ more.
    whole_begin_none c.args.kinds.now c.args.bytes.now more c.requires.enough c.requires.says (c.in-Err-NotABlock.ensures.not_a_block (ap Err c.in-Err-NotABlock.field-0-is))
