use Rattle.std.proofs.Common.{◌++◌, [], ap, sym, subst, ◌∙◌, append-nil}
use Rattle.hq_block.specs.Block.{FileRows}
use Rattle.hq_table.specs.Home.{seal_bytes}
use Rattle.hq_table.proofs.scan.scan_slot.Goals as goal

pub returns-in-None-clause-added : goal.returns-in-None-clause-added
returns-in-None-clause-added c = λ kept is.
    let kinds = c.args.kinds.now in
    let file : FileRows kinds [] kept = subst (λ slot. FileRows kinds (seal_bytes slot) kept) c.in-None.is is in
    sym (ap (λ rows. c.args.rows.now.items ++ rows) (c.files_have_their_rows.ensures kinds [] kept [] file (c.files_grow_by_blocks.ensures.empty kinds)) ∙ append-nil c.args.rows.now.items)
