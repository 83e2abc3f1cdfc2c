use Rattle.std.proofs.Common.{◌∙◌, List, ℕ, Option, sym, ap, subst}
use Rattle.std.proofs.lemmas.Result.{err_from_is_err_and}
use Rattle.hq_value.specs.declared.value.Value.{Value}
use Rattle.hq_block.specs.Row.{bitmap_length}
use Rattle.hq_block.specs.Reading.{Fails, with_front, alone}
use Rattle.hq_block.proofs.Narrow.{narrow}
use Rattle.hq_block.proofs.read.push_row.Goals as goal

pub returns-in_ok-push_row_of_one-in-1-clause-read : goal.returns-in_ok-push_row_of_one-in-1-clause-read
returns-in_ok-push_row_of_one-in-1-clause-read c =
    ap (λ (read : Option (List Value × List ℕ)). with_front c.args.rows.now.items (alone read)) (sym (narrow c.args.kinds.now c.args.width c.args.bytes.now c.if-kinds-width.false (ap bitmap_length c.in-1.is))) ∙ c.in_ok-push_row_of_one-in-1.ensures.read

pub returns-in_err-push_row_of_one-in-1-clause-read : goal.returns-in_err-push_row_of_one-in-1-clause-read
returns-in_err-push_row_of_one-in-1-clause-read c =
    let p = err_from_is_err_and c.from_residual.result c.from_residual.ensures.1 in
    rw (p.1, p.2) (subst (λ (read : Option (List Value × List ℕ)). Fails c.in_err-push_row_of_one-in-1.field-0.0 (with_front c.args.rows.now.items (alone read))) (narrow c.args.kinds.now c.args.width c.args.bytes.now c.if-kinds-width.false (ap bitmap_length c.in-1.is)) c.in_err-push_row_of_one-in-1.ensures.read)

pub returns-in_ok-push_row_of_two-in-2-clause-read : goal.returns-in_ok-push_row_of_two-in-2-clause-read
returns-in_ok-push_row_of_two-in-2-clause-read c =
    ap (λ (read : Option (List Value × List ℕ)). with_front c.args.rows.now.items (alone read)) (sym (narrow c.args.kinds.now c.args.width c.args.bytes.now c.if-kinds-width.false (ap bitmap_length c.in-2.is))) ∙ c.in_ok-push_row_of_two-in-2.ensures.read

pub returns-in_err-push_row_of_two-in-2-clause-read : goal.returns-in_err-push_row_of_two-in-2-clause-read
returns-in_err-push_row_of_two-in-2-clause-read c =
    let p = err_from_is_err_and c.from_residual-in_err-push_row_of_two-in-2.result c.from_residual-in_err-push_row_of_two-in-2.ensures.1 in
    rw (p.1, p.2) (subst (λ (read : Option (List Value × List ℕ)). Fails c.in_err-push_row_of_two-in-2.field-0.0 (with_front c.args.rows.now.items (alone read))) (narrow c.args.kinds.now c.args.width c.args.bytes.now c.if-kinds-width.false (ap bitmap_length c.in-2.is)) c.in_err-push_row_of_two-in-2.ensures.read)

pub returns-in_ok-push_row_of_three-in-3-clause-read : goal.returns-in_ok-push_row_of_three-in-3-clause-read
returns-in_ok-push_row_of_three-in-3-clause-read c =
    ap (λ (read : Option (List Value × List ℕ)). with_front c.args.rows.now.items (alone read)) (sym (narrow c.args.kinds.now c.args.width c.args.bytes.now c.if-kinds-width.false (ap bitmap_length c.in-3.is))) ∙ c.in_ok-push_row_of_three-in-3.ensures.read

pub returns-in_err-push_row_of_three-in-3-clause-read : goal.returns-in_err-push_row_of_three-in-3-clause-read
returns-in_err-push_row_of_three-in-3-clause-read c =
    let p = err_from_is_err_and c.from_residual-in_err-push_row_of_three-in-3.result c.from_residual-in_err-push_row_of_three-in-3.ensures.1 in
    rw (p.1, p.2) (subst (λ (read : Option (List Value × List ℕ)). Fails c.in_err-push_row_of_three-in-3.field-0.0 (with_front c.args.rows.now.items (alone read))) (narrow c.args.kinds.now c.args.width c.args.bytes.now c.if-kinds-width.false (ap bitmap_length c.in-3.is)) c.in_err-push_row_of_three-in-3.ensures.read)
