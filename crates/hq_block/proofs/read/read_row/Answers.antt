use Rattle.std.proofs.Common.{◌≡◌, arith}
use Rattle.std.proofs.lemmas.Result.{err_from_is_err_and}
use Rattle.hq_block.specs.declared.fault.RowFault.TheVariants as fault
use Rattle.hq_block.specs.Fault.{row_fault}
use Rattle.hq_block.specs.Reading.{row_at}
use Rattle.hq_block.proofs.RowLaws.{no_row, rest_is_shorter, row_found, no_row_read}
use Rattle.hq_block.proofs.read.read_row.Goals as goal

pub returns-in_err-row-clause-not_a_row : goal.returns-in_err-row-clause-not_a_row
returns-in_err-row-clause-not_a_row c = λ e.
    let p = err_from_is_err_and c.from_residual.result c.from_residual.ensures.1 in
    let fails = rw c.as_slice.ensures at c.in_err-row.ensures in
    let same : row_fault c.in_err-row.field-0.0 ≡ fault.NotARow = cc (p.1, p.2, e) in
    no_row c.args.kinds.now c.args.bytes.now (no_row_read c.in_err-row.field-0.0 (row_at c.args.kinds.now c.args.bytes.now) same fails)

pub overflow_sub-result : goal.overflow_sub-result
overflow_sub-result c =
    rest_is_shorter c.as_slice.result.now c.in_ok-row.row c.args.bytes.now c.in_ok-row.rest.now (λ i. omega (arith, c.type_inv.bytes i)) c.in_ok-row.ensures

pub returns-clause-found : goal.returns-clause-found
returns-clause-found c =
    let read = rw c.as_slice.ensures at c.in_ok-row.ensures in
    row_found c.args.kinds.now c.in_ok-row.row c.args.bytes.now c.in_ok-row.rest.now (λ i. omega (arith, c.type_inv.bytes i)) read
