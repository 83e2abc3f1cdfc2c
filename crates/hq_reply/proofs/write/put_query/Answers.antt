use Rattle.std.proofs.Common.{◌≡◌, ℕ, List, ◌++◌, length, decimal, flat_map, codes, ap, ◌∙◌, refl}
use Rattle.std.proofs.lemmas.Result.{err_from_is_err_and}
use Rattle.hq_value.specs.declared.value.Value.{Value}
use Rattle.hq_reply.specs.Texts.{line, row_line, rows_text}
use Rattle.hq_reply.proofs.Putting.{puts_then, puts_stop}
use Rattle.hq_reply.proofs.write.put_query.Goals as goal

-- what the parts read is what the rows are
rows_text-read : (read rows : List (List Value)) (count : ℕ) → read ≡ rows → count ≡ length rows → flat_map row_line read ++ line (codes "SELECT " ++ decimal count) ≡ rows_text rows
rows_text-read read rows count is counts =
    ap (λ it. flat_map row_line it ++ line (codes "SELECT " ++ decimal count)) is
    ∙ ap (λ n. flat_map row_line rows ++ line (codes "SELECT " ++ decimal n)) counts

pub returns-in_err-put_rows : goal.returns-in_err-put_rows
returns-in_err-put_rows g c =
    let failed = err_from_is_err_and c.from_residual.result c.from_residual.ensures.1 in
    puts_stop c.in_err-put_rows.ensures failed.1 (line (codes "SELECT " ++ decimal (length c.args.rows.now)))
    (rows_text-read c.as_slice.result.now c.args.rows.now (length c.args.rows.now) c.as_slice.ensures refl)

pub returns : goal.returns
returns g c = puts_then c.in_ok-put_rows.ensures c.put_counted.ensures
    (rows_text-read c.as_slice.result.now c.args.rows.now c.len.result c.as_slice.ensures c.len.ensures)
