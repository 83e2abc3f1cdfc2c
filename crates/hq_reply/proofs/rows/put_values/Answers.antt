use Rattle.std.proofs.Common.{◌≡◌, ◌<◌, List, [], ◌∷◌, ◌++◌, length, get_or, drop, flat_map, ap, ◌∙◌, arith}
use Rattle.std.proofs.lemmas.List.{take_rest}
use Rattle.std.proofs.lemmas.Result.{err_from_is_err_and}
use Rattle.hq_value.specs.declared.value.Value.{Value}
use Rattle.hq_reply.specs.Texts.{value_text, behind_bar, row_text}
use Rattle.hq_reply.proofs.Putting.{puts_then, puts_stop}
use Rattle.hq_reply.proofs.rows.put_values.Goals as goal

-- the first value, and those behind it
row_text-first : (row : List Value) (first : Value) → 0 < length row → first ≡ get_or row 0 first → value_text first ++ flat_map behind_bar (drop 1 row) ≡ row_text row
row_text-first [] first some is = absurd (omega arith)
row_text-first (x ∷ xs) first some is = ap (λ value. value_text value ++ flat_map behind_bar xs) is

pub returns-in_err-put_value-in-len1-up : goal.returns-in_err-put_value-in-len1-up
returns-in_err-put_value-in-len1-up g c =
    let failed = err_from_is_err_and c.from_residual.result c.from_residual.ensures.1 in
    puts_stop c.in_err-put_value-in-len1-up.ensures failed.1 (flat_map behind_bar (drop 1 c.args.values.now))
    (row_text-first c.args.values.now c.first-item.result (omega arith) c.first-item.is)

pub returns-in_ok-put_value-in-len1-up : goal.returns-in_ok-put_value-in-len1-up
returns-in_ok-put_value-in-len1-up g c =
    puts_then c.in_ok-put_value-in-len1-up.ensures c.put_further_values.ensures
    (ap (λ further. value_text c.first-item.result ++ flat_map behind_bar further) (take_rest c.args.values.now 1)
    ∙ row_text-first c.args.values.now c.first-item.result (omega arith) c.first-item.is)
