use Rattle.std.proofs.Common.{◌∷◌, [], ◌++◌, decimal, refl, sym, append_assoc}
use Rattle.std.proofs.lemmas.Result.{err_from_is_err_and}
use Rattle.hq_reply.proofs.Putting.{puts_then, puts_stop, puts_then_stop}
use Rattle.hq_reply.proofs.write.put_counted.Goals as goal

pub returns-in_err-put : goal.returns-in_err-put
returns-in_err-put g c =
    let failed = err_from_is_err_and c.from_residual.result c.from_residual.ensures.1 in
    puts_stop c.in_err-put.ensures failed.1 (decimal c.args.count ++ 10 ∷ []) (sym (append_assoc c.args.word.now (decimal c.args.count) (10 ∷ [])))

pub returns-in_err-put_number : goal.returns-in_err-put_number
returns-in_err-put_number g c =
    let failed = err_from_is_err_and c.from_residual-in_err-put_number.result c.from_residual-in_err-put_number.ensures.1 in
    puts_then_stop c.in_ok-put.ensures c.in_err-put_number.ensures failed.1 (10 ∷ []) refl

pub returns : goal.returns
returns g c = puts_then (puts_then c.in_ok-put.ensures c.in_ok-put_number.ensures refl) c.put-2.ensures refl
