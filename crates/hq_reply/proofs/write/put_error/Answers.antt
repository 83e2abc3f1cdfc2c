use Rattle.std.proofs.Common.{◌∷◌, [], ◌++◌, refl}
use Rattle.std.proofs.lemmas.Result.{err_from_is_err_and}
use Rattle.hq_reply.specs.Texts.{fault_text}
use Rattle.hq_reply.proofs.Putting.{puts_then, puts_stop, puts_then_stop}
use Rattle.hq_reply.proofs.write.put_error.Goals as goal

pub returns-in_err-put : goal.returns-in_err-put
returns-in_err-put g c =
    let failed = err_from_is_err_and c.from_residual.result c.from_residual.ensures.1 in
    puts_stop c.in_err-put.ensures failed.1 (fault_text c.args.fault ++ 10 ∷ []) refl

pub returns-in_err-put_fault : goal.returns-in_err-put_fault
returns-in_err-put_fault g c =
    let failed = err_from_is_err_and c.from_residual-in_err-put_fault.result c.from_residual-in_err-put_fault.ensures.1 in
    puts_then_stop c.in_ok-put.ensures c.in_err-put_fault.ensures failed.1 (10 ∷ []) refl

pub returns : goal.returns
returns g c = puts_then (puts_then c.in_ok-put.ensures c.in_ok-put_fault.ensures refl) c.put-2.ensures refl
