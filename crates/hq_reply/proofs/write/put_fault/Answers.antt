use Rattle.std.proofs.Common.{◌++◌, refl, sym, ◌∙◌, append_assoc}
use Rattle.std.proofs.lemmas.Result.{err_from_is_err_and}
use Rattle.hq_reply.specs.Texts.{node_text}
use Rattle.hq_reply.proofs.Putting.{puts_then, puts_stop, puts_then_stop}
use Rattle.hq_reply.proofs.write.put_fault.Goals as goal

pub returns-in_err-put : goal.returns-in_err-put
returns-in_err-put g c =
    let failed = err_from_is_err_and c.from_residual.result c.from_residual.ensures.1 in
    let worded = c.wording-wording.result in
    puts_stop c.in_err-put.ensures failed.1 (node_text worded.node ++ worded.after.now)
    (sym (append_assoc worded.before.now (node_text worded.node) worded.after.now) ∙ c.wording-wording.ensures.text)

pub returns-in_err-put_node : goal.returns-in_err-put_node
returns-in_err-put_node g c =
    let failed = err_from_is_err_and c.from_residual-in_err-put_node.result c.from_residual-in_err-put_node.ensures.1 in
    puts_then_stop c.in_ok-put.ensures c.in_err-put_node.ensures failed.1 c.wording-wording.result.after.now c.wording-wording.ensures.text

pub returns : goal.returns
returns g c = puts_then (puts_then c.in_ok-put.ensures c.in_ok-put_node.ensures refl) c.put-2.ensures c.wording-wording.ensures.text
