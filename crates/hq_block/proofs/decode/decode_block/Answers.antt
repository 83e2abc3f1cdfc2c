use Rattle.std.proofs.lemmas.Result.{err_from_is_err_and}
use Rattle.hq_block.proofs.decode.decode_block.Goals as goal

pub returns-in_err-len-clause-not_a_block : goal.returns-in_err-len-clause-not_a_block
returns-in_err-len-clause-not_a_block c = λ e.
    let p = err_from_is_err_and c.from_residual.result c.from_residual.ensures.1 in
    c.in_err-len.ensures.not_a_block (cc (p.1, p.2, e))
