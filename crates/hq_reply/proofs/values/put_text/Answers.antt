use Rattle.std.proofs.Common.{rules}
use Rattle.std.proofs.lemmas.Result.{err_from_is_err_and}
use Rattle.hq_reply.specs.Texts.{printed_byte}
use Rattle.hq_reply.proofs.Putting.{puts_some, puts_cut}
use Rattle.hq_reply.proofs.values.put_text.Goals as goal

pub returns-in_err-put_part : goal.returns-in_err-put_part
returns-in_err-put_part g c =
    let failed = err_from_is_err_and c.from_residual.result c.from_residual.ensures.1 in
    puts_cut printed_byte c.args.text.now c.loop-count.count c.part_length-more.result c.loop-count.invariant.1 c.in_err-put_part.ensures failed.1

pub loop-count-preserved : goal.loop-count-preserved
loop-count-preserved g c =
    (search rules, puts_some printed_byte c.args.text.now c.loop-count.count c.part_length-more.result c.loop-count.invariant.1 c.in_ok-put_part.ensures)
