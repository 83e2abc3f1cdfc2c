use Rattle.std.proofs.Common.{sym, arith}
use Rattle.hq_algebra.proofs.Inputs.{final_found}
use Rattle.hq_algebra.proofs.operators.finished.Goals as goal

pub returns : goal.returns
returns c =
    final_found c.both.result c.args.kinds.now c.args.keys _ c.args.aggregates.now c.in_ok-values.values c.in_ok-columns.columns c.in_ok-keys.keys c.in_ok-values.ensures c.in_ok-columns.ensures (sym (rw c.as_slice.ensures at c.if-not-are_finals.ensures.test)) (omega arith) c.in_ok-keys.ensures (rw c.as_slice-2.ensures at c.both.ensures)
