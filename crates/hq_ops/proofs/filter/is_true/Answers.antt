use Rattle.std.proofs.Common.{◌∙◌}
use Rattle.hq_ops.proofs.Compares.{stand-compare}
use Rattle.hq_ops.proofs.filter.is_true.Goals as goal

pub returns-in-Some-Some : goal.returns-in-Some-Some
returns-in-Some-Some c =
    c.is_true_compare.ensures
    ∙ stand-compare c.args.cond.now c.in-Compare.kind _ _ _ _ c.args.row.now _ _ c.in-Some-Some.a.now c.in-Some-Some.b.now c.in-Compare.is c.get.ensures c.as_slice.ensures c.get-in-Compare.ensures c.as_slice-in-Compare.ensures
    c.in-Some-Some.ensures c.in-Some-Some.ensures'
