use Rattle.std.proofs.Common.{rules}
use Rattle.std.proofs.lemmas.Fn.{filter_same}
use Rattle.hq_algebra.specs.Eval.{is_true_at}
use Rattle.hq_ops.proofs.filter.keep.Goals as goal

pub returns : goal.returns
returns c = filter_same _ (is_true_at c.args.cond.now) _ (λ x b f' k. search rules) _ _ c.retain.ensures.filtered
