use Rattle.std.proofs.Common.{◌≡◌, drop}
use Rattle.hq_algebra.specs.Kinds.{every, expr_kind, item_kind}
use Rattle.hq_algebra.proofs.Every.{with_front}
use Rattle.hq_whole.proofs.sent.items_kinds.Given as goal

abbrev pub invariant-loop-item : goal.invariant-loop-item
invariant-loop-item l = with_front l.found (every (λ e. item_kind (expr_kind l.kinds e)) (drop l.item-index l.items)) ≡ every (λ e. item_kind (expr_kind l.kinds e)) l.items
