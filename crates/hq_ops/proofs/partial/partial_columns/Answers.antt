use Rattle.std.proofs.Common.{◌++◌, ◌∷◌, [], ◌∙◌, List, take, ap, sym, subst}
use Rattle.std.proofs.lemmas.List.{take_more}
use Rattle.hq_algebra.specs.declared.aggregate.Aggregate.{Aggregate}
use Rattle.hq_ops.specs.declared.column.Column.{Column}
use Rattle.hq_ops.specs.Grouped.{ArePartial}
use Rattle.hq_ops.proofs.Grouped.{partial-push}
use Rattle.hq_ops.proofs.partial.partial_columns.Goals as goal

pub loop-aggregate-preserved : goal.loop-aggregate-preserved
loop-aggregate-preserved c =
    let before = take c.loop-aggregate.aggregate-index c.args.aggregates.now in
    let more = take_more c.args.aggregates.now c.loop-aggregate.aggregate-index c.aggregate-item.result c.loop-aggregate-test.true ∙ ap (λ x. before ++ x ∷ []) (sym c.aggregate-item.is) in
    subst (λ (l : List Aggregate). ArePartial l c.push.new.self.items) (sym more)
    (subst (λ (l : List Column). ArePartial (before ++ c.aggregate-item.result ∷ []) l) (sym c.in_ok-push.ensures.items)
    (partial-push before c.loop-aggregate.columns.items c.aggregate-item.result c.partial_column.result c.loop-aggregate.invariant c.partial_column.ensures))
