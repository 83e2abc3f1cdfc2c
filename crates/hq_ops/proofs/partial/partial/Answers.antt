use Rattle.std.proofs.Common.{◌∙◌, Bool, List, [], sym, ap, subst}
use Rattle.std.proofs.lemmas.Result.{IfOk-weaker}
use Rattle.hq_ops.specs.declared.column.Column.{Column}
use Rattle.hq_ops.specs.Ends.{StopsAt}
use Rattle.hq_ops.specs.Grouped.{ArePartial}
use Rattle.hq_ops.proofs.Grouped.{partial-is, partial-faults-are, partial-leaves-never}
use Rattle.std.specs.List.{list_any}
use Rattle.std.proofs.lemmas.Result.{err_from_is_err_and}
use Rattle.hq_ops.specs.declared.groups.GroupBy.TheVariants as by
use Rattle.hq_ops.specs.Gathering.{row_faults}
use Rattle.hq_ops.specs.declared.gathered.Gathered.{Gathered}
use Rattle.hq_ops.proofs.Steps.{stops-on}
use Rattle.hq_ops.proofs.partial.partial.Goals as goal

pub returns-clause-rows : goal.returns-clause-rows
returns-clause-rows c =
    let columns = c.deref.result.now in
    let are = subst (λ (cs : List Column). ArePartial c.args.aggregates.now cs) (sym c.deref.ensures.value) c.in_ok-columns.ensures in
    let gathered = c.in_ok-gathered.ensures.gathered columns [] (c.in_ok-nothing.ensures _) in
    IfOk-weaker c.finished.result _ _ (λ found e. e ∙ partial-is c.args.places c.args.aggregates.now columns c.args.rows.now are) (c.finished.ensures.rows columns c.args.rows.now gathered)

pub returns-clause-numeric : goal.returns-clause-numeric
returns-clause-numeric c =
    let columns = c.deref.result.now in
    let are = subst (λ (cs : List Column). ArePartial c.args.aggregates.now cs) (sym c.deref.ensures.value) c.in_ok-columns.ensures in
    let gathered = c.in_ok-gathered.ensures.gathered columns [] (c.in_ok-nothing.ensures _) in
    subst (λ (b : Bool). StopsAt c.finished.result b)
    (partial-leaves-never c.args.places c.args.aggregates.now columns c.args.rows.now are ∙ sym gathered.no_fault ∙ partial-faults-are c.args.aggregates.now columns c.args.rows.now are)
    (c.finished.ensures.numeric columns c.args.rows.now gathered)

pub returns-in_err-gathered-clause-numeric : goal.returns-in_err-gathered-clause-numeric
returns-in_err-gathered-clause-numeric c =
    let are = subst (λ (cs : List Column). ArePartial c.args.aggregates.now cs) (sym c.deref.ensures.value) c.in_ok-columns.ensures in
    let nothing = c.in_ok-nothing.ensures (by.Columns c.args.places) in
    let p = err_from_is_err_and c.from_residual-in_err-gathered.result c.from_residual-in_err-gathered.ensures.1 in
    stops-on Gathered c.from_residual-in_err-gathered.result c.in_err-gathered.field-0.0 p.0 _ _
    (λ h. sym (partial-faults-are c.args.aggregates.now c.deref.result.now c.args.rows.now are) ∙ ap (λ cs. list_any (row_faults cs) c.args.rows.now) (sym nothing.columns_are) ∙ h) c.in_err-gathered.ensures.numeric p.1 p.2
