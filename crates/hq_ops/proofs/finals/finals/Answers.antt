use Rattle.std.proofs.Common.{◌≡◌, ◌∙◌, Bool, true, false, [], sym, ap, subst}
use Rattle.std.specs.List.{list_any}
use Rattle.std.proofs.lemmas.Result.{IfOk-weaker, err_from_is_err_and}
use Rattle.hq_ops.specs.Ends.{StopsAt}
use Rattle.hq_ops.specs.declared.groups.GroupBy.TheVariants as by
use Rattle.hq_ops.specs.Gathering.{group_rows, group_leaves, row_faults}
use Rattle.hq_ops.proofs.Grouped.{final-is, final-faults-are, final-reads-never}
use Rattle.hq_ops.specs.declared.gathered.Gathered.{Gathered}
use Rattle.hq_ops.proofs.Steps.{stops-on}
use Rattle.hq_ops.proofs.finals.finals.Goals as goal

pub returns-clause-rows : goal.returns-clause-rows
returns-clause-rows c =
    let columns = c.deref.result.now in
    let gathered = c.in_ok-gathered.ensures.gathered columns [] (c.in_ok-nothing.ensures _) in
    IfOk-weaker c.finished.result _ _ (λ found e. e ∙ ap (λ cs. group_rows (by.First c.args.keys) cs c.args.rows.now) (c.deref.ensures.value ∙ c.in_ok-columns.ensures) ∙ final-is c.args.keys c.args.aggregates.now c.args.rows.now) (c.finished.ensures.rows columns c.args.rows.now gathered)

pub returns-clause-numeric : goal.returns-clause-numeric
returns-clause-numeric c =
    let columns = c.deref.result.now in
    let gathered = c.in_ok-gathered.ensures.gathered columns [] (c.in_ok-nothing.ensures _) in
    subst (λ (b : Bool). StopsAt c.finished.result b)
    (ap (λ cs. group_leaves (by.First c.args.keys) cs c.args.rows.now) (c.deref.ensures.value ∙ c.in_ok-columns.ensures) ∙ final-faults-are c.args.keys c.args.aggregates.now c.args.rows.now)
    (c.finished.ensures.numeric columns c.args.rows.now gathered)

pub returns-in_err-gathered-clause-numeric : goal.returns-in_err-gathered-clause-numeric
returns-in_err-gathered-clause-numeric c =
    let nothing = c.in_ok-nothing.ensures (by.First c.args.keys) in
    let p = err_from_is_err_and c.from_residual-in_err-gathered.result c.from_residual-in_err-gathered.ensures.1 in
    stops-on Gathered c.from_residual-in_err-gathered.result c.in_err-gathered.field-0.0 p.0 _ _
    (λ h. let u : true ≡ false = sym h ∙ ap (λ cs. list_any (row_faults cs) c.args.rows.now) (nothing.columns_are ∙ c.deref.ensures.value ∙ c.in_ok-columns.ensures) ∙ final-reads-never c.args.aggregates.now c.args.keys c.args.rows.now in cc)
    c.in_err-gathered.ensures.numeric p.1 p.2
