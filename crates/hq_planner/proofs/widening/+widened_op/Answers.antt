use Rattle.std.proofs.Common.{ℕ, List, Option, Some, None, subst, ◌∙◌}
use Rattle.std.specs.Option.{option_copied}
use Rattle.hq_value.specs.declared.kind.Kind.{Kind}
use Rattle.hq_algebra.specs.declared.expr.Expr.{Expr}
use Rattle.hq_algebra.specs.declared.op.Op.{Op}
use Rattle.hq_algebra.specs.declared.op.Op.TheVariants as op
use Rattle.hq_narrow.specs.declared.taken.Taken.{Taken}
use Rattle.hq_narrow.specs.Widened.{under}
use Rattle.hq_whole.specs.Tables.{kinds_by}
use Rattle.hq_planner.specs.Widens.{Widens}
use Rattle.hq_planner.proofs.Nodes.{at-op, widens-Filter, widens-Project, widens-Join, widens-Partial, widens-Final, widens-Distinct, widens-Sort}
use Rattle.hq_planner.proofs.widening.+widened_op.Goals as goal

pub returns-in_ok-under-in-Filter : goal.returns-in_ok-under-in-Filter
returns-in_ok-under-in-Filter t c =
    let kinds : ℕ → List Kind = kinds_by c.args.defs.now in
    let ts : List Taken = c.args.taken.now in
    let above : Option Expr = option_copied c.args.above in
    at-op kinds ts above c.args.op.now (op.Filter c.in-Filter.cond c.in-Filter.input) c.in_ok-under-in-Filter.field-0 c.in-Filter.is
    (widens-Filter kinds ts above c.in-Filter.cond c.in-Filter.input c.in_ok-input-in-Filter.input c.in_ok-under-in-Filter.field-0 (subst (λ (x : Op). Widens kinds ts (Some c.in-Filter.cond) x c.in_ok-input-in-Filter.input) c.get.ensures c.in_ok-input-in-Filter.ensures) c.in_ok-under-in-Filter.ensures)

pub returns-in_ok-projected-in-Project : goal.returns-in_ok-projected-in-Project
returns-in_ok-projected-in-Project t c =
    let kinds : ℕ → List Kind = kinds_by c.args.defs.now in
    let ts : List Taken = c.args.taken.now in
    let above : Option Expr = option_copied c.args.above in
    at-op kinds ts above c.args.op.now (op.Project c.in-Project.items c.in-Project.input) c.in_ok-projected-in-Project.field-0 c.in-Project.is
    (widens-Project kinds ts above c.in-Project.items c.in-Project.input c.in_ok-input-in-Project.input c.in_ok-projected-in-Project.field-0 (subst (λ (x : Op). Widens kinds ts None x c.in_ok-input-in-Project.input) c.get-in-Project.ensures c.in_ok-input-in-Project.ensures) (c.in_ok-projected-in-Project.ensures ∙ (λ i. under above (op.Project (c.as_slice-in-Project.ensures i) c.in_ok-input-in-Project.input))))

pub returns-in_ok-joined-in-Join : goal.returns-in_ok-joined-in-Join
returns-in_ok-joined-in-Join t c =
    let kinds : ℕ → List Kind = kinds_by c.args.defs.now in
    let ts : List Taken = c.args.taken.now in
    let above : Option Expr = option_copied c.args.above in
    at-op kinds ts above c.args.op.now (op.Join c.in-Join.left_keys c.in-Join.right_keys c.in-Join.left c.in-Join.right) c.in_ok-joined-in-Join.field-0 c.in-Join.is
    (widens-Join kinds ts above c.in-Join.left_keys c.in-Join.right_keys c.in-Join.left c.in-Join.right c.in_ok-left-in-Join.left c.in_ok-right-in-Join.right c.in_ok-joined-in-Join.field-0
    (subst (λ (x : Op). Widens kinds ts None x c.in_ok-left-in-Join.left) c.get-in-Join.ensures c.in_ok-left-in-Join.ensures)
    (subst (λ (x : Op). Widens kinds ts None x c.in_ok-right-in-Join.right) c.get-in-Join-2.ensures c.in_ok-right-in-Join.ensures)
    (c.in_ok-joined-in-Join.ensures ∙ (λ i. under above (op.Join (c.as_slice-in-Join.ensures i) (c.as_slice-in-Join-2.ensures i) c.in_ok-left-in-Join.left c.in_ok-right-in-Join.right))))

pub returns-in_ok-partial-in-Partial : goal.returns-in_ok-partial-in-Partial
returns-in_ok-partial-in-Partial t c =
    let kinds : ℕ → List Kind = kinds_by c.args.defs.now in
    let ts : List Taken = c.args.taken.now in
    let above : Option Expr = option_copied c.args.above in
    at-op kinds ts above c.args.op.now (op.Partial c.in-Partial.keys c.in-Partial.aggregates c.in-Partial.input) c.in_ok-partial-in-Partial.field-0 c.in-Partial.is
    (widens-Partial kinds ts above c.in-Partial.keys c.in-Partial.aggregates c.in-Partial.input c.in_ok-input-in-Partial.input c.in_ok-partial-in-Partial.field-0 (subst (λ (x : Op). Widens kinds ts None x c.in_ok-input-in-Partial.input) c.get-in-Partial.ensures c.in_ok-input-in-Partial.ensures) (c.in_ok-partial-in-Partial.ensures ∙ (λ i. under above (op.Partial (c.as_slice-in-Partial.ensures i) (c.as_slice-in-Partial-2.ensures i) c.in_ok-input-in-Partial.input))))

pub returns-in_ok-merged-in-Final : goal.returns-in_ok-merged-in-Final
returns-in_ok-merged-in-Final t c =
    let kinds : ℕ → List Kind = kinds_by c.args.defs.now in
    let ts : List Taken = c.args.taken.now in
    let above : Option Expr = option_copied c.args.above in
    at-op kinds ts above c.args.op.now (op.Final c.in-Final.keys c.in-Final.aggregates c.in-Final.input) c.in_ok-merged-in-Final.field-0 c.in-Final.is
    (widens-Final kinds ts above c.in-Final.keys c.in-Final.aggregates c.in-Final.input c.in_ok-input-in-Final.input c.in_ok-merged-in-Final.field-0 (subst (λ (x : Op). Widens kinds ts None x c.in_ok-input-in-Final.input) c.get-in-Final.ensures c.in_ok-input-in-Final.ensures) (c.in_ok-merged-in-Final.ensures ∙ (λ i. under above (op.Final c.in-Final.keys (c.as_slice-in-Final.ensures i) c.in_ok-input-in-Final.input))))

pub returns-in_ok-distinct-in-Distinct : goal.returns-in_ok-distinct-in-Distinct
returns-in_ok-distinct-in-Distinct t c =
    let kinds : ℕ → List Kind = kinds_by c.args.defs.now in
    let ts : List Taken = c.args.taken.now in
    let above : Option Expr = option_copied c.args.above in
    at-op kinds ts above c.args.op.now (op.Distinct c.in-Distinct.input) c.in_ok-distinct-in-Distinct.field-0 c.in-Distinct.is
    (widens-Distinct kinds ts above c.in-Distinct.input c.in_ok-input-in-Distinct.input c.in_ok-distinct-in-Distinct.field-0 (subst (λ (x : Op). Widens kinds ts None x c.in_ok-input-in-Distinct.input) c.get-in-Distinct.ensures c.in_ok-input-in-Distinct.ensures) c.in_ok-distinct-in-Distinct.ensures)

pub returns-in_ok-sorted-in-Sort : goal.returns-in_ok-sorted-in-Sort
returns-in_ok-sorted-in-Sort t c =
    let kinds : ℕ → List Kind = kinds_by c.args.defs.now in
    let ts : List Taken = c.args.taken.now in
    let above : Option Expr = option_copied c.args.above in
    at-op kinds ts above c.args.op.now (op.Sort c.in-Sort.order c.in-Sort.limit c.in-Sort.input) c.in_ok-sorted-in-Sort.field-0 c.in-Sort.is
    (widens-Sort kinds ts above c.in-Sort.order c.in-Sort.limit c.in-Sort.input c.in_ok-input-in-Sort.input c.in_ok-sorted-in-Sort.field-0 (subst (λ (x : Op). Widens kinds ts None x c.in_ok-input-in-Sort.input) c.get-in-Sort.ensures c.in_ok-input-in-Sort.ensures) (c.in_ok-sorted-in-Sort.ensures ∙ (λ i. under above (op.Sort (c.as_slice-in-Sort.ensures i) c.in-Sort.limit c.in_ok-input-in-Sort.input))))
