use Rattle.std.proofs.Common.{List, Err}
use Rattle.std.proofs.lemmas.Result.{err_from_is_err_and}
use Rattle.hq_value.specs.declared.kind.Kind.{Kind}
use Rattle.hq_algebra.specs.Kinds.{◌>>=◌}
use Rattle.hq_algebra.specs.Operators.{op_kinds, filter_kinds, items_kinds, join_kinds, partial_kinds, final_kinds, sort_kinds}
use Rattle.hq_algebra.proofs.Inputs.{gives-err, gives-ok, op_kinds-Filter, op_kinds-Project, op_kinds-Join, op_kinds-Partial, op_kinds-Final, op_kinds-Distinct, op_kinds-Sort}
use Rattle.hq_algebra.proofs.operators.+checked_kinds.Goals as goal

pub returns-in_err-checked_kinds-in-Filter : goal.returns-in_err-checked_kinds-in-Filter
returns-in_err-checked_kinds-in-Filter t c =
    let p = err_from_is_err_and c.from_residual.result c.from_residual.ensures.1 in
    rw (p.1, p.2, c.in-Filter.is, op_kinds-Filter) (gives-err c.in_err-checked_kinds-in-Filter.field-0.0 (op_kinds c.in-Filter.input) (filter_kinds c.in-Filter.cond) (rw c.get.ensures at c.in_err-checked_kinds-in-Filter.ensures))

pub returns-in_ok-checked_kinds-in-Filter : goal.returns-in_ok-checked_kinds-in-Filter
returns-in_ok-checked_kinds-in-Filter t c =
    rw (c.in-Filter.is, op_kinds-Filter) (gives-ok c.filtered.result (op_kinds c.in-Filter.input) (filter_kinds c.in-Filter.cond) c.in_ok-checked_kinds-in-Filter.field-0 (rw c.get.ensures at c.in_ok-checked_kinds-in-Filter.ensures) c.filtered.ensures)

pub returns-in_err-kinds-in-Project : goal.returns-in_err-kinds-in-Project
returns-in_err-kinds-in-Project t c =
    let p = err_from_is_err_and c.from_residual-in_err-kinds-in-Project.result c.from_residual-in_err-kinds-in-Project.ensures.1 in
    rw (p.1, p.2, c.in-Project.is, op_kinds-Project) (gives-err c.in_err-kinds-in-Project.field-0.0 (op_kinds c.in-Project.input) (λ (kinds : List Kind). items_kinds kinds c.in-Project.items) (rw c.get-in-Project.ensures at c.in_err-kinds-in-Project.ensures))

pub returns-in_ok-kinds-in-Project : goal.returns-in_ok-kinds-in-Project
returns-in_ok-kinds-in-Project t c =
    rw (c.in-Project.is, op_kinds-Project) (gives-ok c.items_kinds.result (op_kinds c.in-Project.input) (λ (kinds : List Kind). items_kinds kinds c.in-Project.items) c.in_ok-kinds-in-Project.kinds (rw c.get-in-Project.ensures at c.in_ok-kinds-in-Project.ensures) (rw (c.as_slice-in-Project.ensures, c.as_slice-in-Project-2.ensures) at c.items_kinds.ensures))

pub returns-in_err-kinds-in-Partial : goal.returns-in_err-kinds-in-Partial
returns-in_err-kinds-in-Partial t c =
    let p = err_from_is_err_and c.from_residual-in_err-kinds-in-Partial.result c.from_residual-in_err-kinds-in-Partial.ensures.1 in
    rw (p.1, p.2, c.in-Partial.is, op_kinds-Partial) (gives-err c.in_err-kinds-in-Partial.field-0.0 (op_kinds c.in-Partial.input) (partial_kinds c.in-Partial.keys c.in-Partial.aggregates) (rw c.get-in-Partial.ensures at c.in_err-kinds-in-Partial.ensures))

pub returns-in_ok-kinds-in-Partial : goal.returns-in_ok-kinds-in-Partial
returns-in_ok-kinds-in-Partial t c =
    rw (c.in-Partial.is, op_kinds-Partial) (gives-ok c.partial_kinds.result (op_kinds c.in-Partial.input) (partial_kinds c.in-Partial.keys c.in-Partial.aggregates) c.in_ok-kinds-in-Partial.kinds (rw c.get-in-Partial.ensures at c.in_ok-kinds-in-Partial.ensures) (rw (c.as_slice-in-Partial.ensures, c.as_slice-in-Partial-2.ensures, c.as_slice-in-Partial-3.ensures) at c.partial_kinds.ensures))

pub returns-in_err-kinds-in-Final : goal.returns-in_err-kinds-in-Final
returns-in_err-kinds-in-Final t c =
    let p = err_from_is_err_and c.from_residual-in_err-kinds-in-Final.result c.from_residual-in_err-kinds-in-Final.ensures.1 in
    rw (p.1, p.2, c.in-Final.is, op_kinds-Final) (gives-err c.in_err-kinds-in-Final.field-0.0 (op_kinds c.in-Final.input) (final_kinds c.in-Final.keys c.in-Final.aggregates) (rw c.get-in-Final.ensures at c.in_err-kinds-in-Final.ensures))

pub returns-in_ok-kinds-in-Final : goal.returns-in_ok-kinds-in-Final
returns-in_ok-kinds-in-Final t c =
    rw (c.in-Final.is, op_kinds-Final) (gives-ok c.finished.result (op_kinds c.in-Final.input) (final_kinds c.in-Final.keys c.in-Final.aggregates) c.in_ok-kinds-in-Final.kinds (rw c.get-in-Final.ensures at c.in_ok-kinds-in-Final.ensures) (rw (c.as_slice-in-Final.ensures, c.as_slice-in-Final-2.ensures) at c.finished.ensures))

pub returns-in_err-checked_kinds-in-Sort : goal.returns-in_err-checked_kinds-in-Sort
returns-in_err-checked_kinds-in-Sort t c =
    let p = err_from_is_err_and c.from_residual-in_err-checked_kinds-in-Sort.result c.from_residual-in_err-checked_kinds-in-Sort.ensures.1 in
    rw (p.1, p.2, c.in-Sort.is, op_kinds-Sort) (gives-err c.in_err-checked_kinds-in-Sort.field-0.0 (op_kinds c.in-Sort.input) (sort_kinds c.in-Sort.order) (rw c.get-in-Sort.ensures at c.in_err-checked_kinds-in-Sort.ensures))

pub returns-in_ok-checked_kinds-in-Sort : goal.returns-in_ok-checked_kinds-in-Sort
returns-in_ok-checked_kinds-in-Sort t c =
    rw (c.in-Sort.is, op_kinds-Sort) (gives-ok c.sorted.result (op_kinds c.in-Sort.input) (sort_kinds c.in-Sort.order) c.in_ok-checked_kinds-in-Sort.field-0 (rw c.get-in-Sort.ensures at c.in_ok-checked_kinds-in-Sort.ensures) (rw (c.as_slice-in-Sort.ensures) at c.sorted.ensures))

pub returns-in_err-left-in-Join : goal.returns-in_err-left-in-Join
returns-in_err-left-in-Join t c =
    let p = err_from_is_err_and c.from_residual-in_err-left-in-Join.result c.from_residual-in_err-left-in-Join.ensures.1 in
    rw (p.1, p.2, c.in-Join.is, op_kinds-Join) (gives-err c.in_err-left-in-Join.field-0.0 (op_kinds c.in-Join.left) (λ (ls : List Kind). op_kinds c.in-Join.right >>= (λ (rs : List Kind). join_kinds c.in-Join.left_keys c.in-Join.right_keys ls rs)) (rw c.get-in-Join.ensures at c.in_err-left-in-Join.ensures))

pub returns-in_err-right-in-Join : goal.returns-in_err-right-in-Join
returns-in_err-right-in-Join t c =
    let p = err_from_is_err_and c.from_residual-in_err-right-in-Join.result c.from_residual-in_err-right-in-Join.ensures.1 in
    rw (p.1, p.2, c.in-Join.is, op_kinds-Join) (gives-ok (Err c.in_err-right-in-Join.field-0.0) (op_kinds c.in-Join.left) (λ (ls : List Kind). op_kinds c.in-Join.right >>= (λ (rs : List Kind). join_kinds c.in-Join.left_keys c.in-Join.right_keys ls rs)) c.in_ok-left-in-Join.left (rw c.get-in-Join.ensures at c.in_ok-left-in-Join.ensures) (gives-err c.in_err-right-in-Join.field-0.0 (op_kinds c.in-Join.right) (λ (rs : List Kind). join_kinds c.in-Join.left_keys c.in-Join.right_keys c.in_ok-left-in-Join.left rs) (rw c.get-in-Join-2.ensures at c.in_err-right-in-Join.ensures)))

pub returns-in_ok-right-in-Join : goal.returns-in_ok-right-in-Join
returns-in_ok-right-in-Join t c =
    rw (c.in-Join.is, op_kinds-Join) (gives-ok c.joined.result (op_kinds c.in-Join.left) (λ (ls : List Kind). op_kinds c.in-Join.right >>= (λ (rs : List Kind). join_kinds c.in-Join.left_keys c.in-Join.right_keys ls rs)) c.in_ok-left-in-Join.left (rw c.get-in-Join.ensures at c.in_ok-left-in-Join.ensures) (gives-ok c.joined.result (op_kinds c.in-Join.right) (λ (rs : List Kind). join_kinds c.in-Join.left_keys c.in-Join.right_keys c.in_ok-left-in-Join.left rs) c.in_ok-right-in-Join.right (rw c.get-in-Join-2.ensures at c.in_ok-right-in-Join.ensures) (rw (c.as_slice-in-Join.ensures, c.as_slice-in-Join-2.ensures) at c.joined.ensures)))

pub returns-in-Distinct : goal.returns-in-Distinct
returns-in-Distinct t c = rw (c.in-Distinct.is, op_kinds-Distinct) (rw c.get-in-Distinct.ensures at c.checked_kinds-in-Distinct.ensures)
