use Rattle.std.proofs.Common.{◌≡◌, length, Bool, cond, Some, None, ap, sym, ◌∙◌, arith}
use Rattle.std.proofs.lemmas.Result.{err_from_is_err_and}
use Rattle.hq_value.specs.declared.kind.Kind.TheVariants as kind
use Rattle.hq_block.proofs.Columns.{goes_on, ends, is_done}
use Rattle.hq_block.specs.Reading.{low_number, columns_at}
use Rattle.hq_block.proofs.read.columns_at.Goals as goal

pub returns-in_err-value : goal.returns-in_err-value
returns-in_err-value c =
    let p = err_from_is_err_and c.from_residual-in_err-value.result c.from_residual-in_err-value.ensures.1 in
    let fails = rw c.is_null.ensures at c.in_err-value.ensures in
    rw (p.1, p.2) (ends c.in_err-value.field-0.0 c.loop-i.row c.args.kinds.now c.loop-i.i (low_number c.args.nulls.now) kind.Bool c.loop-i.rest.now (columns_at c.args.kinds.now (low_number c.args.nulls.now) c.args.values.now) c.loop-i-test.true fails c.loop-i.invariant)

pub loop-i-preserved : goal.loop-i-preserved
loop-i-preserved c =
    let read = rw c.is_null.ensures at c.in_ok-value.ensures in
    rw c.in_ok-push.ensures.ok (goes_on c.loop-i.row c.args.kinds.now c.loop-i.i (low_number c.args.nulls.now) kind.Bool c.loop-i.rest.now c.in_ok-value.value c.in_ok-value.after.now (columns_at c.args.kinds.now (low_number c.args.nulls.now) c.args.values.now) c.loop-i-test.true read c.loop-i.invariant)

pub returns-then-not-ends_after : goal.returns-then-not-ends_after
returns-then-not-ends_after c =
    let e : c.loop-i.i ≡ length c.args.kinds.now = omega arith in
    sym (is_done c.loop-i.row c.args.kinds.now c.loop-i.i (low_number c.args.nulls.now) c.loop-i.rest.now (columns_at c.args.kinds.now (low_number c.args.nulls.now) c.args.values.now) e c.loop-i.invariant)
    ∙ ap (λ (b : Bool). cond b (Some (c.loop-i.row, c.loop-i.rest.now)) None) (sym c.ends_after.ensures ∙ c.if-not-ends_after.true)

pub returns : goal.returns
returns c =
    let e : c.loop-i.i ≡ length c.args.kinds.now = omega arith in
    sym (is_done c.loop-i.row c.args.kinds.now c.loop-i.i (low_number c.args.nulls.now) c.loop-i.rest.now (columns_at c.args.kinds.now (low_number c.args.nulls.now) c.args.values.now) e c.loop-i.invariant)
    ∙ ap (λ (b : Bool). cond b (Some (c.loop-i.row, c.loop-i.rest.now)) None) (sym c.ends_after.ensures ∙ c.if-not-ends_after.false)
