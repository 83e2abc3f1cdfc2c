use Rattle.std.proofs.Common.{ap, sym, ◌∙◌, Some, List}
use Rattle.std.proofs.lemmas.Result.{err_from_is_err_and}
use Rattle.hq_value.specs.declared.kind.Kind.TheVariants as kind
use Rattle.hq_block.specs.declared.bounds.Bounds.{Bounds}
use Rattle.hq_block.specs.Reading.{bounds_at}
use Rattle.hq_block.proofs.Bounding.{goes_on, ends, is_done}
use Rattle.hq_block.proofs.bounds.bounds_at.Goals as goal

pub returns-in_err-first : goal.returns-in_err-first
returns-in_err-first c =
    let p = err_from_is_err_and c.from_residual-in_err-first.result c.from_residual-in_err-first.ensures.1 in
    rw (p.1, p.2) (ends c.in_err-first.field-0.0 c.loop-kind.bounds.items c.args.kinds.now c.loop-kind.kind-index kind.Bool c.loop-kind.rest.now (bounds_at c.args.kinds.now c.args.bytes.now) c.loop-kind-test.true c.in_err-first.ensures c.loop-kind.invariant)

pub loop-kind-preserved : goal.loop-kind-preserved
loop-kind-preserved c =
    rw c.in_ok-push.ensures.items (goes_on c.loop-kind.bounds.items c.args.kinds.now c.loop-kind.kind-index kind.Bool c.loop-kind.rest.now c.in_ok-first.first c.in_ok-first.after.now (bounds_at c.args.kinds.now c.args.bytes.now) c.loop-kind-test.true c.in_ok-first.ensures c.loop-kind.invariant)

pub returns : goal.returns
returns c =
    is_done c.loop-kind.bounds.items c.args.kinds.now c.loop-kind.kind-index c.loop-kind.rest.now (bounds_at c.args.kinds.now c.args.bytes.now) c.loop-kind-test.false c.loop-kind.invariant
    ∙ ap (λ (l : List Bounds). Some (l, c.loop-kind.rest.now)) (sym c.from_vec.ensures)
