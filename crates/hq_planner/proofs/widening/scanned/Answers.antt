use Rattle.std.proofs.Common.{◌≤◌, List, length, ap, sym, ◌∙◌, arith}
use Rattle.std.specs.Option.{option_copied}
use Rattle.hq_value.specs.declared.kind.Kind.{Kind}
use Rattle.hq_algebra.specs.Operators.{keys_kinds}
use Rattle.hq_whole.specs.Tables.{kinds_by}
use Rattle.hq_planner.proofs.Nodes.{taken-found, widens-Scan}
use Rattle.hq_planner.proofs.widening.scanned.Goals as goal

pub returns : goal.returns
returns c =
    let few : length c.in_ok-whole.whole ≤ 64 = omega (arith, ap (λ (l : List Kind). length l) c.in_ok-whole.ensures, c.width_of-width.ensures.width, c.width_of-width.ensures.few) in
    widens-Scan (kinds_by c.args.defs.now) c.args.taken.now (option_copied c.args.above) c.args.number c.args.kinds.now c.in_ok-whole.whole c.in-Some.source.now c.in_ok-op.op
    (taken-found c.args.taken.now c.args.number c.in-Some.source.now c.in-Some.ensures.lookup.0 c.in-Some.ensures.lookup.1) c.in_ok-whole.ensures few
    ((λ i. keys_kinds (sym c.as_slice.ensures i) (sym c.as_slice-2.ensures i)) ∙ c.are_kinds.ensures c.if-not-are_kinds.false) c.in_ok-op.ensures
