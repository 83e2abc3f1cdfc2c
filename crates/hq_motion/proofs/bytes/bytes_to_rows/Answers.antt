use Rattle.std.proofs.Common.{◌≡◌, ◌-◌, ◌<◌, ◌++◌, ◌∷◌, [], ℕ, List, length, drop, rules, arith, sym, ap, subst, ◌∙◌, length-drop}
use Rattle.hq_value.specs.declared.value.Value.{Value}
use Rattle.hq_block.specs.declared.fault.RowFault.TheVariants as not_a_row
use Rattle.hq_motion.proofs.Reading.{Front, Follows, front-row, follow-row, follow-none, row-takes, other-err}
use Rattle.hq_motion.proofs.bytes.bytes_to_rows.Goals as goal

pub returns-in-Err-clause-not_a_row : goal.returns-in-Err-clause-not_a_row
returns-in-Err-clause-not_a_row c =
    let some : 0 < length c.loop-rest.rest.now = search rules in
    λ e. follow-none c.args.kinds.now c.args.bytes.now c.loop-rest.rows.items c.loop-rest.rest.now c.loop-rest.invariant.follows some (c.in-Err.ensures.not_a_row (other-err c.in-Err.fault not_a_row.NotARow e))

pub loop-rest-smaller : goal.loop-rest-smaller
loop-rest-smaller c =
    let some : 0 < length c.loop-rest.rest.now = search rules in
    let left : length c.behind-rest.result.now ≡ length c.loop-rest.rest.now - c.in-Ok.count = ap (λ (l : List ℕ). length l) c.behind-rest.ensures ∙ length-drop c.in-Ok.count c.loop-rest.rest.now in
    let taken : 0 < c.in-Ok.count = row-takes c.args.kinds.now c.loop-rest.rest.now c.in-Ok.row c.in-Ok.count c.requires c.in-Ok.ensures.found in
    omega (arith, some, left, taken)

pub loop-rest-preserved : goal.loop-rest-preserved
loop-rest-preserved c =
    let old : List (List Value) = c.loop-rest.rows.items in
    let rest : List ℕ = c.loop-rest.rest.now in
    let some : 0 < length c.loop-rest.rest.now = search rules in
    record {
      front = subst (λ (r : List (List Value)). Front c.args.kinds.now r c.behind-rest.result.now c.args.bytes.now) (sym c.in_ok-keep-in-Ok.ensures.kept)
          (subst (λ (t : List ℕ). Front c.args.kinds.now (old ++ c.in-Ok.row ∷ []) t c.args.bytes.now) (sym c.behind-rest.ensures)
          (front-row c.args.kinds.now old rest c.args.bytes.now c.in-Ok.row c.in-Ok.count c.loop-rest.invariant.front c.in-Ok.ensures.found));
      follows = subst (λ (r : List (List Value)). Follows c.args.kinds.now c.args.bytes.now r c.behind-rest.result.now) (sym c.in_ok-keep-in-Ok.ensures.kept)
          (subst (λ (t : List ℕ). Follows c.args.kinds.now c.args.bytes.now (old ++ c.in-Ok.row ∷ []) t) (sym c.behind-rest.ensures)
          (follow-row c.args.kinds.now c.args.bytes.now old rest c.in-Ok.row c.in-Ok.count c.loop-rest.invariant.follows some c.in-Ok.ensures.found));
    }
