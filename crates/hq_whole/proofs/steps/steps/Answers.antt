use Rattle.std.proofs.Common.{◌≡◌, ◌+◌, ◌*◌, ◌≤◌, ◌++◌, ℕ, List, [], length, slice_index, get_or, arith, ap, sym, ◌∙◌, append-nil}
use Rattle.hq_value.specs.declared.kind.Kind.{Kind}
use Rattle.hq_laws.specs.Placed.{own_homes}
use Rattle.hq_whole.specs.Choices.{all_stand}
use Rattle.hq_whole.specs.Tables.{kinds_by, keys_by}
use Rattle.hq_whole.proofs.Stepping.{step-more, tables-more}
use Rattle.hq_whole.proofs.steps.steps.Goals as goal

pub loop-i-preserved : goal.loop-i-preserved
loop-i-preserved c =
    let kinds : ℕ → List Kind = kinds_by c.args.defs.now in
    let own : ℕ → List ℕ = keys_by c.args.defs.now in
    let ss : List ℕ = c.as_slice-sources.result.now in
    let w : ℕ = length (kinds (slice_index ss 0)) in
    let first : 1 ≤ c.loop-i.i = c.loop-i.auto.i in
    record {
      tables = tables-more ss c.loop-i.i c.loop-i.steps.items c.push.new.self.items c.in_ok-step.step c.loop-i.invariant.tables c.in_ok-push.ensures.items c.in_ok-step.ensures.table first c.loop-i-test.true;
      stand = step-more kinds own c.as_slice-conds.result.now w (own_homes w (own (slice_index ss 0))) c.loop-i.steps.items c.push.new.self.items c.in_ok-step.step c.loop-i.course.width c.next_step.new.course.width (get_or ss c.loop-i.i 0)
          c.loop-i.course.homes.items c.next_step.new.course.homes.items
          c.loop-i.invariant.stand c.in_ok-push.ensures.items c.in_ok-step.ensures.table c.in_ok-step.ensures.width c.in_ok-step.ensures.stands c.in_ok-step.ensures.homes;
      few = omega (arith, c.loop-i.invariant.few, c.in_ok-step.ensures.few);
    }

pub returns-clause-stand : goal.returns-clause-stand
returns-clause-stand c =
    let kinds : ℕ → List Kind = kinds_by c.args.defs.now in
    let own : ℕ → List ℕ = keys_by c.args.defs.now in
    (λ j. all_stand kinds own (sym c.as_slice-conds.ensures j) (length (kinds (slice_index (sym c.as_slice-sources.ensures j) 0))) (own_homes (length (kinds (slice_index (sym c.as_slice-sources.ensures j) 0))) (own (slice_index (sym c.as_slice-sources.ensures j) 0))) (sym (append-nil c.loop-i.steps.items) j))
    ∙ c.loop-i.invariant.stand []
