-- A block more is passed, and in the end no block is left.
use Rattle.std.proofs.Common.{rules, ◌≡◌, ◌∙◌, ◌<◌, ◌≤◌, ◌+◌, ℕ, List, IsTrue, Err, refl, sym, ap, subst, arith}
use Rattle.hq_value.specs.declared.kind.Kind.{Kind}
use Rattle.hq_value.proofs.Counting.{steady_still, steady_more}
use Rattle.hq_lane.specs.Cursors.{CursorState}
use Rattle.hq_lane.specs.Cursors as cursor
use Rattle.hq_lane.specs.FileBlocks.{kept_rows, read_sum}
use Rattle.hq_lane.specs.Scans.{IsBadAt}
use Rattle.hq_exec.specs.declared.end.Ending.{Ending}
use Rattle.hq_exec.specs.Ends.{IfBadBlock, IsBadBlock}
use Rattle.hq_exec.specs.Lines.{line_state}
use Rattle.hq_exec.proofs.Bad.{bad-ended, never-ended, store-ended}
use Rattle.hq_exec.proofs.Feeds.{fed-none, passed-fit, fed-block, fed-end}
use Rattle.hq_exec.proofs.Rows.{rose-later}
use Rattle.hq_exec.proofs.feed.feed_blocks.Goals as goal

pub passing-init : goal.passing-init
passing-init g c = record {
  same = refl;
  fed = fed-none g.S.Store.faults g.S.Store.given g.S.Store.sound (IsTrue c.args.cursor.told) c.args.cursor.kinds (kept_rows c.args.cursor.tests c.args.cursor.kinds c.args.cursor.left) (read_sum c.args.cursor.tests c.args.cursor.kinds c.args.cursor.left)
      c.args.store.now (line_state c.args.line.now (g.O.RowOut.state c.args.out.now)) c.requires;
  steady = steady_still g.S.Store.faults g.S.Store.sound c.args.store.now;
  kinds = refl;
}

pub take-requires : goal.take-requires
take-requires g c =
    let passed = c.in-Ok.ensures.passed in (
      c.args.cursor.kinds,
      c.passing.invariant.fed.can_take,
      passed-fit c.args.cursor c.passing.cursor c.next.new.self passed.0 c.new-rows.result.items c.next.new.rows.items c.passing.invariant.same c.new-rows.ensures.items passed.1,
    )

pub passing-preserved : goal.passing-preserved
passing-preserved g c =
    let so_far = c.passing.invariant in
    let told = c.in-Ok.ensures in
    let passed = told.passed in
    record {
      same = told.cursor ∙ ap (λ (s : CursorState). record s { at = c.next.new.self.at; left = c.next.new.self.left }) so_far.same;
      fed = fed-block g.S.Store.faults g.S.Store.given g.S.Store.sound c.args.cursor c.passing.cursor c.next.new.self passed.0 _ c.next.new.rows.items c.args.store.now c.passing.store c.next.new.store _ _ _ so_far.same c.new-rows.ensures.items passed.1 passed.2
          c.in_ok-take-in-Ok.ensures.takes c.in_ok-take-in-Ok.ensures.can so_far.fed;
      steady = steady_more g.S.Store.faults g.S.Store.sound c.args.store.now c.passing.store c.next.new.store so_far.steady told.store;
      kinds = c.take.ensures.kinds ∙ so_far.kinds;
    }

pub passing-smaller : goal.passing-smaller
passing-smaller g c =
    let passed = c.in-Ok.ensures.passed in
    let ends : c.next.new.self.to ≡ c.passing.cursor.to = ap (λ (s : CursorState). s.to) c.in-Ok.ensures.cursor in
    let on : c.next.new.self.at ≡ c.passing.cursor.at + passed.0.length = passed.1.on in
    let some : 0 < passed.0.length = passed.1.some in
    let within : c.next.new.self.at ≤ c.passing.cursor.to = passed.1.within in
    omega (arith, ends, on, some, within)

pub returns-clause-fed : goal.returns-clause-fed
returns-clause-fed g c =
    let done : IsTrue c.is_done.result = search rules in
    fed-end g.S.Store.faults g.S.Store.given g.S.Store.sound c.args.cursor c.passing.cursor.left c.args.store.now c.passing.store _ _ (c.is_done.ensures.left done) c.passing.invariant.fed

pub returns-in-Err-clause-bad : goal.returns-in-Err-clause-bad
returns-in-Err-clause-bad g c =
    let kinds : c.passing.cursor.kinds ≡ c.args.cursor.kinds = ap (λ (s : CursorState). s.kinds) c.passing.invariant.same in
    subst (λ (e : Ending). IfBadBlock {T = Unit} (Err e) (IsBadBlock c.args.file c.args.cursor.kinds)) (sym c.of.ensures)
    (bad-ended Unit Unit c.args.file c.in-Err.fault c.args.cursor.kinds c.passing.cursor.at c.passing.cursor.to
    (subst (λ (k : List Kind). cursor.IfBad {T = Unit} (Err c.in-Err.fault) (IsBadAt k c.passing.cursor.at c.passing.cursor.to)) kinds c.in-Err.ensures.bad))

pub returns-in-Err-clause-never_bad : goal.returns-in-Err-clause-never_bad
returns-in-Err-clause-never_bad g c = λ t.
    let now : IsTrue c.passing.cursor.told = ap (λ (s : CursorState). s.told) c.passing.invariant.same ∙ t in
    subst (λ (e : Ending). IfBadBlock {T = Unit} (Err e) (λ _ _ _. ⊥)) (sym c.of.ensures) (never-ended Unit Unit c.args.file c.in-Err.fault (c.in-Err.ensures.never_bad now))

pub returns-in-Err-clause-cause : goal.returns-in-Err-clause-cause
returns-in-Err-clause-cause g c = λ is.
    let was = store-ended Unit c.args.file c.in-Err.fault (ap Err (sym c.of.ensures) ∙ is) in
    rose-later (g.S.Store.faults c.args.store.now) (g.S.Store.faults c.passing.store) (g.S.Store.faults c.next.new.store) c.passing.invariant.steady.later (c.in-Err.ensures.cause (ap Err was))

pub returns-in-Err-clause-store : goal.returns-in-Err-clause-store
returns-in-Err-clause-store g c = steady_more g.S.Store.faults g.S.Store.sound c.args.store.now c.passing.store c.next.new.store c.passing.invariant.steady c.in-Err.ensures.store

pub returns-in_err-take-in-Ok-clause-store : goal.returns-in_err-take-in-Ok-clause-store
returns-in_err-take-in-Ok-clause-store g c = steady_more g.S.Store.faults g.S.Store.sound c.args.store.now c.passing.store c.next.new.store c.passing.invariant.steady c.in-Ok.ensures.store
