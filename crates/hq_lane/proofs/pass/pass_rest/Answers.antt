-- A block that is skipped by its head, or read.
use Rattle.std.proofs.Common.{rules, ◌≡◌, ◌∙◌, ◌+◌, ◌-◌, ℕ, true, false, length, vec_len, slice_range, IsErrOf, sym, ap, subst, arith}
use Rattle.hq_value.specs.Causes.{GoesOnGiving}
use Rattle.hq_block.specs.Skipping.{skips, read_length}
use Rattle.hq_lane.specs.declared.block.Stop.TheVariants as stop
use Rattle.hq_lane.proofs.Passing.{passed_over, passed_whole, skipped_length, whole_length}
use Rattle.hq_lane.proofs.Scanning.{gave_more}
use Rattle.hq_lane.proofs.pass.pass_rest.Goals as goal

pub returns-in_err-head-clause-bad : goal.returns-in_err-head-clause-bad
returns-in_err-head-clause-bad g c = λ is_bad more.
    let bad : IsErrOf c.read_bounds.result stop.BadBlock = search rules in
    c.read_bounds.ensures.bad bad more

pub returns-in_err-read_rest-clause-bad : goal.returns-in_err-read_rest-clause-bad
returns-in_err-read_rest-clause-bad g c = λ is_bad more.
    let bad : IsErrOf c.read_rest.result stop.BadBlock = search rules in
    c.read_rest.ensures.bad bad more

pub returns-then-skips-clause-passed : goal.returns-then-skips-clause-passed
returns-then-skips-clause-passed g c =
    let e = c.in_ok-head.ensures in
    let head = c.in_ok-head.head in
    let skip : skips c.args.tests.now head.bounds ≡ true = cc (c.skips.ensures, c.if-skips.true) in
    let size : vec_len c.read_bounds.new.bytes - 16 ≡ read_length c.args.tests.now head - 16 = omega (arith, e.long, skipped_length c.args.tests.now head skip) in (
      head,
      e.length,
      passed_over (g.R.Readable.tells c.args.range.now) (g.R.Readable.bytes c.args.range.now) c.args.at c.args.kinds.now c.args.tests.now head c.read_bounds.new.bytes.items c.args.rows.now.items skip e.begun e.says e.told,
      subst (λ (n : ℕ). GoesOnGiving g.S.Store.faults g.S.Store.given g.S.Store.sound n c.args.store.now c.read_bounds.new.store) size e.gave,
    )

pub returns-clause-passed : goal.returns-clause-passed
returns-clause-passed g c =
    let e = c.in_ok-head.ensures in
    let r = c.in_ok-read_rest.ensures in
    let head = c.in_ok-head.head in
    let tells = g.R.Readable.tells c.args.range.now in
    let all = g.R.Readable.bytes c.args.range.now in
    let front = c.read_bounds.new.bytes in
    let now = c.read_rest.new.bytes in
    let keep : skips c.args.tests.now head.bounds ≡ false = cc (c.skips.ensures, c.if-skips.false) in
    let long : length now.items ≡ c.args.len = omega (arith, r.long, now.ok.0) in
    let sum : (vec_len front - 16) + (c.args.len - vec_len front) ≡ read_length c.args.tests.now head - 16 = omega (arith, e.front, e.within, e.length, whole_length c.args.tests.now head keep) in (
      head,
      e.length,
      passed_whole tells all c.args.at c.args.kinds.now c.args.tests.now head front.items now.items c.args.rows.now.items c.read_rest.new.rows.items keep e.begun e.says r.front (long ∙ sym e.length)
          (λ t. r.told t ∙ ap (λ (n : ℕ). slice_range all c.args.at (c.args.at + n)) (sym long)) r.taken,
      gave_more g.S.Store.faults g.S.Store.given g.S.Store.sound (vec_len front - 16) (c.args.len - vec_len front) _ c.args.store.now c.read_bounds.new.store c.read_rest.new.store sum e.gave r.gave,
    )
