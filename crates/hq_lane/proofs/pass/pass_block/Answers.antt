-- A block that is passed without tests, or by its head.
use Rattle.std.proofs.Common.{rules, ◌≡◌, ◌∙◌, ◌+◌, ◌-◌, ◌≤◌, ℕ, List, [], length, vec_len, IsErrOf, IsNone, sym, subst, arith}
use Rattle.std.proofs.lemmas.Bool.{eqb-true}
use Rattle.std.proofs.lemmas.List.{nil_from_length}
use Rattle.hq_value.specs.Causes.{GoesOnGiving}
use Rattle.hq_value.proofs.Counting.{steady_more}
use Rattle.hq_block.specs.declared.head.BlockHead.{BlockHead}
use Rattle.hq_block.specs.declared.skip.ColumnTest.{ColumnTest}
use Rattle.hq_block.specs.Skipping.{read_length}
use Rattle.hq_lane.specs.Scans.{PassesBlock}
use Rattle.hq_lane.specs.declared.block.Stop.TheVariants as stop
use Rattle.hq_lane.proofs.Passing.{passed_untested, read_some}
use Rattle.hq_lane.proofs.Scanning.{gave_more}
use Rattle.hq_lane.proofs.pass.pass_block.Goals as goal

pub returns-then-is_empty-clause-passed : goal.returns-then-is_empty-clause-passed
returns-then-is_empty-clause-passed g c =
    let e = c.in_ok-read_block.ensures in
    let tells = g.R.Readable.tells c.args.range.now in
    let all = g.R.Readable.bytes c.args.range.now in
    let none : c.args.tests.now ≡ [] = nil_from_length c.args.tests.now (eqb-true (length c.args.tests.now) 0 (sym c.is_empty.ensures ∙ c.if-is_empty.true)) in
    let p = passed_untested tells all c.args.at (vec_len c.read_block.new.bytes) c.args.kinds.now c.args.rows.now.items c.read_block.new.rows.items e.found in
    subst (λ (tests : List ColumnTest). (head : BlockHead) × (head.length ≡ c.len.result) × PassesBlock tells all c.args.at c.args.kinds.now tests head c.args.rows.now.items c.read_block.new.rows.items
    × GoesOnGiving g.S.Store.faults g.S.Store.given g.S.Store.sound (read_length tests head) c.args.store.now c.read_block.new.store) (sym none) (
      p.head,
      p.length_is ∙ sym c.len.ensures,
      p.passes,
      subst (λ (n : ℕ). GoesOnGiving g.S.Store.faults g.S.Store.given g.S.Store.sound n c.args.store.now c.read_block.new.store) (sym p.read) e.gave,
    )

pub returns-in_default-clause-bad : goal.returns-in_default-clause-bad
returns-in_default-clause-bad g c = λ _.
    let front = c.in_ok-len.ensures in
    let none : IsNone c.in_ok-len.field-0 = search rules in
    record {
      behind = omega arith;
      before = c.requires.before;
      within = omega (arith, front.long, c.read_front.new.bytes.ok.0, c.requires.before);
      no_block = λ more fits. front.none none c.args.kinds.now more fits;
    }

pub returns-in_err-pass_rest-clause-bad : goal.returns-in_err-pass_rest-clause-bad
returns-in_err-pass_rest-clause-bad g c = λ is_bad.
    let bad : IsErrOf c.pass_rest.result stop.BadBlock = search rules in
    let short : c.in-Some.len ≤ c.args.to - c.args.at = search rules in
    let rest = c.pass_rest.ensures in
    record {
      behind = omega arith;
      before = c.requires.before;
      within = omega (arith, rest.bad_long bad, short, c.requires.before);
      no_block = λ more fits. rest.bad bad more;
    }

pub returns-clause-passed : goal.returns-clause-passed
returns-clause-passed g c =
    let first = c.in_ok-len.ensures in
    let p = c.in_ok-pass_rest.ensures.passed in
    let tells = g.R.Readable.tells c.args.range.now in
    let all = g.R.Readable.bytes c.args.range.now in
    let some : 16 ≤ read_length c.args.tests.now p.0 = read_some tells all c.args.at c.args.kinds.now c.args.tests.now p.0 c.args.rows.now.items c.pass_rest.new.rows.items p.2 in
    let sixteen : vec_len c.read_front.new.bytes ≡ 16 = search rules in
    let sum : vec_len c.read_front.new.bytes + (read_length c.args.tests.now p.0 - 16) ≡ read_length c.args.tests.now p.0 = omega (arith, some, sixteen) in (
      p.0,
      p.1,
      p.2,
      gave_more g.S.Store.faults g.S.Store.given g.S.Store.sound (vec_len c.read_front.new.bytes) (read_length c.args.tests.now p.0 - 16) _ c.args.store.now c.read_front.new.store c.pass_rest.new.store sum first.gave p.3,
    )

pub returns-clause-store : goal.returns-clause-store
returns-clause-store g c =
    let first = c.in_ok-len.ensures.gave in
    steady_more g.S.Store.faults g.S.Store.sound c.args.store.now c.read_front.new.store c.pass_rest.new.store
    (record { later = first.later; steady = first.steady; stays_sound = first.stays_sound }) c.pass_rest.ensures.store
