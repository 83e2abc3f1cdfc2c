-- The cursor stands behind the block that it passed.
use Rattle.std.proofs.Common.{rules, refl, sym, subst, IsErrOf, IsTrue}
use Rattle.hq_value.specs.Causes.{GoesOnGiving}
use Rattle.hq_block.specs.Skipping.{read_length}
use Rattle.hq_lane.specs.declared.block.Stop.TheVariants as stop
use Rattle.hq_lane.specs.Cursors.{CursorState}
use Rattle.hq_lane.proofs.Passing.{next_goes, has_passed, never_bad_here}
use Rattle.hq_lane.proofs.cursor.BlockCursor.next.Goals as goal

pub invariant_of-self : goal.invariant_of-self
invariant_of-self g c =
    let p = c.in-Ok.ensures.passed in
    record {
      order = c.in-Ok.ensures.within;
      within = c.self.invariant.within;
      file = λ t. (next_goes _ c.self.inside.at c.in-Ok.len c.self.inside.to _ _ p.0 _ _ _ p.2 p.1 c.in-Ok.ensures.within t (c.self.invariant.file t)).file;
    }

pub returns-in-Ok-clause-passed : goal.returns-in-Ok-clause-passed
returns-in-Ok-clause-passed g c =
    let p = c.in-Ok.ensures.passed in (
      p.0,
      has_passed c.args.self.now _ _ _ c.in-Ok.len p.0 c.args.rows.now.items c.pass_block-passed.new.rows.items c.self.view_is p.2 p.1 c.in-Ok.ensures.some c.in-Ok.ensures.within refl c.self.invariant.file refl,
      subst (λ (s : CursorState). GoesOnGiving g.S.Store.faults g.S.Store.given g.S.Store.sound (read_length s.tests p.0) c.args.store.now c.pass_block-passed.new.store) c.self.view_is p.3,
    )

pub returns-in-Err-BadBlock-clause-never_bad : goal.returns-in-Err-BadBlock-clause-never_bad
returns-in-Err-BadBlock-clause-never_bad g c = λ t.
    let bad : IsErrOf c.pass_block-passed.result stop.BadBlock = search rules in
    let told = subst (λ (s : CursorState). IsTrue s.told) (sym c.self.view_is) t in
    let e = c.pass_block-passed.ensures in
    never_bad_here c.self.inside.kinds.now _ c.pass_block-passed.new.bytes.items c.self.inside.at c.self.inside.to (e.bad_some bad) (c.self.invariant.file told) (e.bad_told bad told) (e.bad bad)
