-- A block more is read, and in the end no block is left.
use Rattle.std.proofs.Common.{rules, ◌≡◌, ◌++◌, [], IsTrue, ap, ◌∙◌}
use Rattle.hq_lane.specs.Cursors.{CursorState}
use Rattle.hq_lane.specs.FileBlocks.{kept_rows}
use Rattle.hq_table.proofs.Scanned.{kept-more, kept-all}
use Rattle.hq_table.proofs.scan.scan_bucket.Goals as goal

pub loop-cursor-preserved : goal.loop-cursor-preserved
loop-cursor-preserved c =
    let so_far = c.loop-cursor.invariant in
    let told = c.in-Ok.ensures in
    let passed = told.passed.1 in
    record {
      told = ap (λ (s : CursorState). s.told) told.cursor ∙ so_far.told;
      kinds = ap (λ (s : CursorState). s.kinds) told.cursor ∙ so_far.kinds;
      tests = ap (λ (s : CursorState). s.tests) told.cursor ∙ so_far.tests;
      rows = kept-more c.args.kinds.now c.loop-cursor.cursor.kinds c.loop-cursor.cursor.tests c.loop-cursor.cursor.left c.next.new.self.left c.loop-cursor.rows.items c.next.new.rows.items passed.found
          (c.args.rows.now.items ++ kept_rows [] c.args.kinds.now c.args.seal.now.bytes) so_far.kinds so_far.tests so_far.rows passed.added (passed.rows so_far.told);
      quiet = record { faults = told.store.steady so_far.quiet.sound ∙ so_far.quiet.faults; sound = told.store.stays_sound so_far.quiet.sound };
    }

pub returns-clause-added : goal.returns-clause-added
returns-clause-added c = λ kept is.
    let done : IsTrue c.is_done.result = search rules in
    let all = kept-all c.args.kinds.now c.loop-cursor.cursor.left c.loop-cursor.rows.items (c.args.rows.now.items ++ kept_rows [] c.args.kinds.now c.args.seal.now.bytes) (c.is_done.ensures.left done) c.loop-cursor.invariant.rows in
    all ∙ ap (λ rows. c.args.rows.now.items ++ rows) (c.skipping_loses_no_row.ensures.all_rows c.args.kinds.now c.args.seal.now.bytes kept is)
