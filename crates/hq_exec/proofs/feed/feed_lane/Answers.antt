use Rattle.std.proofs.Common.{◌≡◌, ◌∙◌, List, Option, Some, IsTrue, sym, ap, subst}
use Rattle.hq_value.specs.declared.kind.Kind.{Kind}
use Rattle.hq_store.specs.FileStep.{SealState}
use Rattle.hq_lane.specs.Cursors.{CursorState}
use Rattle.hq_lane.specs.Scans.{IsFile}
use Rattle.hq_snap.specs.Snaps.{seal_at, seal_bytes}
use Rattle.hq_exec.specs.Lines.{CanTake, line_state}
use Rattle.hq_exec.proofs.Bad.{bad-so-file}
use Rattle.hq_exec.proofs.Buckets.{fed-no-seal, cursor-so}
use Rattle.hq_exec.proofs.feed.feed_lane.Goals as goal

pub returns-in-None-clause-fed : goal.returns-in-None-clause-fed
returns-in-None-clause-fed g c =
    fed-no-seal g.S.Store.faults g.S.Store.given g.S.Store.sound c.args.kinds.now c.args.tests.now _ (seal_at c.args.lane.now c.args.file.bucket) c.args.store.now (line_state c.args.line.now (g.O.RowOut.state c.args.out.now)) c.in-None.ensures c.requires.can_take

pub under_seal-cursor-requires : goal.under_seal-cursor-requires
under_seal-cursor-requires g c = λ told. subst (λ (z : Option SealState). IsFile c.args.kinds.now (seal_bytes z)) (sym c.in-Some.ensures) (c.requires.seals told)

pub feed_blocks-requires : goal.feed_blocks-requires
feed_blocks-requires g c = subst (λ (k : List Kind). CanTake k (line_state c.args.line.now (g.O.RowOut.state c.args.out.now))) (sym (ap (λ (s : CursorState). s.kinds) c.under_seal-cursor.ensures.cursor)) c.requires.can_take

pub returns-in-Some-clause-fed : goal.returns-in-Some-clause-fed
returns-in-Some-clause-fed g c =
    let is = c.under_seal-cursor.ensures.cursor in
    cursor-so g.S.Store.faults g.S.Store.given g.S.Store.sound c.args.kinds.now c.args.tests.now c.feed_blocks.result _ (seal_bytes (seal_at c.args.lane.now c.args.file.bucket)) c.under_seal-cursor.result c.args.store.now c.feed_blocks.new.store _ _
    (ap (λ (s : CursorState). s.told) is) (ap (λ (s : CursorState). s.kinds) is) (ap (λ (s : CursorState). s.tests) is) (λ t. c.under_seal-cursor.ensures.left t ∙ ap seal_bytes c.in-Some.ensures) c.feed_blocks.ensures.fed

pub returns-in-Some-clause-bad : goal.returns-in-Some-clause-bad
returns-in-Some-clause-bad g c =
    bad-so-file c.feed_blocks.result c.args.file c.under_seal-cursor.result.kinds c.args.kinds.now (ap (λ (s : CursorState). s.kinds) c.under_seal-cursor.ensures.cursor) c.feed_blocks.ensures.bad

pub returns-in-Some-clause-never_bad : goal.returns-in-Some-clause-never_bad
returns-in-Some-clause-never_bad g c = λ t. c.feed_blocks.ensures.never_bad (ap (λ (s : CursorState). s.told) c.under_seal-cursor.ensures.cursor ∙ t)
