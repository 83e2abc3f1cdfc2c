use Rattle.std.proofs.Common.{◌∙◌, List, sym, ap, subst, arith}
use Rattle.hq_value.specs.declared.kind.Kind.{Kind}
use Rattle.hq_lane.specs.BucketFiles.{own_bytes}
use Rattle.hq_lane.specs.Cursors.{CursorState}
use Rattle.hq_lane.specs.Lanes.{file_of}
use Rattle.hq_exec.specs.Lines.{CanTake, line_state}
use Rattle.hq_exec.proofs.Bad.{bad-so-file}
use Rattle.hq_exec.proofs.Buckets.{own-stands, fed-other, own-so, cursor-so}
use Rattle.hq_exec.proofs.feed.feed_own_lane.Goals as goal

pub returns-then-table-clause-fed : goal.returns-then-table-clause-fed
returns-then-table-clause-fed g c =
    fed-other g.S.Store.faults g.S.Store.given g.S.Store.sound c.args.kinds.now c.args.tests.now _ c.args.lane.now c.args.table c.args.bucket c.args.store.now (line_state c.args.line.now (g.O.RowOut.state c.args.out.now))
    (λ e. c.if-table.true (c.table.ensures ∙ e)) c.requires.can_take

pub own_blocks-cursor-requires : goal.own_blocks-cursor-requires
own_blocks-cursor-requires g c = (
  omega arith,
  (c.requires.within, λ told. own-stands c.args.kinds.now c.args.lane.now c.args.table c.args.bucket (sym c.table.ensures ∙ c.if-table.false) (c.requires.own told)),
)

pub feed_blocks-requires : goal.feed_blocks-requires
feed_blocks-requires g c = subst (λ (k : List Kind). CanTake k (line_state c.args.line.now (g.O.RowOut.state c.args.out.now))) (sym (ap (λ (s : CursorState). s.kinds) c.own_blocks-cursor.ensures.cursor)) c.requires.can_take

pub returns-clause-fed : goal.returns-clause-fed
returns-clause-fed g c =
    let is = c.own_blocks-cursor.ensures.cursor in
    own-so g.S.Store.faults g.S.Store.given g.S.Store.sound c.args.kinds.now c.args.tests.now c.feed_blocks.result _ c.args.lane.now c.args.table c.args.bucket c.args.store.now c.feed_blocks.new.store _ _ (sym c.table.ensures ∙ c.if-table.false)
    (cursor-so g.S.Store.faults g.S.Store.given g.S.Store.sound c.args.kinds.now c.args.tests.now c.feed_blocks.result _ (own_bytes (file_of c.args.lane.now.files c.args.bucket)) c.own_blocks-cursor.result c.args.store.now c.feed_blocks.new.store _ _
    (ap (λ (s : CursorState). s.told) is) (ap (λ (s : CursorState). s.kinds) is) (ap (λ (s : CursorState). s.tests) is) (λ t. ap (λ (s : CursorState). s.left) is) c.feed_blocks.ensures.fed)

pub returns-clause-bad : goal.returns-clause-bad
returns-clause-bad g c =
    bad-so-file c.feed_blocks.result (record { table = c.args.table; lane = c.number.result; bucket = c.args.bucket }) c.own_blocks-cursor.result.kinds c.args.kinds.now (ap (λ (s : CursorState). s.kinds) c.own_blocks-cursor.ensures.cursor) c.feed_blocks.ensures.bad

pub returns-clause-never_bad : goal.returns-clause-never_bad
returns-clause-never_bad g c = λ t. c.feed_blocks.ensures.never_bad (ap (λ (s : CursorState). s.told) c.own_blocks-cursor.ensures.cursor ∙ t)
