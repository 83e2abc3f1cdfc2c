use Rattle.std.proofs.Common.{◌∙◌, sym}
use Rattle.hq_exec.specs.Lines.{line_state}
use Rattle.hq_exec.proofs.Bad.{bad-more, for-bucket}
use Rattle.hq_exec.proofs.Buckets.{fed-not-given, given-so}
use Rattle.hq_exec.proofs.feed.feed_given.Goals as goal

pub returns-then-not-has_bucket-clause-fed : goal.returns-then-not-has_bucket-clause-fed
returns-then-not-has_bucket-clause-fed g c =
    fed-not-given g.S.Store.faults g.S.Store.given g.S.Store.sound c.args.kinds.now c.args.tests.now _ c.args.snap.now.lanes c.args.held.now c.args.table c.args.bucket c.args.store.now (line_state c.args.line.now (g.O.RowOut.state c.args.out.now))
    (sym c.has_bucket.ensures ∙ c.if-not-has_bucket.true) c.requires.can_take

pub returns-clause-fed : goal.returns-clause-fed
returns-clause-fed g c =
    given-so g.S.Store.faults g.S.Store.given g.S.Store.sound c.args.kinds.now c.args.tests.now c.feed_bucket.result _ c.args.snap.now.lanes c.args.held.now c.args.table c.args.bucket c.args.store.now c.feed_bucket.new.store _ _
    (sym c.has_bucket.ensures ∙ c.if-not-has_bucket.false) c.feed_bucket.ensures.fed

pub returns-clause-bad : goal.returns-clause-bad
returns-clause-bad g c = bad-more c.feed_bucket.result _ _ (for-bucket c.args.table c.args.bucket c.args.kinds.now c.args.held.now.buckets (sym c.has_bucket.ensures ∙ c.if-not-has_bucket.false)) c.feed_bucket.ensures.bad
