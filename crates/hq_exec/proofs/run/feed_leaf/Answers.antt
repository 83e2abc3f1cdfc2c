use Rattle.std.proofs.Common.{List, sym, subst}
use Rattle.hq_value.specs.declared.kind.Kind.{Kind}
use Rattle.hq_algebra.specs.declared.op.Op.{Op}
use Rattle.hq_algebra.specs.declared.op.Op.TheVariants as op
use Rattle.hq_fits.specs.Supplied.{AreFit}
use Rattle.hq_meaning.specs.Rows.{Row}
use Rattle.hq_exec.specs.Builds.{kinds_at}
use Rattle.hq_exec.specs.Ends.{IfBadBlock, IsBadLeaf}
use Rattle.hq_exec.specs.Lines.{CanTake, line_state}
use Rattle.hq_exec.specs.Slices.{IsGiven, SealsStand, OwnStand}
use Rattle.hq_exec.proofs.Bad.{bad-more, at-leaf}
use Rattle.hq_exec.proofs.Flows.{scan-so, received, nowhere}
use Rattle.hq_exec.proofs.run.feed_leaf.Goals as goal

pub feed_table-requires-clause-there : goal.feed_table-requires-clause-there
feed_table-requires-clause-there g c = subst (IsGiven c.args.held.now) c.in-Scan.is c.requires.given

pub feed_table-requires-clause-can_take : goal.feed_table-requires-clause-can_take
feed_table-requires-clause-can_take g c = subst (λ (l : Op). CanTake (kinds_at l) (line_state c.args.line.now (g.O.RowOut.state c.args.out.now))) c.in-Scan.is c.requires.can_take

pub feed_table-requires-clause-seals : goal.feed_table-requires-clause-seals
feed_table-requires-clause-seals g c = λ t. subst (SealsStand c.args.held.now) c.in-Scan.is (c.requires.seals t)

pub feed_table-requires-clause-own : goal.feed_table-requires-clause-own
feed_table-requires-clause-own g c = λ t. subst (OwnStand c.args.held.now) c.in-Scan.is (c.requires.own t)

pub returns-in_ok-tests-in-Scan-clause-fed : goal.returns-in_ok-tests-in-Scan-clause-fed
returns-in_ok-tests-in-Scan-clause-fed g c =
    scan-so g.S.Store.faults g.S.Store.given g.S.Store.sound _ c.args.held.now c.feed_table.result c.args.leaf.now.op.now c.in-Scan.table c.in-Scan.kinds c.as_slice.result.now _ c.deref.result.now c.in_ok-tests-in-Scan.tests.items
    c.args.store.now c.feed_table.new.store _ _ c.in-Scan.is c.as_slice.ensures c.deref.ensures.value c.in_ok-tests-in-Scan.ensures c.feed_table.ensures.fed

pub returns-in_ok-tests-in-Scan-clause-bad : goal.returns-in_ok-tests-in-Scan-clause-bad
returns-in_ok-tests-in-Scan-clause-bad g c =
    subst (λ (l : Op). IfBadBlock c.feed_table.result (IsBadLeaf l c.args.held.now.buckets)) (sym c.in-Scan.is)
    (bad-more c.feed_table.result _ _ (at-leaf c.in-Scan.table c.in-Scan.kinds c.args.held.now.buckets) c.feed_table.ensures.bad)

pub feed_rows-requires-clause-fit : goal.feed_rows-requires-clause-fit
feed_rows-requires-clause-fit g c = subst (λ (l : List Row). AreFit c.in-Receive.kinds l) (sym c.sent-rows.ensures) (subst (IsGiven c.args.held.now) c.in-Receive.is c.requires.given)

pub feed_rows-requires-clause-can_take : goal.feed_rows-requires-clause-can_take
feed_rows-requires-clause-can_take g c = subst (λ (l : Op). CanTake (kinds_at l) (line_state c.args.line.now (g.O.RowOut.state c.args.out.now))) c.in-Receive.is c.requires.can_take

pub returns-in_ok-feed_rows-in-Receive-clause-fed : goal.returns-in_ok-feed_rows-in-Receive-clause-fed
returns-in_ok-feed_rows-in-Receive-clause-fed g c =
    received g.S.Store.faults g.S.Store.given g.S.Store.sound _ c.args.held.now c.args.leaf.now.op.now c.in-Receive.slice c.in-Receive.kinds _ c.sent-rows.result.now c.args.store.now _ _ c.in-Receive.is c.sent-rows.ensures
    (subst (λ (l : List Row). AreFit c.in-Receive.kinds l) (sym c.sent-rows.ensures) (subst (IsGiven c.args.held.now) c.in-Receive.is c.requires.given)) c.in_ok-feed_rows-in-Receive.ensures.takes c.in_ok-feed_rows-in-Receive.ensures.can

pub returns-in_default-clause-fed : goal.returns-in_default-clause-fed
returns-in_default-clause-fed g c =
    nowhere g.S.Store.faults g.S.Store.given g.S.Store.sound _ c.args.held.now c.args.leaf.now.op.now _ c.args.store.now (line_state c.args.line.now (g.O.RowOut.state c.args.out.now)) c.in_default.not-Scan c.in_default.not-Receive c.requires.can_take
