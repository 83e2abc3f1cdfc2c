use Rattle.std.proofs.Common.{Bool, sym, ap, subst}
use Rattle.std.proofs.lemmas.Result.{err_from_is_err_and}
use Rattle.hq_exec.specs.Builds.{kinds_at, lists_of}
use Rattle.hq_exec.specs.Slices.{IsGiven, SealsStand, OwnStand}
use Rattle.hq_exec.proofs.Bad.{bad-so, in-op}
use Rattle.hq_exec.proofs.Leaves.{leaf-has}
use Rattle.hq_exec.proofs.Runs.{begun-ready, fed-leaf, ran-of, ran-either}
use Rattle.hq_exec.proofs.run.run.Goals as goal

pub feed_leaf-requires-clause-given : goal.feed_leaf-requires-clause-given
feed_leaf-requires-clause-given g c = subst (IsGiven c.args.held.now) (sym c.leaf_of-leaf.ensures.op) (leaf-has (IsGiven c.args.held.now) c.args.op.now c.requires.inputs)

pub feed_leaf-requires-clause-can_take : goal.feed_leaf-requires-clause-can_take
feed_leaf-requires-clause-can_take g c =
    begun-ready c.args.op.now (lists_of c.args.builds.now) c.requires.accepts.0 (kinds_at c.leaf_of-leaf.result.op.now) c.args.failed c.in_ok-pipes.pipes.items (g.O.RowOut.state c.args.out.now)
    c.requires.accepts.1 (ap kinds_at c.leaf_of-leaf.ensures.op) c.requires.builds c.in_ok-pipes.ensures c.requires.accepts.2

pub feed_leaf-requires-clause-seals : goal.feed_leaf-requires-clause-seals
feed_leaf-requires-clause-seals g c = λ t. subst (SealsStand c.args.held.now) (sym c.leaf_of-leaf.ensures.op) (leaf-has (SealsStand c.args.held.now) c.args.op.now (c.requires.seals t))

pub feed_leaf-requires-clause-own : goal.feed_leaf-requires-clause-own
feed_leaf-requires-clause-own g c = λ t. subst (OwnStand c.args.held.now) (sym c.leaf_of-leaf.ensures.op) (leaf-has (OwnStand c.args.held.now) c.args.op.now (c.requires.own t))

pub finish-requires : goal.finish-requires
finish-requires g c = (kinds_at c.leaf_of-leaf.result.op.now, c.in_ok-feed_leaf.ensures.fed.can_take)

pub returns-clause-ran : goal.returns-clause-ran
returns-clause-ran g c =
    ran-either g.S.Store.faults g.S.Store.given g.S.Store.sound _ c.args.held.now c.args.op.now (lists_of c.args.builds.now) c.args.failed c.in_ok-fault.fault c.either.result c.args.store.now c.feed_leaf.new.store _ _ c.either.ensures
    (ran-of g.S.Store.faults g.S.Store.given g.S.Store.sound _ c.args.held.now c.args.op.now (lists_of c.args.builds.now) c.args.failed c.in_ok-fault.fault c.requires.accepts.0 c.in_ok-pipes.pipes.items c.args.store.now c.feed_leaf.new.store
    (g.O.RowOut.state c.args.out.now) _ (g.O.RowOut.state c.finish.new.out) c.requires.accepts.1 c.requires.builds c.in_ok-pipes.ensures
    (fed-leaf g.S.Store.faults g.S.Store.given g.S.Store.sound _ c.args.held.now c.args.op.now (lists_of c.args.builds.now) c.leaf_of-leaf.result.op.now _ c.args.store.now c.feed_leaf.new.store _ _ c.leaf_of-leaf.ensures.op c.leaf_of-leaf.ensures.above c.in_ok-feed_leaf.ensures.fed)
    c.in_ok-fault.ensures.ends)

pub returns-in_err-feed_leaf-clause-bad : goal.returns-in_err-feed_leaf-clause-bad
returns-in_err-feed_leaf-clause-bad g c =
    let p = err_from_is_err_and c.from_residual-in_err-feed_leaf.result c.from_residual-in_err-feed_leaf.ensures.1 in
    rw (p.1, p.2) (bad-so Unit Bool c.in_err-feed_leaf.field-0.0 _ _ (in-op c.args.op.now c.leaf_of-leaf.result.op.now c.args.held.now.buckets c.leaf_of-leaf.ensures.op) c.in_err-feed_leaf.ensures.bad)
