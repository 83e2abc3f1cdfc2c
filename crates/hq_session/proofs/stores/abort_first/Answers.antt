use Rattle.std.proofs.Common.{refl, true≢false}
use Rattle.hq_session.proofs.Benching.{first-later, first-rose, first-there, swept-by, tail-rose}
use Rattle.hq_session.proofs.stores.abort_first.Goals as goal

pub returns-in-Some-clause-there : goal.returns-in-Some-clause-there
returns-in-Some-clause-there g c =
    first-there c.args.txn.now c.abort_one.new.self c.abort_one.new.self.spare (λ e. true≢false (c.in-Some.ensures.none.1 e)) c.in-Some.ensures.failed

pub returns-in-Some-clause-later : goal.returns-in-Some-clause-later
returns-in-Some-clause-later g c =
    let was = c.index_mut-bench.result.now in
    first-later g.S.Store.faults g.H.Host.checks g.H.Host.faults g.L.Link.state c.args.benches.now.items was (record was { store = c.abort_one.new.store })
    c.requires c.index_mut-bench.ensures.value refl refl c.abort_one.ensures.store.later

pub returns-in-None-clause-later : goal.returns-in-None-clause-later
returns-in-None-clause-later g c =
    let was = c.index_mut-bench.result.now in
    first-later g.S.Store.faults g.H.Host.checks g.H.Host.faults g.L.Link.state c.args.benches.now.items was (record was { store = c.abort_one.new.store })
    c.requires c.index_mut-bench.ensures.value refl refl c.abort_one.ensures.store.later

pub returns-in-Some-clause-cut : goal.returns-in-Some-clause-cut
returns-in-Some-clause-cut g c =
    let was = c.index_mut-bench.result.now in
    swept-by _ _ _ _ _ (first-rose g.S.Store.faults g.H.Host.checks g.H.Host.faults g.L.Link.state c.args.benches.now.items was (record was { store = c.abort_one.new.store })
    c.requires c.index_mut-bench.ensures.value) c.in-Some.ensures.cut

pub returns-in-Some-clause-tail : goal.returns-in-Some-clause-tail
returns-in-Some-clause-tail g c =
    let was = c.index_mut-bench.result.now in
    tail-rose _ _ _ _ _ (first-rose g.S.Store.faults g.H.Host.checks g.H.Host.faults g.L.Link.state c.args.benches.now.items was (record was { store = c.abort_one.new.store })
    c.requires c.index_mut-bench.ensures.value) c.in-Some.ensures.cut c.tells_if_clean.ensures
