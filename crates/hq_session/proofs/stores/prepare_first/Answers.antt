use Rattle.std.proofs.Common.{Err, ap, refl}
use Rattle.hq_session.proofs.Benching.{first-later, first-rose}
use Rattle.hq_session.proofs.stores.prepare_first.Goals as goal

pub returns-in-Ok-clause-later : goal.returns-in-Ok-clause-later
returns-in-Ok-clause-later g c =
    let was = c.index_mut-bench.result.now in
    first-later g.S.Store.faults g.H.Host.checks g.H.Host.faults g.L.Link.state c.args.benches.now.items was (record was { store = c.prepare_commit.new.store })
    c.requires.some c.index_mut-bench.ensures.value refl refl c.prepare_commit.ensures.store.later

pub returns-in-Err-Failed-clause-later : goal.returns-in-Err-Failed-clause-later
returns-in-Err-Failed-clause-later g c =
    let was = c.index_mut-bench.result.now in
    first-later g.S.Store.faults g.H.Host.checks g.H.Host.faults g.L.Link.state c.args.benches.now.items was (record was { store = c.prepare_commit.new.store })
    c.requires.some c.index_mut-bench.ensures.value refl refl c.prepare_commit.ensures.store.later

pub returns-in-Err-NoMemory-clause-later : goal.returns-in-Err-NoMemory-clause-later
returns-in-Err-NoMemory-clause-later g c =
    let was = c.index_mut-bench.result.now in
    first-later g.S.Store.faults g.H.Host.checks g.H.Host.faults g.L.Link.state c.args.benches.now.items was (record was { store = c.prepare_commit.new.store })
    c.requires.some c.index_mut-bench.ensures.value refl refl c.prepare_commit.ensures.store.later

pub returns-in-Err-Failed-clause-cause : goal.returns-in-Err-Failed-clause-cause
returns-in-Err-Failed-clause-cause g c =
    let was = c.index_mut-bench.result.now in (
      0,
      first-rose g.S.Store.faults g.H.Host.checks g.H.Host.faults g.L.Link.state c.args.benches.now.items was (record was { store = c.prepare_commit.new.store })
          c.requires.some c.index_mut-bench.ensures.value (c.in-Err-Failed.ensures.cause (ap Err c.in-Err-Failed.field-0-is)),
    )
