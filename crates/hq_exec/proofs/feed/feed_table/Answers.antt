use Rattle.std.proofs.Common.{◌≡◌, ◌∙◌, Some, sym}
use Rattle.hq_exec.specs.Files.{table_in}
use Rattle.hq_exec.proofs.Buckets.{table-files, table-so}
use Rattle.hq_exec.proofs.feed.feed_table.Goals as goal

pub feed_buckets-requires-clause-seals : goal.feed_buckets-requires-clause-seals
feed_buckets-requires-clause-seals g c = λ told. table-files c.args.kinds.now c.args.held.now c.args.table c.in-Some.snap.now (sym c.in-Some.ensures) (c.requires.seals told)

pub returns-clause-fed : goal.returns-clause-fed
returns-clause-fed g c =
    table-so g.S.Store.faults g.S.Store.given g.S.Store.sound c.args.kinds.now c.args.tests.now c.feed_buckets.result _ c.args.held.now c.args.table c.in-Some.snap.now c.args.store.now c.feed_buckets.new.store _ _ (sym c.in-Some.ensures) c.requires.there.kinds_are
    c.feed_buckets.ensures.fed
