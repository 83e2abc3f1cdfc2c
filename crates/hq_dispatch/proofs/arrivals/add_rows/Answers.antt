-- The rows of a sender behind the others.
use Rattle.std.proofs.Common.{◌≡◌, true, rules}
use Rattle.hq_dispatch.proofs.Arriving.{rows-added}
use Rattle.hq_dispatch.proofs.arrivals.add_rows.Goals as goal

pub returns-clause-rows : goal.returns-clause-rows
returns-clause-rows c =
    let on : c.args.sends ≡ true = search rules in
    rows-added c.args.kinds.now c.args.all.now.items c.append.new.self.items c.in_ok-rows.rows.items c.args.arrival c.args.sends on c.requires.some c.in_ok-rows.ensures c.in_ok-append.ensures.items
