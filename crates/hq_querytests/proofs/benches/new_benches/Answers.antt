-- One bench more: nothing was sent over its link either.
use Rattle.std.proofs.lemmas.List.Elements.{All-push}
use Rattle.hq_querytests.specs.Benches.{HasNewLink}
use Rattle.hq_querytests.proofs.benches.new_benches.Goals as goal

pub loop-host-preserved : goal.loop-host-preserved
loop-host-preserved g c = rw c.in_ok-push.ensures.items (All-push HasNewLink c.loop-host.benches.items c.in_ok-bench.bench c.loop-host.invariant c.in_ok-bench.ensures)
