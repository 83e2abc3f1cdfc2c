-- A client with no planned call left meets no fault.
use Rattle.std.proofs.Common.{◌≡◌, ◌∙◌, false, ap}
use Rattle.std.specs.Prelude.{is_some}
use Rattle.hq_store.proofs.Plans.{no_next_tail}
use Rattle.hq_store.proofs.mem_store.MemStore.count.Goals as goal

pub returns-then-is_some-clause-steady : goal.returns-then-is_some-clause-steady
returns-then-is_some-clause-steady c left =
    let unplanned : is_some c.next_tail-tail.result ≡ false =
    ap is_some (c.next_tail-tail.ensures ∙ no_next_tail c.args.self.now left) in
    cc (unplanned, c.is_some.ensures, c.if-is_some.true)
