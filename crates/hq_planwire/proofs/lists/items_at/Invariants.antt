use Rattle.std.proofs.Common.{◌≡◌, ◌-◌}
use Rattle.hq_planwire.specs.Reading.{items_at}
use Rattle.hq_planwire.proofs.Turns.{with_front}
use Rattle.hq_planwire.proofs.lists.items_at.Given as goal

abbrev pub invariant-loop : goal.invariant-loop
invariant-loop g l = with_front l.items (items_at g.T.Member.reader (l.count - l.counter) l.rest) ≡ items_at g.T.Member.reader l.count l.bytes
