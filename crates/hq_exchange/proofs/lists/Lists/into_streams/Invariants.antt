use Rattle.std.proofs.Common.{◌≡◌, ℕ, ◌≤◌, take, map, Some}
use Rattle.std.specs.Prelude.{slice_get}
use Rattle.hq_pump.specs.Seen.{seen}
use Rattle.hq_exchange.specs.Lists.{bytes_at}
use Rattle.hq_exchange.proofs.lists.Lists.into_streams.Given as goal

abbrev pub invariant-loop-from : goal.invariant-loop-from
invariant-loop-from l = record {
  given : seen l.streams.items ≡ map (λ n. (n, bytes_at l.fn.self.lists.items n)) (take l.from-index l.senders);
  left : (j n : ℕ) → l.from-index ≤ j → slice_get l.senders j ≡ Some n → bytes_at l.lists.items n ≡ bytes_at l.fn.self.lists.items n;
}
