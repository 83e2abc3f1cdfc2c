use Rattle.std.proofs.Common.{◌≡◌, ◌+◌, length}
use Rattle.hq_wiretests.specs.Streams.{GoDown}
use Rattle.hq_wiretests.proofs.streams.streams.Given as goal

abbrev pub invariant-loop-text : goal.invariant-loop-text
invariant-loop-text l = record {
  down : GoDown l.fn.first l.streams.items;
  top : l.from + length l.streams.items ≡ l.fn.first;
}
