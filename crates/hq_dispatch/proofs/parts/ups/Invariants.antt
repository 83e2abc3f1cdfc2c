-- The nodes so far have their flags.
use Rattle.std.proofs.Common.{◌≡◌, ◌<◌, ℕ, length}
use Rattle.hq_dispatch.specs.Owners.{has_flag}
use Rattle.hq_dispatch.proofs.parts.ups.Given as goal

abbrev pub invariant-loop-node : goal.invariant-loop-node
invariant-loop-node l = record {
  so_far : (k : ℕ) → k < l.node → has_flag l.flags k ≡ has_flag l.marks k;
  len : length l.flags ≡ 16;
}
