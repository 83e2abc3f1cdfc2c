-- The bytes before this place are printed as they stand.
use Rattle.std.proofs.Common.{◌-◌, ◌≡◌, ◌≤◌, length, take, flat_map}
use Rattle.hq_reply.specs.Texts.{printed_byte}
use Rattle.hq_reply.proofs.values.plain_length.Given as goal

abbrev pub invariant-loop-count : goal.invariant-loop-count
invariant-loop-count l = (l.count ≤ length l.text) × (flat_map printed_byte (take l.count l.text) ≡ take l.count l.text)

abbrev pub decreases-loop-count : goal.decreases-loop-count
decreases-loop-count l = length l.text - l.count
