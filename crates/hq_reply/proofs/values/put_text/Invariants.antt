-- The bytes before this place were put.
use Rattle.std.proofs.Common.{◌-◌, ◌≤◌, length, take, flat_map, Ok}
use Rattle.hq_value.specs.declared.fault.Failed.{Failed}
use Rattle.hq_reply.specs.Puts.{Puts}
use Rattle.hq_reply.specs.Texts.{printed_byte}
use Rattle.hq_reply.proofs.values.put_text.Given as goal

abbrev pub invariant-loop-count : goal.invariant-loop-count
invariant-loop-count g l = (l.count ≤ length l.text) × Puts {E = Failed} g.K.Sink.given g.K.Sink.label g.K.Sink.faults g.K.Sink.sound l.fn.sink l.sink l.fn.buffer l.buffer (Ok tt) (flat_map printed_byte (take l.count l.text))

abbrev pub decreases-loop-count : goal.decreases-loop-count
decreases-loop-count g l = length l.text - l.count
