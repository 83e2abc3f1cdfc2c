-- The values before this one were put.
use Rattle.std.proofs.Common.{take, flat_map, Ok}
use Rattle.hq_value.specs.declared.fault.Failed.{Failed}
use Rattle.hq_reply.specs.Puts.{Puts}
use Rattle.hq_reply.specs.Texts.{behind_bar}
use Rattle.hq_reply.proofs.rows.put_further_values.Given as goal

abbrev pub invariant-loop-value : goal.invariant-loop-value
invariant-loop-value g l = Puts {E = Failed} g.K.Sink.given g.K.Sink.label g.K.Sink.faults g.K.Sink.sound l.fn.sink l.sink l.fn.buffer l.buffer (Ok tt) (flat_map behind_bar (take l.value-index l.values))
