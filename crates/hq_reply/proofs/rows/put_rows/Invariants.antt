-- The rows before this one were put.
use Rattle.std.proofs.Common.{take, flat_map, Ok}
use Rattle.hq_value.specs.declared.fault.Failed.{Failed}
use Rattle.hq_reply.specs.Puts.{Puts}
use Rattle.hq_reply.specs.Texts.{row_line}
use Rattle.hq_reply.proofs.rows.put_rows.Given as goal

abbrev pub invariant-loop-row : goal.invariant-loop-row
invariant-loop-row g l = Puts {E = Failed} g.K.Sink.given g.K.Sink.label g.K.Sink.faults g.K.Sink.sound l.fn.sink l.sink l.fn.buffer l.buffer (Ok tt) (flat_map row_line (take l.row-index l.rows))
