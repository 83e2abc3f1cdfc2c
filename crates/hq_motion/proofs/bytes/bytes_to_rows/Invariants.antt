use Rattle.std.proofs.Common.{length}
use Rattle.hq_motion.proofs.Reading.{Front, Follows}
use Rattle.hq_motion.proofs.bytes.bytes_to_rows.Given as goal

abbrev pub invariant-loop-rest : goal.invariant-loop-rest
invariant-loop-rest l = record {
  front : Front l.kinds l.rows.items l.rest l.fn.bytes;
  follows : Follows l.kinds l.fn.bytes l.rows.items l.rest;
}

abbrev pub decreases-loop-rest : goal.decreases-loop-rest
decreases-loop-rest l = length l.rest
