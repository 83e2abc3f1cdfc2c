use Rattle.hq_pump.specs.Safe.{AreEarlier}
use Rattle.hq_sim.specs.Acting.{state_of}
use Rattle.hq_wiretests.proofs.exchanges.Case.laden.Given as goal

abbrev pub invariant-loop-bytes : goal.invariant-loop-bytes
invariant-loop-bytes l = AreEarlier l.fn.query l.fn.motion (state_of l.link).may
