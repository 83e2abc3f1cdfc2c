use Rattle.hq_turns.proofs.Following.{no-fault}
use Rattle.hq_turns.proofs.laws.quiet_counts_tell_no_fault.Goals as goal

pub returns : goal.returns
returns c = no-fault
