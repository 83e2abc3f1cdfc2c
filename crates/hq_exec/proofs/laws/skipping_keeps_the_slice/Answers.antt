use Rattle.std.proofs.Common.{None, refl}
use Rattle.hq_exec.specs.Files.{here}
use Rattle.hq_exec.specs.Stages.{builds_of}
use Rattle.hq_exec.proofs.Leaves.{reads-are}
use Rattle.hq_exec.proofs.Whole.{all-flow, whole-fault-is}
use Rattle.hq_exec.proofs.laws.skipping_keeps_the_slice.Goals as goal

pub returns-clause-rows : goal.returns-clause-rows
returns-clause-rows c = λ h o inputs seals own. all-flow h o inputs seals own (builds_of o (here h)) refl

pub returns-clause-fault : goal.returns-clause-fault
returns-clause-fault c = whole-fault-is

pub returns-clause-reads : goal.returns-clause-reads
returns-clause-reads c = λ h o. reads-are h o None
