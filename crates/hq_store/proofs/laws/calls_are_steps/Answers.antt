-- By the cases of the answers.
use Rattle.hq_store.specs.FileRun.{changes_nothing, seals}
use Rattle.hq_store.proofs.Steps.{append_step, cut_step}
use Rattle.hq_store.proofs.laws.calls_are_steps.Goals as goal

pub returns : goal.returns
returns c = record { append = append_step; cut = cut_step; flush = λ told old new same. changes_nothing same; seal = λ told old new no_tail sealed. seals no_tail sealed }
