use Rattle.std.proofs.Common.{◌∙◌, ap}
use Rattle.hq_bind.specs.Faults.{first_of}
use Rattle.hq_bind.proofs.select.select_refusal.Goals as goal

pub returns : goal.returns
returns c = c.first.ensures ∙ ap first_of c.requires.faults
