use Rattle.std.proofs.Common.{true}
use Rattle.std.proofs.lemmas.List.{take-replicate}
use Rattle.hq_value.proofs.marks.Marks.all_up.Goals as goal

pub returns : goal.returns
returns c = take-replicate c.args.nodes 16 true c.requires.few
