use Rattle.std.proofs.Common.{◌∙◌, sym}
use Rattle.std.proofs.lemmas.List.Elements.{recursion_from_All}
use Rattle.hq_value.specs.Kinds.{Fits}
use Rattle.hq_block.proofs.Bools.{true-le}
use Rattle.hq_block.proofs.Written.{surely-fits}
use Rattle.hq_block.proofs.encode.is_block.Goals as goal

pub returns-then-body : goal.returns-then-body
returns-then-body c =
    true-le c.args.body 64432 c.if-body.true
    ∙ sym (surely-fits c.args.kinds.now c.args.rows.now c.args.body c.requires.few (recursion_from_All (Fits c.args.kinds.now) c.args.rows.now c.requires.fit) c.requires.body c.if-body.true)
