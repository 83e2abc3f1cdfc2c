-- Nothing that goes on from these bytes begins with a block.
use Rattle.std.proofs.Common.{rules, ℕ, ◌++◌, List, IsErrOf, subst}
use Rattle.hq_lane.specs.declared.block.Stop.TheVariants as stop
use Rattle.hq_lane.specs.Scans.{BeginsNoBlock}
use Rattle.hq_lane.proofs.block.read_rest.Goals as goal

pub returns-in_err-take_block-clause-bad : goal.returns-in_err-take_block-clause-bad
returns-in_err-take_block-clause-bad g c = λ is_bad more.
    let bad : IsErrOf c.take_block.result stop.BadBlock = search rules in
    subst (λ (l : List ℕ). BeginsNoBlock c.args.kinds.now (l ++ more)) c.deref.ensures.value (c.take_block.ensures.bad bad more)
