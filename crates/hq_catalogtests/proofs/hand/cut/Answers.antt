-- A lane that was cut has its committed bytes.
use Rattle.hq_catalogtests.specs.declared.hand.Held.TheVariants as held
use Rattle.hq_catalogtests.proofs.Worked.{cut_same, cut_seals, stays_as, sweeps_on}
use Rattle.hq_catalogtests.proofs.hand.cut.Goals as goal

pub returns-in-Sweeps : goal.returns-in-Sweeps
returns-in-Sweeps c =
    let l = c.in-Sweeps.lane in
    let cut = c.cut_back.new.self in
    stays_as c.args.held (held.Sweeps l) (held.Sweeps cut) c.in-Sweeps.is
    (sweeps_on l cut (cut_same l cut c.cut_back.ensures.lane c.cut_back.ensures.kept) (cut_seals l cut c.cut_back.ensures.kept))
