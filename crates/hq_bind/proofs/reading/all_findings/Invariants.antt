use Rattle.std.proofs.Common.{◌≡◌, take}
use Rattle.hq_bind.specs.Reading.{all_findings}
use Rattle.hq_bind.proofs.reading.all_findings.Given as goal

abbrev pub invariant-loop-cond : goal.invariant-loop-cond
invariant-loop-cond l = l.found ≡ all_findings l.columns l.groups (take l.cond-index l.conds)
