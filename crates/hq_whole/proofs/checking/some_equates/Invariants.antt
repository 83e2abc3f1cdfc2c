use Rattle.std.proofs.Common.{◌≡◌, drop}
use Rattle.std.specs.List.{list_any}
use Rattle.hq_laws.specs.Equated.{equates}
use Rattle.hq_whole.proofs.checking.some_equates.Given as goal

abbrev pub invariant-loop-cond : goal.invariant-loop-cond
invariant-loop-cond l = list_any (equates l.i l.j) l.conds ≡ list_any (equates l.i l.j) (drop l.cond-index l.conds)
