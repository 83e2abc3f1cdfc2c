use Rattle.std.proofs.Common.{◌≡◌, map, take, true}
use Rattle.std.specs.List.{list_all}
use Rattle.hq_algebra.specs.declared.plan.Slice.{Slice}
use Rattle.hq_narrow.specs.Widened.{widened_slice, scans_fit, are_few}
use Rattle.hq_whole.specs.Tables.{kinds_by}
use Rattle.hq_planner.proofs.widening.widened_plan.Given as goal

abbrev pub invariant-loop-slice : goal.invariant-loop-slice
invariant-loop-slice l = record {
  same : l.slices ≡ map (widened_slice (kinds_by l.defs) l.taken) (take l.slice-index l.all);
  fit : list_all (λ (s : Slice). scans_fit (kinds_by l.defs) l.taken s.root) (take l.slice-index l.all) ≡ true;
  few : list_all (are_few (kinds_by l.defs) l.taken) (take l.slice-index l.all) ≡ true;
}
