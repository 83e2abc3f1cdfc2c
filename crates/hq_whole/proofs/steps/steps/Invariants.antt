use Rattle.std.proofs.Common.{◌≡◌, ◌≤◌, ◌*◌, ◌++◌, List, length, map, take, drop, slice_index}
use Rattle.hq_laws.specs.Placed.{own_homes}
use Rattle.hq_whole.specs.Choices.{all_stand}
use Rattle.hq_whole.specs.Tables.{kinds_by, keys_by}
use Rattle.hq_whole.specs.declared.step.Step.{Step}
use Rattle.hq_whole.proofs.steps.steps.Given as goal

abbrev pub invariant-loop-i : goal.invariant-loop-i
invariant-loop-i l = record {
  tables : map (λ (s : Step). s.table) l.steps.items ≡ drop 1 (take l.i l.sources);
  stand : (rest : List Step) → all_stand (kinds_by l.defs) (keys_by l.defs) l.conds (length (kinds_by l.defs (slice_index l.sources 0))) (own_homes (length (kinds_by l.defs (slice_index l.sources 0))) (keys_by l.defs (slice_index l.sources 0))) (l.steps.items ++ rest) ≡ all_stand (kinds_by l.defs) (keys_by l.defs) l.conds l.course.width l.course.homes.items rest;
  few : l.course.width ≤ 64 * l.i;
}
