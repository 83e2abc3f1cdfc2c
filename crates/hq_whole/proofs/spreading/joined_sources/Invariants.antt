use Rattle.std.proofs.Common.{◌≡◌, ◌+◌, ◌≤◌, ◌*◌, drop, length}
use Rattle.hq_laws.specs.Spread.{first_source, with_sources}
use Rattle.hq_whole.specs.Tables.{kinds_by}
use Rattle.hq_whole.specs.Choices.{joinings, first_of, built_of}
use Rattle.hq_whole.proofs.spreading.joined_sources.Given as goal

abbrev pub invariant-loop-step : goal.invariant-loop-step
invariant-loop-step l = record {
  built : with_sources (kinds_by l.defs) (built_of l.built) (joinings (kinds_by l.defs) l.conds (length l.built.kinds) (drop l.step-index l.steps)) ≡ with_sources (kinds_by l.defs) (first_source (kinds_by l.defs) (first_of (kinds_by l.defs) l.conds l.first)) (joinings (kinds_by l.defs) l.conds (length (kinds_by l.defs l.first)) l.steps);
  few : length l.built.slices ≤ 2 * l.step-index;
  columns : length l.built.kinds ≤ 64 + 64 * l.step-index;
}
