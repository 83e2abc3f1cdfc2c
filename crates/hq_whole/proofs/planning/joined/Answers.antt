use Rattle.std.proofs.Common.{subst, sym, ◌<◌, length}
use Rattle.hq_whole.specs.Choices.{built_of}
use Rattle.hq_whole.specs.Tables.{kinds_by}
use Rattle.hq_whole.proofs.Plans.{joined-same, steps-few}
use Rattle.hq_whole.proofs.planning.joined.Goals as goal

pub joined_sources-requires : goal.joined_sources-requires
joined_sources-requires c = subst (λ steps. length steps < 8) (sym c.as_slice.ensures.value) (steps-few c.args.query.now.sources c.in_ok-steps.steps.items c.args.query.now.few_sources c.in_ok-steps.ensures.tables)

pub returns : goal.returns
returns c = record {
  joined = record {
    steps = c.in_ok-steps.steps.items;
    tables = c.in_ok-steps.ensures.tables;
    stand = c.in_ok-steps.ensures.stand;
    built = joined-same (kinds_by c.args.defs.now) c.args.query.now c.as_slice-conds.result.now c.as_slice-sources.result.now c.as_slice.result.now c.in_ok-steps.steps.items (built_of c.in_ok-built.built)
        c.as_slice-conds.ensures c.as_slice-sources.ensures c.as_slice.ensures.value c.in_ok-built.ensures.built;
  };
  few = c.in_ok-built.ensures.few;
}
