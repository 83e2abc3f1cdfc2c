use Rattle.std.proofs.Common.{nat_eq, ap, ◌∙◌}
use Rattle.hq_value.specs.Tables.{are_distinct}
use Rattle.hq_narrow.specs.Narrow.{place_from}
use Rattle.hq_planner.proofs.Marked.{take-past, distinct-map}
use Rattle.hq_planner.proofs.part.keys_among.Goals as goal

pub returns-clause-distinct : goal.returns-clause-distinct
returns-clause-distinct c =
    distinct-map (place_from c.args.columns.now c.args.width) c.loop-key.found (ap (are_distinct nat_eq) (c.loop-key.invariant.keys ∙ take-past c.args.keys.now c.loop-key.key-index c.loop-key-test.false) ∙ c.requires.distinct)
