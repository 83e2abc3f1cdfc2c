use Rattle.std.proofs.Common.{[], length, ap, ◌∙◌}
use Rattle.hq_value.specs.Kinds.{kinds_of}
use Rattle.hq_table.proofs.Making.{home-new, empty-new}
use Rattle.hq_table.proofs.table.Table.new.Goals as goal

pub invariant_of-result : goal.invariant_of-result
invariant_of-result c = record {
  some_columns = c.keeps_the_rules.ensures.some;
  few_columns = c.keeps_the_rules.ensures.few;
  keyed = c.keeps_the_rules.ensures.keys_within;
  kinds_are = c.in_ok-kinds.ensures ∙ ap kinds_of (c.as_slice.ensures ∙ c.columns.ensures.columns);
  sixteen = ap length c.in_ok-seals.ensures;
  home = home-new c.in_ok-seals.seals.items c.in_ok-lane.lane _ _ c.in_ok-seals.ensures c.in_ok-lane.ensures.lane;
  kept = ((λ b. []), empty-new c.in_ok-kinds.kinds c.in_ok-seals.seals.items c.in_ok-seals.ensures (c.files_grow_by_blocks.ensures.empty c.in_ok-kinds.kinds));
}

pub returns-clause-empty : goal.returns-clause-empty
returns-clause-empty c = empty-new (kinds_of c.args.def.columns) c.in_ok-seals.seals.items c.in_ok-seals.ensures (c.files_grow_by_blocks.ensures.empty (kinds_of c.args.def.columns))
