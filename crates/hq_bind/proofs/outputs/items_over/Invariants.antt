use Rattle.std.proofs.Common.{◌≡◌, ◌++◌, drop}
use Rattle.hq_bind.specs.Reading.{item_exprs}
use Rattle.hq_bind.specs.Bound.{all_over, all_aggregates}
use Rattle.hq_bind.proofs.outputs.items_over.Given as goal

-- what is made and what the rest makes is what all make
abbrev pub invariant-loop-item : goal.invariant-loop-item
invariant-loop-item l = record {
  items : l.new ++ all_over l.columns l.groups l.aggregates (item_exprs (drop l.item-index l.items)) ≡ all_over l.columns l.groups l.fn.aggregates (item_exprs l.items);
  aggregates : l.aggregates ++ all_aggregates l.columns (item_exprs (drop l.item-index l.items)) ≡ l.fn.aggregates ++ all_aggregates l.columns (item_exprs l.items);
}
