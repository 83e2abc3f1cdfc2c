use Rattle.std.proofs.Common.{◌≡◌, ℕ, map, cond, length, arith, ◌∙◌}
use Rattle.hq_algebra.specs.declared.query.Query.{Query}
use Rattle.hq_laws.specs.Turned.{renamed, renamed_aggregate}
use Rattle.hq_narrow.specs.Narrow.{place_from}
use Rattle.hq_planner.proofs.Narrowed.{items-count, conds-kept, having-kept, small-kept, plain-kept, counts-kept, groups-kept, order-kept}
use Rattle.hq_planner.proofs.narrowing.narrow_query.Goals as goal

pub invariant_of-result : goal.invariant_of-result
invariant_of-result c =
    let q : Query = c.args.query.now in
    let f : ℕ → ℕ = place_from c.args.columns.now c.args.width in
    let conds : map (renamed f) c.in_ok-conds.conds ≡ q.conds = c.in_ok-conds.ensures ∙ c.as_slice.ensures in
    let groups : map f c.in_ok-groups.groups ≡ q.groups = c.in_ok-groups.ensures ∙ c.as_slice-2.ensures in
    let aggregates : map (renamed_aggregate f) c.in_ok-aggregates.aggregates ≡ q.aggregates = c.in_ok-aggregates.ensures ∙ c.as_slice-3.ensures in
    let having : c.in_ok-having.having ≡ q.having = c.in_ok-having.ensures ∙ c.as_slice-4.ensures in
    let items : cond q.grouped c.in_ok-items.items (map (renamed f) c.in_ok-items.items) ≡ q.items = c.in_ok-items.ensures in
    let order : c.in_ok-order.order ≡ q.order = c.in_ok-order.ensures ∙ c.as_slice-5.ensures in
    let count : length c.in_ok-items.items ≡ length q.items = items-count f q c.in_ok-groups.groups c.in_ok-conds.conds c.in_ok-having.having c.in_ok-items.items c.in_ok-aggregates.aggregates conds groups aggregates having items in
    record {
      some_sources = omega (arith, c.requires, q.some_sources);
      few_sources = omega (arith, c.requires, q.few_sources);
      some_items = omega (arith, count, q.some_items);
      few_items = omega (arith, count, q.few_items);
      conds_fault_never = conds-kept f q c.in_ok-groups.groups c.in_ok-conds.conds c.in_ok-having.having c.in_ok-items.items c.in_ok-aggregates.aggregates conds groups aggregates having items;
      having_faults_never = having-kept f q c.in_ok-groups.groups c.in_ok-conds.conds c.in_ok-having.having c.in_ok-items.items c.in_ok-aggregates.aggregates conds groups aggregates having items;
      small = small-kept f q c.in_ok-groups.groups c.in_ok-conds.conds c.in_ok-having.having c.in_ok-items.items c.in_ok-aggregates.aggregates conds groups aggregates having items;
      plain = plain-kept f q c.in_ok-groups.groups c.in_ok-conds.conds c.in_ok-having.having c.in_ok-items.items c.in_ok-aggregates.aggregates conds groups aggregates having items;
      counts_of_one = counts-kept f q c.in_ok-groups.groups c.in_ok-conds.conds c.in_ok-having.having c.in_ok-items.items c.in_ok-aggregates.aggregates conds groups aggregates having items c.args.sources c.requires;
      group_columns = groups-kept f q c.in_ok-groups.groups c.in_ok-conds.conds c.in_ok-having.having c.in_ok-items.items c.in_ok-aggregates.aggregates conds groups aggregates having items;
      order_columns = order-kept f q c.in_ok-groups.groups c.in_ok-conds.conds c.in_ok-having.having c.in_ok-items.items c.in_ok-aggregates.aggregates conds groups aggregates having items c.in_ok-order.order order;
    }
