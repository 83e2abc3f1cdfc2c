use Rattle.std.proofs.Common.{◌≡◌, ◌+◌, ◌++◌, ◌&&◌, ◌||◌, not, ℕ, List, map, length, arith, ap, ◌∙◌}
use Rattle.hq_algebra.specs.declared.aggregate.Aggregate.{Aggregate}
use Rattle.hq_algebra.specs.declared.expr.Expr.{Expr}
use Rattle.hq_algebra.specs.declared.op.SortKey.{SortKey}
use Rattle.hq_algebra.specs.declared.query.Query.{Query}
use Rattle.hq_algebra.specs.Rules.{is_empty, cannot_fault, are_small, arguments, fit_sources, are_below, are_within}
use Rattle.hq_laws.specs.Turned.{renamed, renamed_aggregate}
use Rattle.hq_whole.specs.Places.{place_of, turned_items}
use Rattle.hq_whole.proofs.Reordering.{items-count, small-kept, plain-kept, counts-kept, groups-kept, order-kept, conds-kept}
use Rattle.hq_whole.proofs.ordering.turned.Goals as goal

pub invariant_of-result : goal.invariant_of-result
invariant_of-result c =
    let q : Query = c.args.query.now in
    let f : ℕ → ℕ = place_of c.args.to.now in
    let conds : c.in_ok-conds.conds ≡ map (renamed f) q.conds = c.in_ok-conds.ensures ∙ ap (map (renamed f)) c.as_slice.ensures in
    let groups : c.in_ok-groups.groups ≡ map f q.groups = c.in_ok-groups.ensures ∙ ap (map f) c.as_slice-2.ensures in
    let aggregates : c.in_ok-aggregates.aggregates ≡ map (renamed_aggregate f) q.aggregates = c.in_ok-aggregates.ensures ∙ ap (map (renamed_aggregate f)) c.as_slice-3.ensures in
    let having : c.in_ok-having.having ≡ q.having = c.in_ok-having.ensures ∙ c.as_slice-4.ensures in
    let items : c.in_ok-items.items ≡ turned_items f q = c.in_ok-items.ensures in
    let order : c.in_ok-order.order ≡ q.order = c.in_ok-order.ensures ∙ c.as_slice-5.ensures in
    let count : length c.in_ok-items.items ≡ length q.items = ap (λ (l : List Expr). length l) items ∙ items-count f q in
    record {
      some_sources = omega (arith, c.requires, q.some_sources);
      few_sources = omega (arith, c.requires, q.few_sources);
      some_items = omega (arith, count, q.some_items);
      few_items = omega (arith, count, q.few_items);
      conds_fault_never = ap cannot_fault conds ∙ conds-kept f q;
      having_faults_never = ap cannot_fault having ∙ q.having_faults_never;
      small = (λ i. are_small (conds i ++ having i ++ items i ++ arguments (aggregates i))) ∙ small-kept f q;
      plain = (λ i. q.grouped || (is_empty (groups i) && is_empty (aggregates i) && is_empty (having i))) ∙ plain-kept f q;
      counts_of_one = ap (fit_sources c.args.sources) aggregates ∙ counts-kept f q c.args.sources c.requires;
      group_columns = (λ i. not q.grouped || are_below (length (groups i) + length (aggregates i)) (having i ++ items i)) ∙ groups-kept f q;
      order_columns = (λ i. are_within (order i) (length (items i))) ∙ order-kept f q;
    }
