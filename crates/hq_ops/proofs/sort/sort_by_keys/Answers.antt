use Rattle.std.proofs.Common.{rules, ◌≡◌}
use Rattle.std.specs.Ordering.{is_lt}
use Rattle.std.proofs.lemmas.Fn.{always_returns_same}
use Rattle.std.proofs.lemmas.List.Sorted.{ranks_by}
use Rattle.hq_value.proofs.Sorting.{sorted_by-from_sort}
use Rattle.hq_meaning.specs.Rows.{order_cmp}
use Rattle.hq_ops.proofs.Ordered.{order_total, order_exact}
use Rattle.hq_ops.proofs.sort.sort_by_keys.Goals as goal

pub returns : goal.returns
returns c =
    let order = c.args.order.now in
    sorted_by-from_sort (order_total order) (order_exact order) c.args.rows.items c.sort_unstable_by.new.self.items c.sort_unstable_by.ensures.permutation
    (c.sort_unstable_by.ensures.sorted (λ x y. is_lt (order_cmp order x y)) (ranks_by (order_total order) (λ x. x))
    (always_returns_same _ (λ a r. is_lt r ≡ is_lt (order_cmp order a.0.now a.1.0.now)) _ (λ a r f' k. search rules)))
