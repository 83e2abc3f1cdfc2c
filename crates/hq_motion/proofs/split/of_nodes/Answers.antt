use Rattle.std.proofs.Common.{◌≡◌, ◌+◌, ◌++◌, [], ◌∷◌, ℕ, List, false, cond, filter, get_or, map, drop, length, arith, sym, ap, ◌∙◌}
use Rattle.std.specs.List.{range_with_len}
use Rattle.std.proofs.lemmas.List.{nil_from_length}
use Rattle.hq_value.specs.declared.value.Value.{Value}
use Rattle.hq_motion.specs.Lists.{list_at, listed}
use Rattle.hq_motion.proofs.Splitting.{found-more, drop-here, drop-there}
use Rattle.hq_motion.proofs.split.of_nodes.Goals as goal

pub loop-list-preserved : goal.loop-list-preserved
loop-list-preserved c =
    let lists : List (List (List Value)) = c.args.lists.items in
    let rest : List (List (List Value)) = c.next.new.self.rest.items in
    let next = c.in-Some.ensures.steps.0 in
    let here : drop c.loop-list.node lists ≡ c.in-Some.list ∷ rest = sym c.loop-list.invariant.rest ∙ next in
    record {
      found = c.in_ok-keep.ensures
          ∙ ap (λ (l : List (ℕ × List (List Value))). l ++ cond (get_or c.args.nodes.now c.loop-list.node false) ((c.loop-list.node, c.in-Some.list) ∷ []) []) c.loop-list.invariant.found
          ∙ found-more lists (λ n. get_or c.args.nodes.now n false) c.loop-list.node c.in-Some.list (drop-here lists c.loop-list.node c.in-Some.list rest here);
      rest = drop-there lists c.loop-list.node c.in-Some.list rest here;
      count = let n = ap length next in omega (arith, c.loop-list.invariant.count, n);
    }

pub returns : goal.returns
returns c =
    let none : c.loop-list.list-iterator.rest.items ≡ [] = nil_from_length _ (sym c.loop-list.list-iterator.rest.ok.0 ∙ c.in-None.ensures.steps.0) in
    let all : c.loop-list.node ≡ 16 = (let n = ap length none in omega (arith, c.loop-list.invariant.count, n)) in
    c.loop-list.invariant.found ∙ ap (λ (m : ℕ). map (λ n. (n, list_at c.args.lists.items n)) (filter (λ n. get_or c.args.nodes.now n false) (range_with_len 0 m))) all
