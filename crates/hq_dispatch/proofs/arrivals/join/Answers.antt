-- The rows of one node more.
use Rattle.std.proofs.Common.{◌≡◌, ◌∙◌, ◌∷◌, [], ℕ, List, false, length, drop, filter, flat_map, get_or, arith, sym, ap, subst}
use Rattle.std.specs.List.{range_with_len}
use Rattle.std.proofs.lemmas.List.{nil_from_length}
use Rattle.hq_dispatch.specs.declared.arrivals.Arrival.{Arrival}
use Rattle.hq_dispatch.specs.Arrivals.{AreStorable}
use Rattle.hq_dispatch.proofs.Arriving.{sender-more, rest-there}
use Rattle.hq_dispatch.proofs.arrivals.join.Goals as goal

pub loop-arrival-preserved : goal.loop-arrival-preserved
loop-arrival-preserved c =
    let from : List Arrival = c.args.from.items in
    let rest : List Arrival = c.next.new.self.rest.items in
    let next = c.in-Some.ensures.steps.0 in
    let here : drop c.loop-arrival.node from ≡ c.in-Some.arrival ∷ rest = sym c.loop-arrival.invariant.rest ∙ next in
    let n = ap length next in
    record {
      rows = λ given each. sender-more c.args.kinds.now from given (λ m. get_or c.args.sends.now m false) c.loop-arrival.node c.in-Some.arrival rest c.loop-arrival.all.items c.add_rows.new.all.items
          (omega (arith, c.loop-arrival.invariant.count, n)) here c.in_ok-add_rows.ensures.rows (c.loop-arrival.invariant.rows given each) each;
      storable = c.in_ok-add_rows.ensures.storable;
      rest = rest-there from c.loop-arrival.node c.in-Some.arrival rest here;
      rest_storable = (subst (AreStorable c.args.kinds.now) next c.loop-arrival.invariant.rest_storable).1;
      count = omega (arith, c.loop-arrival.invariant.count, n);
    }

pub returns-clause-rows : goal.returns-clause-rows
returns-clause-rows c = λ given each.
    let none : c.loop-arrival.arrival-iterator.rest.items ≡ [] = nil_from_length _ (sym c.loop-arrival.arrival-iterator.rest.ok.0 ∙ c.in-None.ensures.steps.0) in
    let all : c.loop-arrival.node ≡ 16 = (let n = ap length none in omega (arith, c.loop-arrival.invariant.count, n)) in
    c.loop-arrival.invariant.rows given each ∙ ap (λ (m : ℕ). flat_map given (filter (λ n. get_or c.args.sends.now n false) (range_with_len 0 m))) all
