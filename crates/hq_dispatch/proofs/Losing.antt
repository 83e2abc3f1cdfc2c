-- How a query ends by a link.
use Rattle.std.proofs.Common.{◌≡◌, ◌∙◌, ℕ, ◌-◌, ◌^◌, ◌<◌, ◌≤◌, Bool, true, false, cond, List, [], ◌∷◌, length, take, slice_index_or, Some, Ok, Err, Result, IsTrue, refl, sym, ap, subst, arith}
use Rattle.std.specs.Prelude.{slice_get}
use Rattle.std.specs.List.{list_any}
use Rattle.hq_value.specs.Causes.{Rose}
use Rattle.hq_value.specs.declared.kind.Kind.{Kind}
use Rattle.hq_algebra.specs.declared.plan.Slice.{Slice}
use Rattle.hq_algebra.specs.Operators.{op_kinds}
use Rattle.hq_algebra.specs.Plans.{gathers}
use Rattle.hq_detect.specs.declared.bench.Bench.{Bench}
use Rattle.hq_meaning.specs.Nodes.{nodes_of, lowest}
use Rattle.hq_meaning.specs.Slices.{receives}
use Rattle.hq_motion.specs.Split.{receivers}
use Rattle.hq_pump.specs.declared.end.ExchangeEnd.{ExchangeEnd}
use Rattle.hq_pump.specs.declared.end.ExchangeEnd.TheVariants as exchange
use Rattle.hq_pump.specs.Promise.{IsRoughAtMost, IsOkOrNoMemory}
use Rattle.hq_pump.specs.Pumping.{IsLost}
use Rattle.hq_dispatch.specs.Basis.{Asked}
use Rattle.hq_dispatch.specs.Each.{At}
use Rattle.hq_dispatch.specs.Ended.{benches_of, HasEnded}
use Rattle.hq_dispatch.specs.Ends.{HasAnswered}
use Rattle.hq_dispatch.specs.Outside.{Outside}
use Rattle.hq_dispatch.specs.Owners.{is_used, has_flag, flagged}
use Rattle.hq_dispatch.specs.Received.{HasGot}
use Rattle.hq_dispatch.specs.Running.{HasRun}
use Rattle.hq_dispatch.specs.Settled.{AreSameHeads, AreTaken, AreDone, HasLost}
use Rattle.hq_dispatch.specs.Standing.{IsAsked, NodeGoesOn, Stands}
use Rattle.hq_dispatch.specs.declared.end.QueryEnd.{QueryEnd}
use Rattle.hq_dispatch.specs.declared.end.QueryEnd.TheVariants as end
use Rattle.hq_dispatch.specs.declared.parcels.Parcels.{Parcels}
use Rattle.hq_dispatch.specs.declared.task.Task.{Task}
use Rattle.hq_dispatch.proofs.Advancing.{item-of, still-goes-on, still-answered}
use Rattle.hq_dispatch.proofs.Ending.{at-benches, many-benches, ended-memory, ended-lost, ended-failed}
use Rattle.hq_dispatch.proofs.Linking.{rose-since, lost-since, stays-rough}
use Rattle.hq_dispatch.proofs.Nodes.{used-within, take-used}

module _ {S H L : Type 0} (o : Outside S H L) (q : Asked) (is : IsAsked q) (first : List (Bench S H L)) (count : ℕ) (s : Slice) (there : slice_get q.plan.slices count ≡ Some s) (sends : List Bool)
    (runs : flagged sends ≡ cond (list_any (gathers (take count q.plan.slices)) (receives s.root)) (lowest q.basis.owner ∷ []) (nodes_of q.basis.owner))
    (old : List (Task S H L)) (stands : Stands o q first count old) (nodes : length old ≡ length q.marks) (kinds : List Kind) (typed : op_kinds s.root ≡ Some kinds) (mid : List (Task S H L))
    (ran : (n : ℕ) (t : Task S H L) → n < length old → HasRun o (IsTrue q.seals × IsTrue q.files) q.basis s.root s.out kinds n (has_flag sends n) (slice_index_or old n t) (slice_index_or mid n t)) (same : length mid ≡ length old)
    (parcels : List Parcels) (taken : AreTaken mid parcels) (done : AreDone mid) (back : List (Task S H L)) (heads : AreSameHeads mid back) (takes : List Bool) (to : flagged takes ≡ receivers s.out q.basis.owner) (new : List (Task S H L))
    (got : (n : ℕ) (t : Task S H L) → n < length back → HasGot o q.query count kinds s.out parcels sends n (has_flag takes n) (slice_index_or back n t) (slice_index_or new n t)) (many : length new ≡ length back) where
  new-many : length new ≡ length first
  new-many = let m = stands.many in let c = heads.count in omega (arith, m, same, c, many)

  new-within : (n : ℕ) → n < length first → n < length new
  new-within n within = let m = new-many in omega (arith, within, m)

  goes-on : (n : ℕ) → n < length first → At n first (benches_of new) (NodeGoesOn o q n)
  goes-on n within = at-benches (NodeGoesOn o q n) first new n (new-within n within) (λ b t.
      still-goes-on o q is first count s there sends runs old stands nodes kinds typed mid ran same parcels taken done back heads takes to new got many n b t within)

  answers-at : (n : ℕ) → is_used q.marks n ≡ true → At n first (benches_of new) (λ a b. HasAnswered o.checks o.host_faults a.host b.host)
  answers-at n used =
      let within : n < length first = (let w = used-within q is n used in let m = stands.many in omega (arith, w, m, nodes)) in
      at-benches (λ a b. HasAnswered o.checks o.host_faults a.host b.host) first new n (new-within n within) (λ b t.
      still-answered o q is first count s there sends runs old stands nodes kinds typed mid ran same parcels taken done back heads takes to new got many n b t within used)

  -- a node whose exchange did not end well received rows
  module _ (n : ℕ) (within : n < length first) where
    below : n < 16
    below = let m = stands.many in let few = is.few in omega (arith, within, m, nodes, few)

    back-within : n < length back
    back-within = let m = stands.many in let c = heads.count in omega (arith, within, m, same, c)

    old-within : n < length old
    old-within = let m = stands.many in omega (arith, within, m)

    took : (t : Task S H L) (e : ExchangeEnd) → (slice_index_or new n t).got ≡ Err e → has_flag takes n ≡ true
    took t e is_err = by (has_flag takes n) refl
      where
        by : (b : Bool) → has_flag takes n ≡ b → has_flag takes n ≡ true
        by true on = on
        by false off = let bad : Ok tt ≡ Err e = sym ((got n t back-within).waited off).got ∙ is_err in cc

    link-same : (t : Task S H L) → (slice_index_or back n t).bench.link ≡ (slice_index_or old n t).bench.link
    link-same t = ap (λ (b : Bench S H L). b.link) (heads.each n t).bench ∙ (ran n t old-within).served.link

    -- the exchange began no earlier than the query
    troubles-before : (b : Bench S H L) (t : Task S H L) → (o.state (slice_index_or first n b).link).troubles ≤ (o.state (slice_index_or back n t).bench.link).troubles
    troubles-before b t = subst (λ (l : L). (o.state (slice_index_or first n b).link).troubles ≤ (o.state l).troubles) (sym (link-same t)) (stands.each n b t within).goes_on.link.later.troubles

    faults-before : (b : Bench S H L) (t : Task S H L) → (o.state (slice_index_or first n b).link).faults ≤ (o.state (slice_index_or back n t).bench.link).faults
    faults-before b t = subst (λ (l : L). (o.state (slice_index_or first n b).link).faults ≤ (o.state l).faults) (sym (link-same t)) (stands.each n b t within).goes_on.link.later.faults

    rough-then : (b : Bench S H L) (t : Task S H L) → IsRoughAtMost 15 (o.state (slice_index_or first n b).link) → IsRoughAtMost 15 (o.state (slice_index_or back n t).bench.link)
    rough-then b t r = subst (λ (l : L). IsRoughAtMost 15 (o.state l)) (sym (link-same t)) (stays-rough q.query 15 (o.state (slice_index_or first n b).link) (o.state (slice_index_or old n t).bench.link) (stands.each n b t within).goes_on.link r)

  pub lost-so : (f : QueryEnd) → HasLost new f → HasEnded o q first (benches_of new) f
  lost-so (end.LinkLost n) h =
      let within : n < length first = (let w = h.0 in let m = new-many in omega (arith, w, m)) in
      let t : Task S H L = item-of new (let w = h.0 in omega (arith, w)) in
      ended-lost o q first (benches_of new) (many-benches new ∙ new-many) goes-on n
      (record {
        within = within;
        is_used = take-used q is takes s.out to n (below n within) (took n within t (exchange.LinkLost (h.1 t).0 (h.1 t).1) (h.1 t).2);
        caused = at-benches (λ a b. IsLost (o.state a.link).troubles (o.state b.link).troubles) first new n (new-within n within) (λ b t.
            lost-since (o.state (slice_index_or first n b).link).troubles (o.state (slice_index_or back n t).bench.link).troubles (o.state (slice_index_or new n t).bench.link).troubles (troubles-before n within b t)
            (((got n t (back-within n within)).exchanged (took n within t (exchange.LinkLost (h.1 t).0 (h.1 t).1) (h.1 t).2)).cause.lost (h.1 t).0 (h.1 t).1 (h.1 t).2));
        lowest = λ k less used. answers-at k used;
      })
      (at-benches (λ a b. IsRoughAtMost 15 (o.state a.link) → (o.state b.link).troubles < 2 ^ 64 - 1 → ⊥) first new n (new-within n within) (λ b t rough few.
      subst (λ (r : Result Unit ExchangeEnd). IsOkOrNoMemory r) (h.1 t).2
      (((got n t (back-within n within)).exchanged (took n within t (exchange.LinkLost (h.1 t).0 (h.1 t).1) (h.1 t).2)).complete (rough-then n within b t rough) few)))
  lost-so (end.LinkFailed n) h =
      let within : n < length first = (let w = h.0 in let m = new-many in omega (arith, w, m)) in
      let t : Task S H L = item-of new (let w = h.0 in omega (arith, w)) in
      ended-failed o q first (benches_of new) (many-benches new ∙ new-many) goes-on n
      (record {
        within = within;
        is_used = take-used q is takes s.out to n (below n within) (took n within t exchange.LinkFailed (h.1 t));
        caused = at-benches (λ a b. Rose (o.state a.link).faults (o.state b.link).faults) first new n (new-within n within) (λ b t.
            rose-since (o.state (slice_index_or first n b).link).faults (o.state (slice_index_or back n t).bench.link).faults (o.state (slice_index_or new n t).bench.link).faults (faults-before n within b t)
            (((got n t (back-within n within)).exchanged (took n within t exchange.LinkFailed (h.1 t))).cause.failed (h.1 t)));
        lowest = λ k less used. answers-at k used;
      })
      (at-benches (λ a b. IsRoughAtMost 15 (o.state a.link) → (o.state b.link).troubles < 2 ^ 64 - 1 → ⊥) first new n (new-within n within) (λ b t rough few.
      subst (λ (r : Result Unit ExchangeEnd). IsOkOrNoMemory r) (h.1 t)
      (((got n t (back-within n within)).exchanged (took n within t exchange.LinkFailed (h.1 t))).complete (rough-then n within b t rough) few)))
  lost-so end.NoMemory h = ended-memory o q first (benches_of new) (many-benches new ∙ new-many) goes-on
  lost-so _ h = absurd h
