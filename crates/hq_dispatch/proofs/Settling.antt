-- What holds before and behind a slice on all nodes.
use Rattle.std.proofs.Common.{◌≡◌, ◌∙◌, ℕ, zero, suc, ◌<◌, ◌≤◌, Bool, true, false, cond, List, [], ◌∷◌, length, take, slice_index, slice_index_or, Some, Result, Ok, Err, IfErr, IsTrue, refl, sym, ap, subst, arith}
use Rattle.std.specs.Global.{Vec}
use Rattle.std.specs.Prelude.{slice_get, is_some, IsSome, nat_le}
use Rattle.std.specs.List.{list_all, list_any}
use Rattle.hq_value.specs.declared.kind.Kind.{Kind}
use Rattle.hq_value.specs.declared.value.Value.{Value}
use Rattle.hq_algebra.specs.declared.op.Op.{Op}
use Rattle.hq_algebra.specs.declared.plan.Motion.{Motion}
use Rattle.hq_algebra.specs.declared.plan.Slice.{Slice}
use Rattle.hq_algebra.specs.Operators.{op_kinds}
use Rattle.hq_algebra.specs.Plans.{operators, op_is_fine, slice_is_fine, motion_is_fine, gathers}
use Rattle.hq_detect.specs.declared.bench.Bench.{Bench}
use Rattle.hq_exec.specs.declared.end.FlowEnd.{FlowEnd}
use Rattle.hq_exec.specs.declared.end.FlowEnd.TheVariants as flow
use Rattle.hq_fits.proofs.Operating.{both_true}
use Rattle.hq_meaning.specs.Nodes.{nodes_of, lowest}
use Rattle.hq_meaning.specs.Slices.{receives}
use Rattle.hq_motion.specs.Split.{receivers}
use Rattle.hq_pump.specs.Safe.{AreEarlier}
use Rattle.hq_dispatch.specs.Basis.{Asked}
use Rattle.hq_dispatch.specs.Ended.{benches_of, IsFirst, HasEnded}
use Rattle.hq_dispatch.specs.Outside.{Outside}
use Rattle.hq_dispatch.specs.Owners.{has_flag, flagged}
use Rattle.hq_dispatch.specs.Running.{CanFlow, HasServed, HasRun, IsNoFault, IsEndOf}
use Rattle.hq_dispatch.specs.Settled.{AreSameHeads, AreTaken, Lacks}
use Rattle.hq_dispatch.specs.Standing.{FitSlices, IsAsked, NodeGoesOn, Stands}
use Rattle.hq_dispatch.specs.declared.end.QueryEnd.{QueryEnd}
use Rattle.hq_dispatch.specs.declared.end.QueryEnd.TheVariants as end
use Rattle.hq_dispatch.specs.declared.parcels.Parcels.{Parcels}
use Rattle.hq_dispatch.specs.declared.task.Task.{Task}
use Rattle.hq_dispatch.proofs.Advancing.{item-of}
use Rattle.hq_dispatch.proofs.Ending.{at-benches, many-benches, ended-memory, ended-numeric, ended-by, numeric-so, goes-on}
use Rattle.hq_dispatch.proofs.Finishing.{same-item}
use Rattle.hq_dispatch.proofs.Forming.{Rules, rules-of, all-at, can-go}
use Rattle.hq_dispatch.proofs.Holding.{root-is, can-read}
use Rattle.hq_dispatch.proofs.Nodes.{used-within, run-used, lowest-used}

-- tasks with the benches that they had
pub same-benches : {S H L : Type 0} (old new : List (Task S H L)) → AreSameHeads old new → benches_of new ≡ benches_of old
same-benches [] [] heads = refl
same-benches [] (y ∷ new) heads = absurd (let c = heads.count in omega (arith, c))
same-benches (x ∷ old) [] heads = absurd (let c = heads.count in omega (arith, c))
same-benches {S} {H} {L} (x ∷ old) (y ∷ new) heads =
    let rest : AreSameHeads old new = record { count = (let c = heads.count in omega (arith, c)); each = λ n d. heads.each (suc n) d } in
    λ i. (heads.each zero x).bench i ∷ same-benches old new rest i

-- a node that is flagged is one of 16
pub flag-below : (flags : List Bool) (n : ℕ) → has_flag flags n ≡ true → n < length flags
flag-below [] zero h = cc
flag-below [] (suc n) h = cc
flag-below (f ∷ flags) zero h = omega arith
flag-below (f ∷ flags) (suc n) h = let r = flag-below flags n h in omega (arith, r)

-- the kinds of a slice's rows
pub typed-so : (slices : List Slice) (i : ℕ) (s : Slice) → Rules slices → slice_get slices i ≡ Some s → IsSome (op_kinds s.root)
typed-so slices i s rules there =
    let all : (nat_le (length (operators s.root)) 64 ≡ true) × _ = both_true (nat_le (length (operators s.root)) 64) _ (all-at slice_is_fine slices i s rules.fine there) in
    (both_true (list_all op_is_fine (operators s.root)) (is_some (op_kinds s.root)) all.1).1

-- a slice can run on a node that has what it was sent, and its rows can go by the motion
pub can-flow : (q : Asked) → IsAsked q → (i n : ℕ) (s : Slice) → slice_get q.plan.slices i ≡ Some s → (kinds : List Kind) → op_kinds s.root ≡ Some kinds → (incoming : List (ℕ × Vec (List Value))) → FitSlices q.plan.slices incoming
    → CanFlow q.seals q.files q.basis i n incoming s.out kinds
can-flow q is i n s there kinds typed incoming fit = record {
  reads = can-read q is i n s there incoming fit;
  kinds_are = λ root found other are. (
      let same : s.root ≡ root = root-is q.plan q.basis.plan i s root is.is_plan there other in
      let e : Some kinds ≡ Some found = sym typed ∙ ap op_kinds same ∙ are in
      cc);
  goes = can-go s kinds (all-at motion_is_fine q.plan.slices i s (rules-of q.plan is.is_plan.well_formed).motions there) typed;
  owners = is.below;
}

-- on each node
pub can-all : {S H L : Type 0} (o : Outside S H L) (q : Asked) → IsAsked q → (first : List (Bench S H L)) (count : ℕ) (old : List (Task S H L)) → Stands o q first count old → (s : Slice) → slice_get q.plan.slices count ≡ Some s → (kinds : List Kind) → op_kinds s.root ≡ Some kinds → (n : ℕ) (t : Task S H L) → n < length old
    → CanFlow q.seals q.files q.basis count n (slice_index_or old n t).incoming.items s.out kinds
can-all o q is first count old stands s there kinds typed n t within =
    let m = stands.many in
    let w : n < length first = omega (arith, within, m) in
    can-flow q is count n s there kinds typed (slice_index_or old n t).incoming.items (stands.each n (item-of first (omega (arith, w))) t w).fits

pub first-below : (q : Asked) → IsAsked q → slice_index q.basis.owner 0 < 16
first-below q is = is.below 0 0 (let n = is.sixteen in omega (arith, n))

-- tasks that stayed as they were
pub fine-so : {S H L : Type 0} (mid back : List (Task S H L)) → back ≡ mid → ((n : ℕ) (t : Task S H L) → n < length mid → IsNoFault (slice_index_or mid n t).end) → (n : ℕ) (t : Task S H L) → n < length back → IsNoFault (slice_index_or back n t).end
fine-so {S} {H} {L} mid back same fine = subst (λ (l : List (Task S H L)). (n : ℕ) (t : Task S H L) → n < length l → IsNoFault (slice_index_or l n t).end) (sym same) fine

-- what an error tells
pub on-err : {A E : Type 0} (r : Result A E) (P Q : E → Type 0) → ((e : E) → P e → Q e) → IfErr r P → IfErr r Q
on-err (Ok x) P Q f h = tt
on-err (Err e) P Q f h = f e h

pub few-so : (a b : ℕ) → a ≡ b → b ≤ 16 → a ≤ 16
few-so a b e l = omega (arith, e, l)

-- which nodes run the slice, and which receive its rows, told by what the query works from
pub runs-so : (q : Asked) (count : ℕ) (root : Op) (before : List Slice) (owner : List ℕ) (g : Bool) (flags : List Bool) → before ≡ take count q.plan.slices → owner ≡ q.basis.owner → g ≡ list_any (gathers before) (receives root)
    → flagged flags ≡ cond g (lowest owner ∷ []) (nodes_of owner) → flagged flags ≡ cond (list_any (gathers (take count q.plan.slices)) (receives root)) (lowest q.basis.owner ∷ []) (nodes_of q.basis.owner)
runs-so q count root before owner g flags before_is owner_is g_is are =
    are ∙ (λ i. cond (g_is i) (lowest (owner_is i) ∷ []) (nodes_of (owner_is i)))
    ∙ ap (λ (b : List Slice). cond (list_any (gathers b) (receives root)) (lowest q.basis.owner ∷ []) (nodes_of q.basis.owner)) before_is

pub takes-so : (owner homes : List ℕ) (out : Motion) (flags : List Bool) → owner ≡ homes → flagged flags ≡ receivers out owner → flagged flags ≡ receivers out homes
takes-so owner homes out flags is are = are ∙ ap (receivers out) is

-- nothing was done of the slice
pub memory-so : {S H L : Type 0} (o : Outside S H L) (q : Asked) (first : List (Bench S H L)) (count : ℕ) (old : List (Task S H L)) → Stands o q first count old → HasEnded o q first (benches_of old) end.NoMemory
memory-so o q first count old stands =
    ended-memory o q first (benches_of old) (many-benches old ∙ stands.many)
    (λ n within. at-benches (NodeGoesOn o q n) first old n (let m = stands.many in omega (arith, within, m)) (λ b t. (stands.each n b t within).goes_on))

-- the slice was run on all nodes that run it
module _ {S H L : Type 0} (o : Outside S H L) (q : Asked) (is : IsAsked q) (first : List (Bench S H L)) (count : ℕ) (s : Slice) (there : slice_get q.plan.slices count ≡ Some s) (sends : List Bool)
    (runs : flagged sends ≡ cond (list_any (gathers (take count q.plan.slices)) (receives s.root)) (lowest q.basis.owner ∷ []) (nodes_of q.basis.owner))
    (old : List (Task S H L)) (stands : Stands o q first count old) (nodes : length old ≡ length q.marks) (kinds : List Kind) (mid : List (Task S H L))
    (ran : (n : ℕ) (t : Task S H L) → n < length old → HasRun o (IsTrue q.seals × IsTrue q.files) q.basis s.root s.out kinds n (has_flag sends n) (slice_index_or old n t) (slice_index_or mid n t)) (same : length mid ≡ length old) where
  -- how it ended on each of them
  module _ (z : Task S H L) where
    abbrev how : ℕ → FlowEnd
    how n = (slice_index_or mid n z).end

    served : (n : ℕ) (t : Task S H L) → n < length old
        → HasServed o (IsTrue q.seals × IsTrue q.files) q.basis s.root n (has_flag sends n) (slice_index_or old n t).incoming.items (slice_index_or old n t).bench (slice_index_or mid n t).bench (slice_index_or mid n z).end
    served n t within =
        subst (λ (x : Task S H L). HasServed o (IsTrue q.seals × IsTrue q.files) q.basis s.root n (has_flag sends n) (slice_index_or old n t).incoming.items (slice_index_or old n t).bench (slice_index_or mid n t).bench x.end)
        (same-item mid n t z (omega (arith, within, same))) (ran n t within).served

    rested : (n : ℕ) → n < length old → has_flag sends n ≡ false → (slice_index_or mid n z).end ≡ flow.Done
    rested n within off = (ran n z within).rested off

    no-end : (node : ℕ) (f : QueryEnd) → IsEndOf node flow.Done f → ⊥
    no-end node f h = h

    fault-at : (f : QueryEnd) → IsFirst mid f → HasEnded o q first (benches_of mid) f
    fault-at f found =
        ended-by o q is first count s there sends runs old stands nodes how mid served same rested found.node (let w = found.within in let m = stands.many in omega (arith, w, m, same)) (λ k less. found.lowest k z less)
        (λ e. no-end found.node f (subst (λ (x : FlowEnd). IsEndOf found.node x f) e (found.is_end z))) (slice_index_or mid found.node z).end refl f (found.is_end z)

    lack-at : (f : QueryEnd) → Lacks mid f → HasEnded o q first (benches_of mid) f
    lack-at end.Numeric h =
        ended-numeric o q first (benches_of mid) (many-benches mid ∙ same ∙ stands.many) (goes-on o q is first count s there sends runs old stands nodes how mid served same rested)
        (numeric-so o q is first count s there sends runs old stands nodes how mid served same rested h.0 (let w = h.1 in let m = stands.many in omega (arith, w, m, same)) (h.2 z))
    lack-at end.NoMemory h =
        ended-memory o q first (benches_of mid) (many-benches mid ∙ same ∙ stands.many) (goes-on o q is first count s there sends runs old stands nodes how mid served same rested)
    lack-at _ h = absurd h

  some-mid : 0 < length mid
  some-mid = let w = used-within q is (lowest q.basis.owner) (lowest-used q is) in omega (arith, w, nodes, same)

  module _ (back : List (Task S H L)) (heads : AreSameHeads mid back) where
    -- a node met a fault
    pub fault-so : (f : QueryEnd) → IsFirst mid f → HasEnded o q first (benches_of back) f
    fault-so f found = subst (λ (l : List (Bench S H L)). HasEnded o q first l f) (sym (same-benches mid back heads)) (fault-at (item-of mid some-mid) f found)

    -- none did, but there were no rows
    pub lack-so : (f : QueryEnd) → Lacks mid f → HasEnded o q first (benches_of back) f
    lack-so f lacks = subst (λ (l : List (Bench S H L)). HasEnded o q first l f) (sym (same-benches mid back heads)) (lack-at (item-of mid some-mid) f lacks)

    -- the links carry what they did
    pub back-earlier : (n : ℕ) (t : Task S H L) → n < length back → AreEarlier q.query count (o.state (slice_index_or back n t).bench.link).may
    back-earlier n t within =
        let m = stands.many in
        let c = heads.count in
        let w : n < length old = omega (arith, within, same, c) in
        let v : n < length first = omega (arith, w, m) in
        subst (λ (b : Bench S H L). AreEarlier q.query count (o.state b.link).may) (sym (heads.each n t).bench)
        (subst (λ (l : L). AreEarlier q.query count (o.state l).may) (sym (ran n t w).served.link) (stands.each n (item-of first (omega (arith, v))) t v).earlier)

  -- each sender has its lists
  pub parcels-there : (parcels : List Parcels) → AreTaken mid parcels → length sends ≡ 16 → (m : ℕ) → has_flag sends m ≡ true → m < length parcels
  parcels-there parcels taken sixteen m on =
      let b : m < length sends = flag-below sends m on in
      let used = run-used q is sends (list_any (gathers (take count q.plan.slices)) (receives s.root)) runs m (omega (arith, b, sixteen)) on in
      let w = used-within q is m used in
      let c = taken.count in
      omega (arith, w, nodes, same, c)
